use Rattle.std.proofs.Common.{◌≡◌, ◌≤◌}
use Rattle.cost.specs.declared.TheConstants.{MAX_COST}
use Rattle.owner_space.specs.Costs.{least_of}
use Rattle.owner_space.proofs.costs.least_cost.Given as goal

abbrev pub invariant-loop-operator : goal.invariant-loop-operator
invariant-loop-operator l = record {
  value : l.least ≡ least_of l.task l.operator;
  bound : l.least ≤ MAX_COST;
}
