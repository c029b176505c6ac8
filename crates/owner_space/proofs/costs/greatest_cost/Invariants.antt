use Rattle.std.proofs.Common.{◌≡◌, ◌≤◌}
use Rattle.cost.specs.declared.TheConstants.{MAX_COST}
use Rattle.owner_space.specs.Costs.{greatest_of}
use Rattle.owner_space.proofs.costs.greatest_cost.Given as goal

abbrev pub invariant-loop-operator : goal.invariant-loop-operator
invariant-loop-operator l = record {
  value : l.greatest ≡ greatest_of l.task l.operator;
  bound : l.greatest ≤ MAX_COST;
}
