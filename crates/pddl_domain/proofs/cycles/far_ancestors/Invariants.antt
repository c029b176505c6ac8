use Rattle.std.proofs.Common.{length, ◌-◌, ◌≡◌, ◌≤◌, map}
use Rattle.std.specs.List.{range_with_len}
use Rattle.pddl_domain.specs.Cycles.{ancestor}
use Rattle.pddl_domain.proofs.cycles.far_ancestors.Given as goal

abbrev pub invariant-loop-steps : goal.invariant-loop-steps
invariant-loop-steps l = record {
  some : 1 ≤ l.steps;
  far : l.ancestors.items ≡ map (ancestor l.supertypes l.steps) (range_with_len 0 (length l.supertypes));
}

abbrev pub decreases-loop-steps : goal.decreases-loop-steps
decreases-loop-steps l = length l.supertypes - l.steps
