use Rattle.std.proofs.Common.{◌≡◌, drop}
use Rattle.std.specs.Prelude.{nat_lt, sum_by}
use Rattle.pddl.specs.Sums as spec
use Rattle.pddl.proofs.sums.cost_too_much.Given as goal

abbrev pub invariant-loop-increase : goal.invariant-loop-increase
invariant-loop-increase l =
    nat_lt l.left (sum_by (spec.most_known l.greatest.entries) (drop l.increase-index l.increases))
    ≡ nat_lt 2147483647 (sum_by (spec.most_known l.greatest.entries) l.increases)
