use Rattle.std.proofs.Common.{◌≡◌, ◌*◌, drop}
use Rattle.abstraction_groups.specs.Changes.{at_digits, pair_count}
use Rattle.abstraction_groups.proofs.groups.pair_count.Given as goal

abbrev pub invariant-loop-place : goal.invariant-loop-place
invariant-loop-place l = l.count * pair_count (drop l.place (at_digits l.digits l.changes)) ≡ pair_count (at_digits l.digits l.changes)
