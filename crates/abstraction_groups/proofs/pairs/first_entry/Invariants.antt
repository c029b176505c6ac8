use Rattle.std.proofs.Common.{◌≡◌, ◌+◌, drop}
use Rattle.abstraction_groups.specs.Changes.{at_digits}
use Rattle.abstraction_groups.specs.Pairs.{least_source, least_target}
use Rattle.abstraction_groups.proofs.pairs.first_entry.Given as goal

abbrev pub invariant-loop-place : goal.invariant-loop-place
invariant-loop-place l = record {
  sources : l.source + least_source (drop l.place (at_digits l.digits l.changes)) ≡ least_source (at_digits l.digits l.changes);
  targets : l.target + least_target (drop l.place (at_digits l.digits l.changes)) ≡ least_target (at_digits l.digits l.changes);
}
