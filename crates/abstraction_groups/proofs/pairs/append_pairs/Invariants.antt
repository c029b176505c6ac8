use Rattle.std.proofs.Common.{◌≡◌, ◌≤◌, ◌++◌, length, drop}
use Rattle.abstraction_groups.specs.Changes.{at_digits}
use Rattle.abstraction_groups.specs.Pairs.{first_entry, entries_from}
use Rattle.abstraction_groups.proofs.pairs.append_pairs.Given as goal

abbrev pub invariant-loop-place : goal.invariant-loop-place
invariant-loop-place l = record {
  low : l.place ≤ length l.changes;
  made : l.entries.items ≡ l.fn.entries.items
      ++ entries_from (first_entry l.class (at_digits l.digits l.changes)) (drop l.place (at_digits l.digits l.changes));
}

abbrev pub decreases-loop-place : goal.decreases-loop-place
decreases-loop-place l = l.place
