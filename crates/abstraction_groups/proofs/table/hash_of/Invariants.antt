use Rattle.std.proofs.Common.{◌≡◌, take}
use Rattle.std.specs.Prelude.{fold}
use Rattle.abstraction_groups.specs.Hashes.{hash_step}
use Rattle.abstraction_groups.proofs.table.hash_of.Given as goal

abbrev pub invariant-loop-change : goal.invariant-loop-change
invariant-loop-change l = l.hash ≡ fold hash_step 14695981039346656037 (take l.change-index l.changes)
