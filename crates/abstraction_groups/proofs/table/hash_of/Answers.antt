use Rattle.std.proofs.Common.{List, ap, ◌∙◌, arith}
use Rattle.std.specs.Prelude.{fold}
use Rattle.std.proofs.lemmas.List.{take_all}
use Rattle.abstraction_groups.specs.declared.change.Change.{Change}
use Rattle.abstraction_groups.specs.Hashes.{hash_step, hash_of}
use Rattle.abstraction_groups.proofs.table.hash_of.Goals as goal

pub returns : goal.returns
unfolding hash_of
returns c = c.loop-change.invariant ∙ ap (λ (xs : List Change). fold hash_step 14695981039346656037 xs) (take_all c.loop-change.change-index c.args.changes.now (omega arith))
