use Rattle.std.proofs.Common.{◌∙◌, refl}
use Rattle.slots.proofs.Added.{empties_filled}
use Rattle.checker_states.specs.Indexes.{empty}
use Rattle.checker_states.proofs.Indexing.{is_empty}
use Rattle.checker_states.proofs.part.filled.Goals as goal

pub fill-requires-clause-empty : goal.fill-requires-clause-empty
fill-requires-clause-empty c =
    empties_filled empty refl c.deref_mut.result.now c.args.size (c.deref_mut.ensures.value ∙ c.in_ok-slots.ensures.items_if_clones_equal is_empty)
