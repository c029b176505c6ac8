use Rattle.std.proofs.Common.{◌∙◌}
use Rattle.index_rows.specs.Numbers.{AreSameSet}
use Rattle.mutex_index.proofs.SetLaws.{usable_same, within_same}
use Rattle.mutex_index.proofs.index.ActionIndex.is_group.Goals as goal

pub is_usable-requires-clause-within : goal.is_usable-requires-clause-within
is_usable-requires-clause-within c =
    let same : AreSameSet c.deref.result.now c.args.places.now = rw c.deref.ensures.value c.in_ok-group.ensures.same in
    within_same _ c.deref.result.now c.args.places.now same c.requires.within

pub returns : goal.returns
returns c =
    let index = c.args.self.now in
    let same : AreSameSet c.deref.result.now c.args.places.now = rw c.deref.ensures.value c.in_ok-group.ensures.same in
    c.is_usable.ensures ∙ usable_same index.task index.actions index.atoms c.deref.result.now c.args.places.now same
