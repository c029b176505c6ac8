use Rattle.std.proofs.Common.{◌≡◌, ◌∙◌, true, sym}
use Rattle.std.proofs.lemmas.Result.{IfOk-weaker}
use Rattle.translate_choice.specs.Choices.{is_left, IsNext}
use Rattle.translate_choice.proofs.PlacedLaws.{single_next}
use Rattle.translate_choice.proofs.ChoiceLaws.{one_more}
use Rattle.translate_choice.proofs.choice.take_atom.Goals as goal

pub returns-clause-choice : goal.returns-clause-choice
returns-clause-choice c =
    let index = c.args.index.now in
    let taken = c.args.choice.now.taken.items in
    let left : is_left index taken c.args.place ≡ true = rw c.deref.ensures.value at (sym c.is_left.ensures ∙ c.if-not-is_left.false) in
    let next : IsNext index taken (record { places = c.in_ok-places.places.items; has_none = true }) =
    rw c.in_ok-places.ensures.items (single_next index taken c.args.place c.requires.within left) in
    IfOk-weaker c.add.result _ _ (λ _ adds. one_more index c.args.choice.now c.add.new.self _ c.requires.choice next adds) c.add.ensures
