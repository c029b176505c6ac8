use Rattle.std.proofs.Common.{◌∙◌}
use Rattle.std.proofs.lemmas.Result.{IfOk-weaker}
use Rattle.ground_atoms.specs.Order.{AreDistinct}
use Rattle.translate_choice.proofs.PlacedLaws.{goals_from}
use Rattle.translate_choice.proofs.offers.goal_flags.Goals as goal

pub returns : goal.returns
returns c =
    let index = c.args.index.now in
    let distinct : AreDistinct index.atoms = rw c.atoms.ensures at c.as_slice.ensures.distinct in
    IfOk-weaker c.set_flags.result _ _
    (λ flags told. goals_from index flags.items c.deref.result.now distinct (c.deref.ensures.value ∙ c.in_ok-places.ensures)
    (λ p l. told p (rw (c.as_slice.ensures.atoms ∙ c.atoms.ensures) l)))
    c.set_flags.ensures
