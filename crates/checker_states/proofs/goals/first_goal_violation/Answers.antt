use Rattle.std.proofs.Common.{length, ◌∙◌, ap, sym}
use Rattle.std.proofs.lemmas.Result.{IfOk-weaker}
use Rattle.checker_pieces.specs.PieceLaws.{first_among}
use Rattle.checker_states.specs.Places.{says_goal}
use Rattle.checker_states.proofs.FirstPlaces.{goals_found}
use Rattle.checker_states.proofs.goals.first_goal_violation.Goals as goal

pub returns : goal.returns
returns g c =
    let counted = c.len.ensures ∙ ap length c.closed.ensures in
    IfOk-weaker c.first_in_pieces.result _ _
    (λ v h. goals_found c.args.task.now c.args.certificate.now v (rw (sym counted)
    (first_among (says_goal c.args.task.now c.args.certificate.now) _ c.len.result (λ start end p is. is) v h))) c.first_in_pieces.ensures
