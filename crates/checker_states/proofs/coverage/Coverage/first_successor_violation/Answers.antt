use Rattle.std.proofs.Common.{length, ◌∙◌, ap, sym}
use Rattle.std.proofs.lemmas.Result.{IfOk-weaker}
use Rattle.checker_states.specs.Coverings.{Covering}
use Rattle.checker_pieces.specs.PieceLaws.{first_among}
use Rattle.checker_states.specs.Places.{says_successor}
use Rattle.checker_states.proofs.FirstPlaces.{successors_found}
use Rattle.checker_states.proofs.coverage.Coverage.first_successor_violation.Goals as goal

pub returns : goal.returns
returns g c =
    let counted = c.len-len.ensures ∙ ap length c.closed.ensures ∙ ap (λ (v : Covering). length v.certificate.closed) c.self.view_is in
    IfOk-weaker c.first_in_pieces.result _ _
    (λ v h. successors_found c.args.self.now.task c.args.self.now.certificate v (rw (sym counted)
    (first_among (says_successor c.args.self.now.task c.args.self.now.certificate) _ c.len-len.result (λ start end p is. is) v h))) c.first_in_pieces.ensures
