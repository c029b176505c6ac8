use Rattle.checker_fdr.proofs.FirstFound.{none_met, met_more}
use Rattle.checker_fdr.proofs.fdr_check.closed_violation.Goals as goal

pub covering_violation-requires-clause-clauses : goal.covering_violation-requires-clause-clauses
covering_violation-requires-clause-clauses g c _ _ =
    let task = c.args.task.now in
    let certificate = c.args.certificate.now in
    met_more task certificate 5 c.requires (none_met task certificate 5 c.in_ok-state.field-0 c.in_ok-state.ensures c.in_default.not-Some)
