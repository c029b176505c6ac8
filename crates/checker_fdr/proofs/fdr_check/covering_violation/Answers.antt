use Rattle.std.proofs.Common.{arith}
use Rattle.checker_fdr.proofs.FirstFound.{none_met, met_more, found_more_if}
use Rattle.checker_fdr.proofs.fdr_check.covering_violation.Goals as goal

pub returns : goal.returns
returns g c =
    let task = c.args.task.now in
    let certificate = c.args.certificate.now in
    let six = met_more task certificate 6 c.requires.clauses
    (none_met task certificate 6 c.start_violation.result (rw (c.requires.task, c.requires.certificate) at c.start_violation.ensures) c.in_default.not-Some) in
    let seven = met_more task certificate 7 six
    (none_met task certificate 7 c.in_ok-goal.field-0 c.in_ok-goal.ensures c.in_default-2.not-Some) in
    found_more_if task certificate 8 c.first_successor_violation.result (omega arith) seven (rw (c.requires.task, c.requires.certificate) at c.first_successor_violation.ensures)
