use Rattle.std.proofs.Common.{refl}
use Rattle.std.proofs.lemmas.Result.{err_from_is_err_and}
use Rattle.sasfile_reader.specs.Reading.{group_step}
use Rattle.sasfile_reader.proofs.Loops.{fails_bind}
use Rattle.sasfile_reader.proofs.facts.group.Goals as goal

pub returns-in_err-lines : goal.returns-in_err-lines
unfolding group_step
returns-in_err-lines c =
    let p = err_from_is_err_and c.from_residual.result c.from_residual.ensures.1 in
    rw (p.1, p.2) (fails_bind c.in_err-lines.field-0.0 _ _ c.in_err-lines.ensures.line)

pub returns-in_err-count : goal.returns-in_err-count
unfolding group_step
returns-in_err-count c =
    let p = err_from_is_err_and c.from_residual-in_err-count.result c.from_residual-in_err-count.ensures.1 in
    rw (p.1, p.2, c.in_ok-lines.ensures.line) (fails_bind c.in_err-count.field-0.0 _ _ c.in_err-count.ensures.line)

pub returns-in_err-lines-2 : goal.returns-in_err-lines-2
unfolding group_step
returns-in_err-lines-2 c =
    let p = err_from_is_err_and c.from_residual-in_err-lines-2.result c.from_residual-in_err-lines-2.ensures.1 in
    rw (p.1, p.2, c.in_ok-lines.ensures.line, c.in_ok-count.ensures.line) (fails_bind c.in_err-lines-2.field-0.0 _ _ c.in_err-lines-2.ensures)

pub returns-in_err-lines-3 : goal.returns-in_err-lines-3
unfolding group_step
returns-in_err-lines-3 c =
    let p = err_from_is_err_and c.from_residual-in_err-lines-3.result c.from_residual-in_err-lines-3.ensures.1 in
    rw (p.1, p.2, c.in_ok-lines.ensures.line, c.in_ok-count.ensures.line, c.in_ok-lines-2.ensures) (fails_bind c.in_err-lines-3.field-0.0 _ _ c.in_err-lines-3.ensures.line)

pub returns : goal.returns
unfolding group_step
returns c = rw (c.in_ok-lines.ensures.line, c.in_ok-count.ensures.line, c.in_ok-lines-2.ensures, c.in_ok-lines-3.ensures.line) refl
