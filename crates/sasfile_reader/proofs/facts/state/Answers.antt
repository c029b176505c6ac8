use Rattle.std.proofs.lemmas.Result.{err_from_is_err_and}
use Rattle.sasfile_reader.specs.Reading.{state_at}
use Rattle.sasfile_reader.proofs.Loops.{fails_bind}
use Rattle.sasfile_reader.proofs.facts.state.Goals as goal

pub returns-in_err-values : goal.returns-in_err-values
unfolding state_at
returns-in_err-values c =
    let p = err_from_is_err_and c.from_residual-in_err-values.result c.from_residual-in_err-values.ensures.1 in
    rw (p.1, p.2, c.in_ok-lines.ensures.line) (fails_bind c.in_err-values.field-0.0 _ _ c.in_err-values.ensures)

pub returns-in_err-lines-2 : goal.returns-in_err-lines-2
unfolding state_at
returns-in_err-lines-2 c =
    let p = err_from_is_err_and c.from_residual-in_err-lines-2.result c.from_residual-in_err-lines-2.ensures.1 in
    rw (p.1, p.2, c.in_ok-lines.ensures.line, c.in_ok-values.ensures) (fails_bind c.in_err-lines-2.field-0.0 _ _ c.in_err-lines-2.ensures.line)
