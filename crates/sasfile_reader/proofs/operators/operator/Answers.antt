use Rattle.std.proofs.Common.{refl}
use Rattle.std.proofs.lemmas.Result.{err_from_is_err_and}
use Rattle.sasfile_reader.specs.Reading.{operator_at}
use Rattle.sasfile_reader.proofs.Loops.{fails_bind}
use Rattle.sasfile_reader.proofs.operators.operator.Goals as goal

pub returns-in_err-lines-clause-read : goal.returns-in_err-lines-clause-read
unfolding operator_at
returns-in_err-lines-clause-read c =
    let p = err_from_is_err_and c.from_residual.result c.from_residual.ensures.1 in
    rw (p.1, p.2) (fails_bind c.in_err-lines.field-0.0 _ _ c.in_err-lines.ensures.line)

pub returns-in_err-name-clause-read : goal.returns-in_err-name-clause-read
unfolding operator_at
returns-in_err-name-clause-read c =
    let p = err_from_is_err_and c.from_residual-in_err-name.result c.from_residual-in_err-name.ensures.1 in
    rw (p.1, p.2, c.in_ok-lines.ensures.line) (fails_bind c.in_err-name.field-0.0 _ _ c.in_err-name.ensures.text)

pub returns-in_err-halves-clause-read : goal.returns-in_err-halves-clause-read
unfolding operator_at
returns-in_err-halves-clause-read c =
    let p = err_from_is_err_and c.from_residual-in_err-halves.result c.from_residual-in_err-halves.ensures.1 in
    rw (p.1, p.2, c.in_ok-lines.ensures.line, c.in_ok-name.ensures.text) (fails_bind c.in_err-halves.field-0.0 _ _ c.in_err-halves.ensures.read)

pub returns-in_err-lines-2-clause-read : goal.returns-in_err-lines-2-clause-read
unfolding operator_at
returns-in_err-lines-2-clause-read c =
    let p = err_from_is_err_and c.from_residual-in_err-lines-2.result c.from_residual-in_err-lines-2.ensures.1 in
    rw (p.1, p.2, c.in_ok-lines.ensures.line, c.in_ok-name.ensures.text, c.in_ok-halves.ensures.read, c.in-Ok.ensures.cost) (fails_bind c.in_err-lines-2.field-0.0 _ _ c.in_err-lines-2.ensures.line)

pub returns-clause-read : goal.returns-clause-read
unfolding operator_at
returns-clause-read c = rw (c.in_ok-lines.ensures.line, c.in_ok-name.ensures.text, c.in_ok-halves.ensures.read, c.in-Ok.ensures.cost, c.in_ok-lines-2.ensures.line) refl

pub returns-in-Err-clause-read : goal.returns-in-Err-clause-read
unfolding operator_at
returns-in-Err-clause-read c = rw (c.in_ok-lines.ensures.line, c.in_ok-name.ensures.text, c.in_ok-halves.ensures.read) (fails_bind c.in-Err.fault _ _ c.in-Err.ensures.cost)
