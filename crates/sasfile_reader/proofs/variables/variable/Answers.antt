use Rattle.std.proofs.Common.{refl}
use Rattle.std.proofs.lemmas.Result.{err_from_is_err_and}
use Rattle.sasfile_reader.specs.Reading.{variable_at}
use Rattle.sasfile_reader.proofs.Loops.{fails_bind}
use Rattle.sasfile_reader.proofs.variables.variable.Goals as goal

pub returns-in_err-lines-clause-names : goal.returns-in_err-lines-clause-names
unfolding variable_at
returns-in_err-lines-clause-names c =
    let p = err_from_is_err_and c.from_residual.result c.from_residual.ensures.1 in
    rw (p.1, p.2) (fails_bind c.in_err-lines.field-0.0 _ _ c.in_err-lines.ensures.line)

pub returns-in_err-lines-2-clause-names : goal.returns-in_err-lines-2-clause-names
unfolding variable_at
returns-in_err-lines-2-clause-names c =
    let p = err_from_is_err_and c.from_residual-in_err-lines-2.result c.from_residual-in_err-lines-2.ensures.1 in
    rw (p.1, p.2, c.in_ok-lines.ensures.line) (fails_bind c.in_err-lines-2.field-0.0 _ _ c.in_err-lines-2.ensures.line)

pub returns-in_err-names-clause-names : goal.returns-in_err-names-clause-names
unfolding variable_at
returns-in_err-names-clause-names c =
    let p = err_from_is_err_and c.from_residual-in_err-names.result c.from_residual-in_err-names.ensures.1 in
    rw (p.1, p.2, c.in_ok-lines.ensures.line, c.in_ok-lines-2.ensures.line, c.in_ok-lines-3.ensures, c.in_ok-range.ensures.range) (fails_bind c.in_err-names.field-0.0 _ _ c.in_err-names.ensures.texts)

pub returns-in_err-lines-4-clause-names : goal.returns-in_err-lines-4-clause-names
unfolding variable_at
returns-in_err-lines-4-clause-names c =
    let p = err_from_is_err_and c.from_residual-in_err-lines-4.result c.from_residual-in_err-lines-4.ensures.1 in
    rw (p.1, p.2, c.in_ok-lines.ensures.line, c.in_ok-lines-2.ensures.line, c.in_ok-lines-3.ensures, c.in_ok-range.ensures.range, c.in_ok-names.ensures.texts) (fails_bind c.in_err-lines-4.field-0.0 _ _ c.in_err-lines-4.ensures.line)

pub returns-clause-names : goal.returns-clause-names
unfolding variable_at
returns-clause-names c = rw (c.in_ok-lines.ensures.line, c.in_ok-lines-2.ensures.line, c.in_ok-lines-3.ensures, c.in_ok-range.ensures.range, c.in_ok-names.ensures.texts, c.in_ok-lines-4.ensures.line) refl
