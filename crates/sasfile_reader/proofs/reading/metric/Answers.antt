use Rattle.std.proofs.lemmas.Result.{err_from_is_err_and}
use Rattle.sasfile_reader.specs.Reading.{metric_at}
use Rattle.sasfile_reader.proofs.Loops.{fails_bind}
use Rattle.sasfile_reader.proofs.reading.metric.Goals as goal

pub returns-in_err-rest : goal.returns-in_err-rest
unfolding metric_at
returns-in_err-rest c =
    let p = err_from_is_err_and c.from_residual-in_err-rest.result c.from_residual-in_err-rest.ensures.1 in
    rw (p.1, p.2, c.in_ok-lines.ensures.line, c.in_ok-flag.ensures.line, ← c.in-Some.ensures) (fails_bind c.in_err-rest.field-0.0 _ _ c.in_err-rest.ensures.line)
