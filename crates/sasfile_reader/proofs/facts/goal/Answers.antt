use Rattle.std.proofs.lemmas.Result.{err_from_is_err_and}
use Rattle.sasfile_reader.specs.Reading.{goal_at}
use Rattle.sasfile_reader.proofs.Loops.{fails_bind}
use Rattle.sasfile_reader.proofs.facts.goal.Goals as goal

pub returns-in_err-facts-clause-read : goal.returns-in_err-facts-clause-read
unfolding goal_at
returns-in_err-facts-clause-read c =
    let p = err_from_is_err_and c.from_residual-in_err-facts.result c.from_residual-in_err-facts.ensures.1 in
    rw (p.1, p.2, c.in_ok-lines.ensures.line) (fails_bind c.in_err-facts.field-0.0 _ _ c.in_err-facts.ensures.read)
