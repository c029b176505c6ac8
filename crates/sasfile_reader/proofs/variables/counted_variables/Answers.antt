use Rattle.std.proofs.lemmas.Result.{err_from_is_err_and}
use Rattle.sasfile_reader.specs.Reading.{variable_step}
use Rattle.sasfile_reader.specs.Remains.{remaining, names_of}
use Rattle.sasfile_reader.proofs.Loops.{repeated_step, repeated_fails, repeated_done}
use Rattle.sasfile_reader.proofs.variables.counted_variables.Goals as goal

pub returns-in_err-rest-clause-names : goal.returns-in_err-rest-clause-names
returns-in_err-rest-clause-names c =
    let p = err_from_is_err_and c.from_residual.result c.from_residual.ensures.1 in
    rw (p.1, p.2) (repeated_fails c.in_err-rest.field-0.0 variable_step c.args.count c.loop.counter (names_of c.loop.variables) (remaining c.loop.rest) _ c.loop-test.true c.in_err-rest.ensures.names c.loop.invariant.read)

pub loop-preserved : goal.loop-preserved
loop-preserved c = record {
  read = repeated_step variable_step c.args.count c.loop.counter (names_of c.loop.variables) (names_of c.push_variable.new.variables) (remaining c.loop.rest) (remaining c.in_ok-rest.rest) _ c.loop-test.true c.in_ok-rest.ensures.names c.loop.invariant.read;
  ranges = c.in_ok-rest.ensures.ranges;
}

pub returns-clause-names : goal.returns-clause-names
returns-clause-names c = repeated_done variable_step c.args.count c.loop.counter (names_of c.loop.variables) (remaining c.loop.rest) _ c.loop-test.false c.loop.invariant.read
