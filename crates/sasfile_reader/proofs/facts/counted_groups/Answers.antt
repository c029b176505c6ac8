use Rattle.std.proofs.lemmas.Result.{err_from_is_err_and}
use Rattle.sasfile_reader.specs.Reading.{group_step}
use Rattle.sasfile_reader.specs.Remains.{remaining}
use Rattle.sasfile_reader.proofs.Loops.{repeated_step, repeated_fails, repeated_done}
use Rattle.sasfile_reader.proofs.facts.counted_groups.Goals as goal

pub returns-in_err-rest : goal.returns-in_err-rest
returns-in_err-rest c =
    let p = err_from_is_err_and c.from_residual.result c.from_residual.ensures.1 in
    rw (p.1, p.2) (repeated_fails c.in_err-rest.field-0.0 (group_step c.args.ranges.now) c.args.count c.loop.counter tt (remaining c.loop.rest) _ c.loop-test.true c.in_err-rest.ensures c.loop.invariant)

pub loop-preserved : goal.loop-preserved
loop-preserved c = repeated_step (group_step c.args.ranges.now) c.args.count c.loop.counter tt tt (remaining c.loop.rest) (remaining c.in_ok-rest.rest) _ c.loop-test.true c.in_ok-rest.ensures c.loop.invariant

pub returns : goal.returns
returns c = repeated_done (group_step c.args.ranges.now) c.args.count c.loop.counter tt (remaining c.loop.rest) _ c.loop-test.false c.loop.invariant
