use Rattle.std.proofs.Common.{rules}
use Rattle.std.proofs.lemmas.Result.{err_from_is_err_and}
use Rattle.sasfile_reader.specs.Reading.{change_step}
use Rattle.sasfile_reader.specs.Remains.{remaining, halves}
use Rattle.sasfile_reader.proofs.Loops.{repeated_step, repeated_fails, repeated_done}
use Rattle.sasfile_reader.proofs.effects.counted_changes.Goals as goal

pub returns-in_err-rest-clause-read : goal.returns-in_err-rest-clause-read
returns-in_err-rest-clause-read c =
    let p = err_from_is_err_and c.from_residual.result c.from_residual.ensures.1 in
    rw (p.1, p.2) (repeated_fails c.in_err-rest.field-0.0 (change_step c.args.ranges.now) c.args.count c.loop.counter (halves c.loop.kept) (remaining c.loop.rest) _ c.loop-test.true c.in_err-rest.ensures.read c.loop.invariant.read)

pub loop-preserved : goal.loop-preserved
loop-preserved c = record {
  read = repeated_step (change_step c.args.ranges.now) c.args.count c.loop.counter (halves c.loop.kept) (halves c.push_change.new.kept) (remaining c.loop.rest) (remaining c.in_ok-rest.rest) _ c.loop-test.true c.in_ok-rest.ensures.read c.loop.invariant.read;
  marks = c.in_ok-rest.ensures.marks;
  later = c.in_ok-rest.ensures.later;
  len = search rules;
}

pub returns-clause-read : goal.returns-clause-read
returns-clause-read c = repeated_done (change_step c.args.ranges.now) c.args.count c.loop.counter (halves c.loop.kept) (remaining c.loop.rest) _ c.loop-test.false c.loop.invariant.read
