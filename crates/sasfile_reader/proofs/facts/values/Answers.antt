use Rattle.std.proofs.lemmas.Result.{err_from_is_err_and}
use Rattle.sasfile_reader.specs.Remains.{remaining}
use Rattle.sasfile_reader.proofs.Loops.{values_step, values_fail, values_done}
use Rattle.sasfile_reader.proofs.facts.values.Goals as goal

pub returns-in_err-rest : goal.returns-in_err-rest
returns-in_err-rest c =
    let p = err_from_is_err_and c.from_residual.result c.from_residual.ensures.1 in
    rw (p.1, p.2) (values_fail c.in_err-rest.field-0.0 c.args.ranges.now c.loop-range.range-index c.loop-range.values.items (remaining c.loop-range.rest) _ c.loop-range-test.true c.in_err-rest.ensures c.loop-range.invariant)

pub loop-range-preserved : goal.loop-range-preserved
loop-range-preserved c = values_step c.args.ranges.now c.loop-range.range-index c.loop-range.values.items c.push_value.new.values.items (remaining c.loop-range.rest) (remaining c.in_ok-rest.rest) _ c.loop-range-test.true c.in_ok-rest.ensures c.loop-range.invariant

pub returns : goal.returns
returns c = values_done c.args.ranges.now c.loop-range.range-index c.loop-range.values.items (remaining c.loop-range.rest) _ c.loop-range-test.false c.loop-range.invariant
