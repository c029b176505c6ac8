use Rattle.std.proofs.Common.{rules, map, string_bytes}
use Rattle.std.proofs.lemmas.Result.{err_from_is_err_and}
use Rattle.sasfile_reader.specs.Reading.{text_step}
use Rattle.sasfile_reader.specs.Remains.{remaining}
use Rattle.sasfile_reader.proofs.Loops.{repeated_step, repeated_fails, repeated_done}
use Rattle.sasfile_reader.proofs.variables.counted_texts.Goals as goal

pub returns-in_err-rest-clause-texts : goal.returns-in_err-rest-clause-texts
returns-in_err-rest-clause-texts c =
    let p = err_from_is_err_and c.from_residual.result c.from_residual.ensures.1 in
    rw (p.1, p.2) (repeated_fails c.in_err-rest.field-0.0 text_step c.args.count c.loop.counter (map string_bytes c.loop.texts.items) (remaining c.loop.rest) _ c.loop-test.true c.in_err-rest.ensures.text c.loop.invariant.read)

pub loop-preserved : goal.loop-preserved
loop-preserved c = record {
  read = repeated_step text_step c.args.count c.loop.counter (map string_bytes c.loop.texts.items) (map string_bytes c.push_text.new.texts.items) (remaining c.loop.rest) (remaining c.in_ok-rest.rest) _ c.loop-test.true c.in_ok-rest.ensures.text c.loop.invariant.read;
  len = search rules;
}

pub returns-clause-texts : goal.returns-clause-texts
returns-clause-texts c = repeated_done text_step c.args.count c.loop.counter (map string_bytes c.loop.texts.items) (remaining c.loop.rest) _ c.loop-test.false c.loop.invariant.read
