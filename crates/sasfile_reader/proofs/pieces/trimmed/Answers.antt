use Rattle.std.proofs.Common.{arith, sym, ◌∙◌}
use Rattle.sasfile_reader.proofs.Cuts.{trimmed_less, trimmed_done, trimmed_nothing}
use Rattle.sasfile_reader.proofs.pieces.trimmed.Goals as goal
use Rattle.sasfile_reader.proofs.pieces.trimmed.Goals.{then-loop-end-test+else-is_end_byte, else-loop-end-test}

pub loop-end-preserved : goal.loop-end-preserved
loop-end-preserved c =
    (omega arith, trimmed_less c.args.line.now c.loop-end.end c.loop-end-test.true c.loop-end.invariant.0 (sym c.is_end_byte.ensures ∙ c.if-is_end_byte.true) c.loop-end.invariant.1)

pub returns : goal.returns
returns c = elim c.loop-end-test.branch [
  | then-loop-end-test+else-is_end_byte w ↦ trimmed_done c.args.line.now c.loop-end.end w.loop-end-test.true c.loop-end.invariant.0 (sym w.is_end_byte.ensures ∙ w.if-is_end_byte.false) c.loop-end.invariant.1
  | else-loop-end-test w ↦ trimmed_nothing c.args.line.now c.loop-end.end w.loop-end-test.false c.loop-end.invariant.1
]
