use Rattle.std.proofs.Common.{sym, ◌∙◌}
use Rattle.sasfile_reader.proofs.Cuts.{words_blank_as, words_first_as, words_end_as}
use Rattle.sasfile_reader.proofs.pieces.next_word.Goals as goal

pub returns-then-not-is_empty : goal.returns-then-not-is_empty
returns-then-not-is_empty c =
    words_first_as c.args.line.now c.loop-rest.rest.now c.first_piece.result.0.now c.first_piece.result.1.now (sym c.is_empty-in-loop-rest.ensures ∙ c.if-not-is_empty.true) c.first_piece.ensures.pieces c.loop-rest.invariant

pub loop-rest-preserved : goal.loop-rest-preserved
loop-rest-preserved c =
    words_blank_as c.args.line.now c.loop-rest.rest.now c.first_piece.result.0.now c.first_piece.result.1.now (sym c.is_empty-in-loop-rest.ensures ∙ c.if-not-is_empty.false) c.first_piece.ensures.pieces c.loop-rest.invariant

pub returns : goal.returns
returns c = words_end_as c.args.line.now c.loop-rest.rest.now (sym c.is_empty.ensures ∙ c.loop-rest-test.false) c.loop-rest.invariant
