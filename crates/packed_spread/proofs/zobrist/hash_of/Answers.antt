use Rattle.std.proofs.Common.{ℕ, sym, ap, ◌∙◌}
use Rattle.std.specs.Prelude.{bit_xor}
use Rattle.packed_spread.specs.Spreads.{word_of}
use Rattle.packed_spread.proofs.Places.{hash_more}
use Rattle.packed_spread.proofs.zobrist.hash_of.Goals as goal

pub loop-variable-preserved : goal.loop-variable-preserved
loop-variable-preserved c =
    let words = c.args.words.now in
    let firsts = c.args.firsts.now in
    let state = c.args.state.now in
    let v = c.loop-variable.variable in
    ap (λ (h : ℕ). bit_xor h (word_of words firsts state v)) c.loop-variable.invariant ∙ sym (hash_more words firsts state v)
