use Rattle.std.proofs.Common.{ap, sym, ◌∙◌, ◌<◌, ◌+◌, length, fold, arith}
use Rattle.std.proofs.lemmas.List.{drop_all}
use Rattle.std.specs.Prelude.{slice_index}
use Rattle.std.proofs.lemmas.List.Elements.{All-weaker}
use Rattle.fdr.specs.declared.fact.Fact.{Fact}
use Rattle.packed_spread.proofs.Changes.{with_word, hash_changed}
use Rattle.packed_spread.proofs.zobrist.hash_after.Goals as goal

pub returns : goal.returns
returns c =
    let words = c.args.words.now in
    let firsts = c.args.firsts.now in
    let state = c.args.state.now in
    let facts = c.args.facts.now in
    ap (λ fs. fold (with_word words firsts state) c.loop-fact.changed fs) (sym (drop_all c.loop-fact.fact-index facts (omega (arith, c.loop-fact-test.false))))
    ∙ c.loop-fact.invariant
    ∙ ap (λ h. fold (with_word words firsts state) h facts) c.requires.hash
    ∙ hash_changed words firsts state facts c.requires.long
    (All-weaker (λ (f : Fact). (f.variable < length firsts) × (slice_index firsts f.variable + f.value < length words)) (λ f. f.variable < length firsts)
    (λ f both. both.0) facts c.requires.facts)
    c.requires.distinct
