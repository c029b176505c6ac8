use Rattle.std.proofs.Common.{arith}
use Rattle.reduction.proofs.LoopLaws.{set_more}
use Rattle.reduction.proofs.entries.set_values.Goals as goal

pub loop-fact-preserved : goal.loop-fact-preserved
loop-fact-preserved c =
    let i = c.loop-fact.fact-index in
    set_more c.args.facts.now i c.loop-fact.values c.loop-fact-test.true (omega (arith, c.requires.exist i (record { variable = 0; value = 0 }) c.loop-fact-test.true, c.loop-fact.auto.values)) c.requires.distinct c.loop-fact.invariant
