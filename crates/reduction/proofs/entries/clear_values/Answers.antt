use Rattle.reduction.proofs.LoopLaws.{clear_all}
use Rattle.reduction.proofs.entries.clear_values.Goals as goal

pub returns-clause-none : goal.returns-clause-none
returns-clause-none c = clear_all c.args.facts.now c.loop-fact.fact-index c.loop-fact.values c.loop-fact-test.false c.loop-fact.invariant
