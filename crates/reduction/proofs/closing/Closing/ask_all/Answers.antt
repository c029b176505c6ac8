use Rattle.std.proofs.Common.{◌∙◌}
use Rattle.reduction.proofs.ClosingSteps.{asks_step}
use Rattle.reduction.proofs.closing.Closing.ask_all.Goals as goal

pub loop-fact-preserved : goal.loop-fact-preserved
loop-fact-preserved c =
    record {
      asks = asks_step c.args.self.now.asked c.loop-fact.self.asked c.ask.new.self.asked c.args.self.now.pending.items c.loop-fact.self.pending.items c.ask.new.self.pending.items c.args.facts.now c.loop-fact.fact-index
          (record { variable = 0; value = 0 }) c.loop-fact-test.true c.loop-fact.invariant.asks c.in_ok-ask.ensures.asks;
      changing = c.in_ok-ask.ensures.changing ∙ c.loop-fact.invariant.changing;
      visited = c.in_ok-ask.ensures.visited ∙ c.loop-fact.invariant.visited;
    }
