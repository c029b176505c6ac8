use Rattle.reduction.proofs.ClosingLaws.{open_more}
use Rattle.reduction.proofs.closing.Closing.close.Goals as goal

pub loop-fact-preserved : goal.loop-fact-preserved
loop-fact-preserved c =
    let loop = c.loop-fact.self in
    let new = c.visit.new.self in
    record {
      closing = c.in_ok-visit.ensures.closing;
      asked = λ f h. c.in_ok-visit.ensures.grows.facts f (c.loop-fact.invariant.asked f h);
      visited = c.in_ok-visit.ensures.visited;
      pending = open_more c.args.task.now loop.asked new.asked loop.changing.items new.changing.items loop.pending.items c.pop.new.self.items new.pending.items c.in-Some.fact c.in-Some.ensures.items c.loop-fact.invariant.pending
          c.in_ok-visit.ensures.grows c.in_ok-visit.ensures.marks c.in_ok-visit.ensures.served;
    }
