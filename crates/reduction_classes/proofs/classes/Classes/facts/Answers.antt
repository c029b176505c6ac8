use Rattle.reduction_classes.proofs.Loops.{facts_some, facts_none}
use Rattle.reduction_classes.proofs.classes.Classes.facts.Goals as goal
use Rattle.reduction_classes.proofs.classes.Classes.facts.Goals.{in-Some+in_ok-push, in_default}

pub loop-fact-preserved : goal.loop-fact-preserved
loop-fact-preserved c = elim c.match-fact.branch [
  | in-Some+in_ok-push w ↦ rw (w.images-is, w.in_ok-push.ensures.items)
      (facts_some c.args.self.now c.args.facts.now c.loop-fact.fact-index w.in-Some.image c.loop-fact.images.items c.loop-fact-test.true c.loop-fact.invariant w.in-Some.ensures)
  | in_default w ↦ rw w.images-is
      (facts_none c.args.self.now c.args.facts.now c.loop-fact.fact-index c.loop-fact.images.items c.loop-fact-test.true c.loop-fact.invariant w.in_default.ensures)
]
