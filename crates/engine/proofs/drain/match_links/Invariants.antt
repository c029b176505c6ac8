use Rattle.std.proofs.Common.{◌≡◌, length}
use Rattle.std.specs.List.{insert}
use Rattle.engine.proofs.Emptying.{AreMatching}
use Rattle.engine.proofs.drain.match_links.Given as goal

abbrev pub invariant-loop-from : goal.invariant-loop-from
invariant-loop-from g l =
    AreMatching g.S.Spread.owner l.from l.to (insert l.fn.others.items l.to l.fn.receiver) (insert l.others.items l.to l.receiver)
    × (length l.others.items ≡ length l.fn.others.items)
