use Rattle.std.proofs.Common.{◌<◌, length, arith}
use Rattle.netcore.proofs.Places.{at_here}
use Rattle.netcore.proofs.Expanding.{expand_past, expand_done, expand_kept, expand_refused, expand_refused_kept}
use Rattle.netcore.proofs.world.World.expand.Goals as goal
use Rattle.netcore.proofs.world.World.expand.Goals.{in-Ok, in-Err}

pub returns-then-worker-len : goal.returns-then-worker-len
returns-then-worker-len g c = rw (← c.self.view_is) (expand_past g.S.Spread.owner _ c.args.worker (omega (arith, c.len.ensures, c.if-worker-len.true)))

pub invariant_of-self : goal.invariant_of-self
invariant_of-self g c =
    let lt : c.args.worker < length c.self.inside.owners.items = omega (arith, c.len.ensures, c.if-worker-len.false) in
    let at = at_here c.self.inside.owners.items c.args.worker c.index_mut.result.now lt c.index_mut.ensures.value in
    let seen = at_here c.self.inside.seen.items c.args.worker c.index.result.now (omega (arith, lt, c.self.invariant.bounds)) c.index.ensures in
    elim c.match-expand.branch [
      | in-Ok w ↦
          expand_kept g.S.Spread.owner _ c.args.worker c.index_mut.result.now c.expand.new.self c.index.result.now w.in-Ok.posted c.self.invariant at seen
          w.in-Ok.ensures.expanded c.expand.ensures.space c.expand.ensures.worker c.expand.ensures.owners
      | in-Err w ↦
          expand_refused_kept g.S.Spread.owner _ c.args.worker c.index_mut.result.now c.expand.new.self c.index.result.now w.in-Err.fault c.self.invariant at
          w.in-Err.ensures.refused
    ]

pub returns : goal.returns
returns g c =
    let lt : c.args.worker < length c.self.inside.owners.items = omega (arith, c.len.ensures, c.if-worker-len.false) in
    let at = at_here c.self.inside.owners.items c.args.worker c.index_mut.result.now lt c.index_mut.ensures.value in
    let seen = at_here c.self.inside.seen.items c.args.worker c.index.result.now (omega (arith, lt, c.self.invariant.bounds)) c.index.ensures in
    elim c.match-expand.branch [
      | in-Ok w ↦
          rw (w.result-is, ← c.self.view_is, w.is_some.ensures)
          (expand_done g.S.Spread.owner _ c.args.worker c.index_mut.result.now c.expand.new.self c.index.result.now w.in-Ok.posted c.self.invariant at seen
          w.in-Ok.ensures.expanded)
      | in-Err w ↦
          rw (w.result-is, ← c.self.view_is)
          (expand_refused g.S.Spread.owner _ c.args.worker c.index_mut.result.now c.expand.new.self c.index.result.now w.in-Err.fault c.self.invariant at seen
          w.in-Err.ensures.refused)
    ]
