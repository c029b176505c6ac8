use Rattle.std.proofs.Common.{◌<◌, ◌∙◌, ap, sym, length, arith}
use Rattle.netcore.specs.Worlds.{would_change}
use Rattle.netcore.specs.Possible.{own_step}
use Rattle.netcore.proofs.Choosing.{passed_over, counted}
use Rattle.netcore.proofs.world.World.nth_own.Goals as goal

pub loop-worker-preserved-then-not-would_change : goal.loop-worker-preserved-then-not-would_change
loop-worker-preserved-then-not-would_change g c =
    let n = length c.args.self.now.owners in
    let lt : c.loop-worker.worker < n = omega (arith, c.owner_count-worker-end.ensures, c.loop-worker-test.true) in
    c.loop-worker.invariant
    ∙ passed_over (would_change g.S.Spread.owner c.args.self.now) (own_step c.args.kind) c.loop-worker.worker n c.loop-worker.left lt
    (ap (would_change g.S.Spread.owner c.args.self.now) (sym c.of-step.ensures) ∙ (sym c.would_change.ensures ∙ c.if-not-would_change.true))

pub loop-worker-preserved : goal.loop-worker-preserved
loop-worker-preserved g c =
    let n = length c.args.self.now.owners in
    let lt : c.loop-worker.worker < n = omega (arith, c.owner_count-worker-end.ensures, c.loop-worker-test.true) in
    c.loop-worker.invariant
    ∙ counted (would_change g.S.Spread.owner c.args.self.now) (own_step c.args.kind) c.loop-worker.worker n c.loop-worker.left lt
    (ap (would_change g.S.Spread.owner c.args.self.now) (sym c.of-step.ensures) ∙ (sym c.would_change.ensures ∙ c.if-not-would_change.false))
    (omega (arith, c.if-left-eq0.false))
