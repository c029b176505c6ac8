use Rattle.std.proofs.Common.{◌<◌, ◌∙◌, sym, length, arith}
use Rattle.netcore.specs.declared.step.WorldStep.TheVariants.{Send}
use Rattle.netcore.specs.Worlds.{would_change}
use Rattle.netcore.proofs.Choosing.{passed_over, counted}
use Rattle.netcore.proofs.world.World.nth_send_of.Goals as goal

pub loop-to-preserved-then-not-could_send : goal.loop-to-preserved-then-not-could_send
loop-to-preserved-then-not-could_send g c =
    let n = length c.args.self.now.owners in
    let lt : c.loop-to.to < n = omega (arith, c.owner_count-to-end.ensures, c.loop-to-test.true) in
    c.loop-to.invariant
    ∙ passed_over (would_change g.S.Spread.owner c.args.self.now) (Send c.args.worker) c.loop-to.to n c.loop-to.left lt
    (sym c.could_send.ensures ∙ c.if-not-could_send.true)

pub loop-to-preserved : goal.loop-to-preserved
loop-to-preserved g c =
    let n = length c.args.self.now.owners in
    let lt : c.loop-to.to < n = omega (arith, c.owner_count-to-end.ensures, c.loop-to-test.true) in
    c.loop-to.invariant
    ∙ counted (would_change g.S.Spread.owner c.args.self.now) (Send c.args.worker) c.loop-to.to n c.loop-to.left lt
    (sym c.could_send.ensures ∙ c.if-not-could_send.false)
    (omega (arith, c.if-left-eq0.false))
