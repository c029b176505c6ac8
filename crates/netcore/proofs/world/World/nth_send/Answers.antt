use Rattle.std.proofs.Common.{◌≡◌, ◌+◌, ◌-◌, ◌<◌, ◌∙◌, ap, sym, length, arith}
use Rattle.std.specs.Prelude.{slice_get}
use Rattle.netcore.specs.Possible.{sends_of}
use Rattle.netcore.proofs.Choosing.{joined_from, joined_within, joined_past}
use Rattle.netcore.proofs.world.World.nth_send.Goals as goal

pub returns-then-left-count : goal.returns-then-left-count
returns-then-left-count g c =
    let n = length c.args.self.now.owners in
    let i = c.loop-worker.worker in
    let lt : i < n = omega (arith, c.owner_count-worker-end.ensures, c.loop-worker-test.true) in
    c.nth_send_of.ensures
    ∙ sym (c.loop-worker.invariant ∙ joined_within (sends_of g.S.Spread.owner c.args.self.now) i n c.loop-worker.left lt
    (omega (arith, c.send_count_of-count.ensures, c.if-left-count.true)))

pub loop-worker-preserved : goal.loop-worker-preserved
loop-worker-preserved g c =
    let n = length c.args.self.now.owners in
    let i = c.loop-worker.worker in
    let lt : i < n = omega (arith, c.owner_count-worker-end.ensures, c.loop-worker-test.true) in
    let same : c.loop-worker.left - length (sends_of g.S.Spread.owner c.args.self.now i) ≡ c.loop-worker.left - c.send_count_of-count.result =
    omega (arith, c.send_count_of-count.ensures) in
    c.loop-worker.invariant
    ∙ (joined_past (sends_of g.S.Spread.owner c.args.self.now) i n c.loop-worker.left lt
    (omega (arith, c.send_count_of-count.ensures, c.if-left-count.false))
    ∙ ap (λ m. slice_get (joined_from (sends_of g.S.Spread.owner c.args.self.now) (i + 1) n) m) same)
