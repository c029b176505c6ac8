use Rattle.std.proofs.Common.{◌<◌, ◌∙◌, ap, length, arith}
use Rattle.std.specs.Prelude.{nat_lt}
use Rattle.netcore.proofs.Places.{at_here, at_some}
use Rattle.netcore.proofs.Changing.{send_test, send_to_past_test}
use Rattle.netcore.proofs.world.World.could_send.Goals as goal

pub returns-then-to-len : goal.returns-then-to-len
returns-then-to-len g c =
    let lt : c.args.worker < length c.self.inside.owners.items = omega (arith, c.len.ensures, c.if-worker-len.false) in
    let (o, at) = at_some c.self.inside.owners.items c.args.worker lt in
    let (b, seen) = at_some c.self.inside.seen.items c.args.worker (omega (arith, lt, c.self.invariant.bounds)) in
    rw (← c.self.view_is)
    (send_to_past_test g.S.Spread.owner _ c.args.worker c.args.to o b c.self.invariant at seen (omega (arith, c.len-2.ensures, c.if-to-len.true)))

pub outbox_len-requires : goal.outbox_len-requires
outbox_len-requires g c =
    let lt : c.args.worker < length c.self.inside.owners.items = omega (arith, c.len.ensures, c.if-worker-len.false) in
    let at = at_here c.self.inside.owners.items c.args.worker c.index.result.now lt c.index.ensures in
    let n = c.self.invariant.outboxes c.args.worker c.index.result.now at in
    omega (arith, n, c.len-2.ensures, c.if-to-len.false)

pub returns : goal.returns
returns g c =
    let lt : c.args.worker < length c.self.inside.owners.items = omega (arith, c.len.ensures, c.if-worker-len.false) in
    let o = c.index.result.now in
    let at = at_here c.self.inside.owners.items c.args.worker o lt c.index.ensures in
    let (b, seen) = at_some c.self.inside.seen.items c.args.worker (omega (arith, lt, c.self.invariant.bounds)) in
    rw (← c.self.view_is)
    (ap (nat_lt 0) c.outbox_len.ensures ∙ send_test g.S.Spread.owner _ c.args.worker c.args.to o b c.self.invariant at seen)
