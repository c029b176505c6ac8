use Rattle.std.proofs.Common.{◌≡◌, ◌<◌, ◌∙◌, ◌++◌, ◌∷◌, [], sym, ap, subst, length, arith}
use Rattle.std.specs.Global.{Global}
use Rattle.std.specs.declared.collections.VecDeque.{VecDeque}
use Rattle.std.proofs.lemmas.List.{length-map}
use Rattle.std.proofs.lemmas.Result.{err_from_is_err_and}
use Rattle.closed.specs.Tables.{message_of}
use Rattle.fdr.specs.Tasks.{ranges}
use Rattle.owner_theory.specs.Owners.{list_at}
use Rattle.owner_theory.proofs.Lists.{at_once}
use Rattle.owner.specs.Spaces.{SpaceOf}
use Rattle.owner.specs.Owned.{OwnerOf, space_of, IsMessageTo}
use Rattle.extract.specs.declared.packet.Packet.{Packet}
use Rattle.extract.specs.Views.{packets_in}
use Rattle.netcore.proofs.Places.{at_here, at_some}
use Rattle.netcore.proofs.Underway.{changed_here, queue_at, queues_same, queues_with}
use Rattle.netcore.proofs.Sending.{send_past, send_to_past, send_none, send_done, send_kept, send_refused, no_message, IsHandOut}
use Rattle.netcore.proofs.world.World.send.Goals as goal

pub returns-then-worker-len : goal.returns-then-worker-len
returns-then-worker-len g c = rw (← c.self.view_is)
    (send_past g.S.Spread.owner _ c.args.worker c.args.to (omega (arith, c.len.ensures, c.if-worker-len.true)))

pub returns-then-to-len : goal.returns-then-to-len
returns-then-to-len g c =
    let lt : c.args.worker < length c.self.inside.owners.items = omega (arith, c.len.ensures, c.if-worker-len.false) in
    let (o, at) = at_some c.self.inside.owners.items c.args.worker lt in
    let (b, seen) = at_some c.self.inside.seen.items c.args.worker (omega (arith, lt, c.self.invariant.bounds)) in
    rw (← c.self.view_is)
    (send_to_past g.S.Spread.owner _ c.args.worker c.args.to o b c.self.invariant at seen (omega (arith, c.len-2.ensures, c.if-to-len.true)))

pub outbox_len-requires : goal.outbox_len-requires
outbox_len-requires g c =
    let lt : c.args.worker < length c.self.inside.owners.items = omega (arith, c.len.ensures, c.if-worker-len.false) in
    let at = at_here c.self.inside.owners.items c.args.worker c.index.result.now lt c.index.ensures in
    let n = c.self.invariant.outboxes c.args.worker c.index.result.now at in
    omega (arith, n, c.len-2.ensures, c.if-to-len.false)

pub returns-then-outbox_len-eq0 : goal.returns-then-outbox_len-eq0
returns-then-outbox_len-eq0 g c =
    let lt : c.args.worker < length c.self.inside.owners.items = omega (arith, c.len.ensures, c.if-worker-len.false) in
    let o = c.index.result.now in
    let at = at_here c.self.inside.owners.items c.args.worker o lt c.index.ensures in
    let (b, seen) = at_some c.self.inside.seen.items c.args.worker (omega (arith, lt, c.self.invariant.bounds)) in
    rw (← c.self.view_is)
    (send_none g.S.Spread.owner _ c.args.worker c.args.to o b at seen
    (no_message (list_at o.outboxes c.args.to) (sym c.outbox_len.ensures ∙ c.if-outbox_len-eq0.true)))

pub invariant_of-self : goal.invariant_of-self
invariant_of-self g c =
    let values = (g.F.StateForm.values (ranges c.self.inside.space.now.task)) in
    let room : c.args.to < length c.self.inside.underway.items =
    omega (arith, length-map c.self.inside.underway.items (packets_in values), c.self.invariant.queues, c.len-2.ensures, c.if-to-len.false) in
    rw (queues_same values c.self.inside.underway.items c.args.to c.index_mut.result.now room c.index_mut.ensures.value c.reserve.new.self c.reserve.ensures.items)
    c.self.invariant

pub returns-in_err-reserve : goal.returns-in_err-reserve
returns-in_err-reserve g c =
    let values = (g.F.StateForm.values (ranges c.self.inside.space.now.task)) in
    let lt : c.args.worker < length c.self.inside.owners.items = omega (arith, c.len.ensures, c.if-worker-len.false) in
    let room : c.args.to < length c.self.inside.underway.items =
    omega (arith, length-map c.self.inside.underway.items (packets_in values), c.self.invariant.queues, c.len-2.ensures, c.if-to-len.false) in
    let o = c.index.result.now in
    let at = at_here c.self.inside.owners.items c.args.worker o lt c.index.ensures in
    let (b, seen) = at_some c.self.inside.seen.items c.args.worker (omega (arith, lt, c.self.invariant.bounds)) in
    let refused = err_from_is_err_and c.from_residual.result c.from_residual.ensures.1 in
    rw (
      refused.1,
      ← c.self.view_is,
      queues_same values c.self.inside.underway.items c.args.to c.index_mut.result.now room c.index_mut.ensures.value c.reserve.new.self c.reserve.ensures.items,
    )
    (send_refused g.S.Spread.owner _ c.args.worker c.args.to o b at seen (λ e. c.if-outbox_len-eq0.false (c.outbox_len.ensures ∙ e)))

pub next_out-requires : goal.next_out-requires
next_out-requires g c =
    let lt : c.args.worker < length c.self.inside.owners.items = omega (arith, c.len.ensures, c.if-worker-len.false) in
    let at = at_here c.self.inside.owners.items c.args.worker c.index_mut-2.result.now lt c.index_mut-2.ensures.value in
    let n = c.self.invariant.outboxes c.args.worker c.index_mut-2.result.now at in
    omega (arith, n, c.len-2.ensures, c.if-to-len.false)

pub unreachable-requires : goal.unreachable-requires
unreachable-requires g c =
    let lt : c.args.worker < length c.self.inside.owners.items = omega (arith, c.len.ensures, c.if-worker-len.false) in
    let at = at_here c.self.inside.owners.items c.args.worker c.index.result.now lt c.index.ensures in
    let again = at_here c.self.inside.owners.items c.args.worker c.index_mut-2.result.now lt c.index_mut-2.ensures.value in
    let same = at_once c.self.inside.owners.items c.args.worker c.index.result.now c.index_mut-2.result.now at again in
    c.if-outbox_len-eq0.false (c.outbox_len.ensures
    ∙ (ap (λ (z : OwnerOf g.row.S.Denot). length (list_at z.outboxes c.args.to)) same ∙ ap length c.in_default.ensures.none))

pub invariant_of-self-2 : goal.invariant_of-self-2
invariant_of-self-2 g c =
    let values = (g.F.StateForm.values (ranges c.self.inside.space.now.task)) in
    let lt : c.args.worker < length c.self.inside.owners.items = omega (arith, c.len.ensures, c.if-worker-len.false) in
    let o = c.index_mut-2.result.now in
    let at = at_here c.self.inside.owners.items c.args.worker o lt c.index_mut-2.ensures.value in
    let (b, seen) = at_some c.self.inside.seen.items c.args.worker (omega (arith, lt, c.self.invariant.bounds)) in
    let q = c.index_mut.result.now in
    let room : c.args.to < length c.self.inside.underway.items =
    omega (arith, length-map c.self.inside.underway.items (packets_in values), c.self.invariant.queues, c.len-2.ensures, c.if-to-len.false) in
    let m = message_of values c.in-Some.message in
    let x : Packet g.row.F.Denot = record { sender = c.args.worker; message = c.in-Some.message } in
    let out : IsHandOut g.S.Spread.owner _ c.args.worker c.args.to o c.next_out.new.self b (packets_in values q) m =
    record {
      at = at;
      seen = seen;
      queue = queue_at values c.self.inside.underway.items c.args.to q room c.index_mut.ensures.value;
      first = subst (λ (s : SpaceOf g.row.S.Denot). list_at o.outboxes c.args.to
          ≡ message_of (g.F.StateForm.values (ranges s.task)) c.in-Some.message ∷ list_at c.next_out.new.self.outboxes c.args.to)
          (c.self.invariant.spaces c.args.worker o at) c.in-Some.ensures.first;
      others = c.next_out.ensures.others;
      fits = subst (λ (s : SpaceOf g.row.S.Denot). IsMessageTo (space_of g.S.Spread.owner o) c.args.to
          (message_of (g.F.StateForm.values (ranges s.task)) c.in-Some.message))
          (c.self.invariant.spaces c.args.worker o at) c.in-Some.ensures.fits;
    } in
    let with_room = changed_here c.self.inside.underway.items c.args.to c.reserve.new.self c.index_mut-3.result.now room c.index_mut-3.ensures.value in
    let more = queues_with values c.self.inside.underway.items c.args.to q room c.index_mut.ensures.value c.reserve.new.self c.push_back_reserved.new.self x
    c.reserve.ensures.items (c.push_back_reserved.ensures.items ∙ ap (λ (z : VecDeque (Packet g.row.F.Denot) Global). z.items ++ x ∷ []) (sym with_room)) in
    rw more (send_kept g.S.Spread.owner _ c.args.worker c.args.to o c.next_out.new.self b (packets_in values q) m c.self.invariant out)

pub returns : goal.returns
returns g c =
    let values = (g.F.StateForm.values (ranges c.self.inside.space.now.task)) in
    let lt : c.args.worker < length c.self.inside.owners.items = omega (arith, c.len.ensures, c.if-worker-len.false) in
    let o = c.index_mut-2.result.now in
    let at = at_here c.self.inside.owners.items c.args.worker o lt c.index_mut-2.ensures.value in
    let (b, seen) = at_some c.self.inside.seen.items c.args.worker (omega (arith, lt, c.self.invariant.bounds)) in
    let q = c.index_mut.result.now in
    let room : c.args.to < length c.self.inside.underway.items =
    omega (arith, length-map c.self.inside.underway.items (packets_in values), c.self.invariant.queues, c.len-2.ensures, c.if-to-len.false) in
    let m = message_of values c.in-Some.message in
    let x : Packet g.row.F.Denot = record { sender = c.args.worker; message = c.in-Some.message } in
    let out : IsHandOut g.S.Spread.owner _ c.args.worker c.args.to o c.next_out.new.self b (packets_in values q) m =
    record {
      at = at;
      seen = seen;
      queue = queue_at values c.self.inside.underway.items c.args.to q room c.index_mut.ensures.value;
      first = subst (λ (s : SpaceOf g.row.S.Denot). list_at o.outboxes c.args.to
          ≡ message_of (g.F.StateForm.values (ranges s.task)) c.in-Some.message ∷ list_at c.next_out.new.self.outboxes c.args.to)
          (c.self.invariant.spaces c.args.worker o at) c.in-Some.ensures.first;
      others = c.next_out.ensures.others;
      fits = subst (λ (s : SpaceOf g.row.S.Denot). IsMessageTo (space_of g.S.Spread.owner o) c.args.to
          (message_of (g.F.StateForm.values (ranges s.task)) c.in-Some.message))
          (c.self.invariant.spaces c.args.worker o at) c.in-Some.ensures.fits;
    } in
    let with_room = changed_here c.self.inside.underway.items c.args.to c.reserve.new.self c.index_mut-3.result.now room c.index_mut-3.ensures.value in
    let more = queues_with values c.self.inside.underway.items c.args.to q room c.index_mut.ensures.value c.reserve.new.self c.push_back_reserved.new.self x
    c.reserve.ensures.items (c.push_back_reserved.ensures.items ∙ ap (λ (z : VecDeque (Packet g.row.F.Denot) Global). z.items ++ x ∷ []) (sym with_room)) in
    rw (← c.self.view_is, more)
    (send_done g.S.Spread.owner _ c.args.worker c.args.to o c.next_out.new.self b (packets_in values q) m c.self.invariant out)
