use Rattle.std.proofs.Common.{◌≡◌, ◌<◌, ◌≤◌, ◌∙◌, ⊎_elim, refl, sym, ap, subst, length, arith}
use Rattle.std.specs.Prelude.{slice_set}
use Rattle.std.specs.List.{insert}
use Rattle.std.specs.Global.{Global}
use Rattle.std.specs.declared.collections.VecDeque.{VecDeque}
use Rattle.std.proofs.lemmas.Bool.{cases_lt}
use Rattle.std.proofs.lemmas.List.{length-map}
use Rattle.std.proofs.lemmas.Option.{slice_get_read}
use Rattle.cost.specs.Distances.{Distance}
use Rattle.fdr.specs.Tasks.{ranges}
use Rattle.owner_theory.specs.Owners as machine
use Rattle.owner_theory.specs.Owners.{Message, took}
use Rattle.closed.specs.Tables.{message_of}
use Rattle.owner.specs.Spaces.{SpaceOf}
use Rattle.owner.specs.Owned.{space_of, under, IsMessageTo}
use Rattle.extract.specs.declared.packet.Packet.{Packet}
use Rattle.extract.specs.Views.{packet_of, packets_in}
use Rattle.netcore.proofs.Places.{at_here, at_some, set_same}
use Rattle.netcore.proofs.Underway.{changed_here, queue_at, packet_at, queues_same, queues_without, queues_put_back}
use Rattle.netcore.proofs.Expanding.{owner_space}
use Rattle.netcore.proofs.Delivering.{deliver_past, deliver_none, deliver_done, deliver_kept, deliver_refused, message_fits, IsTaking}
use Rattle.netcore.proofs.world.World.deliver.Goals as goal

pub returns-then-worker-len : goal.returns-then-worker-len
returns-then-worker-len g c = rw (← c.self.view_is)
    (deliver_past g.S.Spread.owner _ c.args.worker c.args.number
    (λ state. g.met.S.Spread.is_below c.self.inside.space.now.spread state (length c.self.inside.owners.items) c.self.invariant.some)
    c.self.invariant.queues (omega (arith, c.len.ensures, c.if-worker-len.true)))

pub returns-in_default : goal.returns-in_default
returns-in_default g c =
    let values = (g.F.StateForm.values (ranges c.self.inside.space.now.task)) in
    let lt : c.args.worker < length c.self.inside.owners.items = omega (arith, c.len.ensures, c.if-worker-len.false) in
    let q = c.index_mut.result.now in
    let room : c.args.worker < length c.self.inside.underway.items =
    omega (arith, lt, length-map c.self.inside.underway.items (packets_in values), c.self.invariant.queues) in
    let queue = queue_at values c.self.inside.underway.items c.args.worker q room c.index_mut.ensures.value in
    let same = queues_same values c.self.inside.underway.items c.args.worker q room c.index_mut.ensures.value c.remove.new.self
    (ap (λ (z : VecDeque (Packet g.row.F.Denot) Global). z.items) c.in_default.ensures.unchanged) in
    let past : length (packets_in values q) ≤ c.args.number = ⊎_elim
    (λ (short : c.args.number < length q.items). let bad = c.in_default.ensures.variant.1 (omega (arith, short)) in absurd (cc))
    (λ (le : length q.items ≤ c.args.number). omega (arith, le, length-map q.items (packet_of values)))
    (cases_lt c.args.number (length q.items)) in
    rw (← c.self.view_is, same) (deliver_none g.S.Spread.owner _ c.args.worker c.args.number (packets_in values q) queue past)

pub take-requires : goal.take-requires
take-requires g c =
    let values = (g.F.StateForm.values (ranges c.self.inside.space.now.task)) in
    let lt : c.args.worker < length c.self.inside.owners.items = omega (arith, c.len.ensures, c.if-worker-len.false) in
    let q = c.index_mut.result.now in
    let room : c.args.worker < length c.self.inside.underway.items =
    omega (arith, lt, length-map c.self.inside.underway.items (packets_in values), c.self.invariant.queues) in
    let queue = queue_at values c.self.inside.underway.items c.args.worker q room c.index_mut.ensures.value in
    let x = packet_of values c.in-Some.packet in
    let short : c.args.number < length q.items = omega (arith, c.in-Some.ensures.variant.0 refl) in
    let there = slice_get_read q.items (length q.items) c.args.number c.in-Some.packet refl short c.in-Some.ensures.value in
    let nth = packet_at values c.self.inside.underway.items c.args.worker q room c.index_mut.ensures.value c.args.number c.in-Some.packet there in
    let o = c.index_mut-2.result.now in
    let at = at_here c.self.inside.owners.items c.args.worker o lt c.index_mut-2.ensures.value in
    subst (λ (s : SpaceOf g.row.S.Denot). IsMessageTo (space_of g.S.Spread.owner o) o.worker
    (message_of (g.F.StateForm.values (ranges s.task)) c.in-Some.packet.message))
    (sym (c.self.invariant.spaces c.args.worker o at))
    (rw (owner_space g.S.Spread.owner _ c.args.worker o c.self.invariant at, c.self.invariant.workers c.args.worker o at)
    (message_fits g.S.Spread.owner _ c.args.worker c.args.number (packets_in values q) x c.self.invariant queue nth))

pub invariant_of-self-in-Ok : goal.invariant_of-self-in-Ok
invariant_of-self-in-Ok g c =
    let values = (g.F.StateForm.values (ranges c.self.inside.space.now.task)) in
    let lt : c.args.worker < length c.self.inside.owners.items = omega (arith, c.len.ensures, c.if-worker-len.false) in
    let q = c.index_mut.result.now in
    let room : c.args.worker < length c.self.inside.underway.items =
    omega (arith, lt, length-map c.self.inside.underway.items (packets_in values), c.self.invariant.queues) in
    let queue = queue_at values c.self.inside.underway.items c.args.worker q room c.index_mut.ensures.value in
    let x = packet_of values c.in-Some.packet in
    let short : c.args.number < length q.items = omega (arith, c.in-Some.ensures.variant.0 refl) in
    let there = slice_get_read q.items (length q.items) c.args.number c.in-Some.packet refl short c.in-Some.ensures.value in
    let nth = packet_at values c.self.inside.underway.items c.args.worker q room c.index_mut.ensures.value c.args.number c.in-Some.packet there in
    let o = c.index_mut-2.result.now in
    let at = at_here c.self.inside.owners.items c.args.worker o lt c.index_mut-2.ensures.value in
    let (b, seen) = at_some c.self.inside.seen.items c.args.worker (omega (arith, lt, c.self.invariant.bounds)) in
    let taking : IsTaking g.S.Spread.owner _ c.args.worker c.args.number o c.take.new.self b (packets_in values q) x =
    record {
      at = at;
      seen = seen;
      queue = queue;
      nth = nth;
      after = subst (λ (s : SpaceOf g.row.S.Denot). (bound : Distance) → under c.take.new.self bound
          ≡ took (space_of g.S.Spread.owner o) (under o bound) (message_of (g.F.StateForm.values (ranges s.task)) c.in-Some.packet.message))
          (c.self.invariant.spaces c.args.worker o at) c.in-Ok.ensures.taken;
      space = c.take.ensures.space;
      worker = c.take.ensures.worker;
      expansions = c.take.ensures.expansions;
    } in
    let fewer = queues_without values c.self.inside.underway.items c.args.worker q room c.index_mut.ensures.value c.args.number c.remove.new.self
    c.in-Some.ensures.items in
    rw fewer (deliver_kept g.S.Spread.owner _ c.args.worker c.args.number o c.take.new.self b (packets_in values q) x c.self.invariant taking)

pub returns-in-Ok : goal.returns-in-Ok
returns-in-Ok g c =
    let values = (g.F.StateForm.values (ranges c.self.inside.space.now.task)) in
    let lt : c.args.worker < length c.self.inside.owners.items = omega (arith, c.len.ensures, c.if-worker-len.false) in
    let q = c.index_mut.result.now in
    let room : c.args.worker < length c.self.inside.underway.items =
    omega (arith, lt, length-map c.self.inside.underway.items (packets_in values), c.self.invariant.queues) in
    let queue = queue_at values c.self.inside.underway.items c.args.worker q room c.index_mut.ensures.value in
    let x = packet_of values c.in-Some.packet in
    let short : c.args.number < length q.items = omega (arith, c.in-Some.ensures.variant.0 refl) in
    let there = slice_get_read q.items (length q.items) c.args.number c.in-Some.packet refl short c.in-Some.ensures.value in
    let nth = packet_at values c.self.inside.underway.items c.args.worker q room c.index_mut.ensures.value c.args.number c.in-Some.packet there in
    let o = c.index_mut-2.result.now in
    let at = at_here c.self.inside.owners.items c.args.worker o lt c.index_mut-2.ensures.value in
    let (b, seen) = at_some c.self.inside.seen.items c.args.worker (omega (arith, lt, c.self.invariant.bounds)) in
    let taking : IsTaking g.S.Spread.owner _ c.args.worker c.args.number o c.take.new.self b (packets_in values q) x =
    record {
      at = at;
      seen = seen;
      queue = queue;
      nth = nth;
      after = subst (λ (s : SpaceOf g.row.S.Denot). (bound : Distance) → under c.take.new.self bound
          ≡ took (space_of g.S.Spread.owner o) (under o bound) (message_of (g.F.StateForm.values (ranges s.task)) c.in-Some.packet.message))
          (c.self.invariant.spaces c.args.worker o at) c.in-Ok.ensures.taken;
      space = c.take.ensures.space;
      worker = c.take.ensures.worker;
      expansions = c.take.ensures.expansions;
    } in
    let fewer = queues_without values c.self.inside.underway.items c.args.worker q room c.index_mut.ensures.value c.args.number c.remove.new.self
    c.in-Some.ensures.items in
    rw (← c.self.view_is, fewer)
    (deliver_done g.S.Spread.owner _ c.args.worker c.args.number o c.take.new.self b (packets_in values q) x c.self.invariant taking)

pub invariant_of-self-in-Err : goal.invariant_of-self-in-Err
invariant_of-self-in-Err g c =
    let values = (g.F.StateForm.values (ranges c.self.inside.space.now.task)) in
    let lt : c.args.worker < length c.self.inside.owners.items = omega (arith, c.len.ensures, c.if-worker-len.false) in
    let q = c.index_mut.result.now in
    let room : c.args.worker < length c.self.inside.underway.items =
    omega (arith, lt, length-map c.self.inside.underway.items (packets_in values), c.self.invariant.queues) in
    let short : c.args.number < length q.items = omega (arith, c.in-Some.ensures.variant.0 refl) in
    let there = slice_get_read q.items (length q.items) c.args.number c.in-Some.packet refl short c.in-Some.ensures.value in
    let o = c.index_mut-2.result.now in
    let at = at_here c.self.inside.owners.items c.args.worker o lt c.index_mut-2.ensures.value in
    let y : Packet g.row.F.Denot = record { sender = c.in-Some.packet.sender; message = c.in-Err.message } in
    let same_message : message_of values c.in-Err.message ≡ message_of values c.in-Some.packet.message =
    ap (message_of values) c.in-Err.ensures.refused.0 in
    let same_packet : packet_of values y ≡ packet_of values c.in-Some.packet =
    ap (λ (m : Message). let p : machine.Packet = record { sender = c.in-Some.packet.sender; message = m } in p) same_message in
    let without = changed_here c.self.inside.underway.items c.args.worker c.remove.new.self c.index_mut-in-Err.result.now room c.index_mut-in-Err.ensures.value in
    let back = queues_put_back values c.self.inside.underway.items c.args.worker q room c.index_mut.ensures.value c.args.number c.remove.new.self c.insert.new.self
    c.in-Some.packet y there same_packet c.in-Some.ensures.items
    (c.in-Ok-insert.ensures.items ∙ ap (λ (z : VecDeque (Packet g.row.F.Denot) Global). insert z.items c.args.number y) (sym without)) in
    let owners_same = ap (λ z. slice_set c.self.inside.owners.items c.args.worker z) c.in-Err.ensures.refused.1
    ∙ set_same c.self.inside.owners.items c.args.worker o at in
    rw (back, owners_same) c.self.invariant

pub returns-in-Ok-insert : goal.returns-in-Ok-insert
returns-in-Ok-insert g c =
    let values = (g.F.StateForm.values (ranges c.self.inside.space.now.task)) in
    let lt : c.args.worker < length c.self.inside.owners.items = omega (arith, c.len.ensures, c.if-worker-len.false) in
    let q = c.index_mut.result.now in
    let room : c.args.worker < length c.self.inside.underway.items =
    omega (arith, lt, length-map c.self.inside.underway.items (packets_in values), c.self.invariant.queues) in
    let queue = queue_at values c.self.inside.underway.items c.args.worker q room c.index_mut.ensures.value in
    let short : c.args.number < length q.items = omega (arith, c.in-Some.ensures.variant.0 refl) in
    let there = slice_get_read q.items (length q.items) c.args.number c.in-Some.packet refl short c.in-Some.ensures.value in
    let o = c.index_mut-2.result.now in
    let at = at_here c.self.inside.owners.items c.args.worker o lt c.index_mut-2.ensures.value in
    let y : Packet g.row.F.Denot = record { sender = c.in-Some.packet.sender; message = c.in-Err.message } in
    let same_message : message_of values c.in-Err.message ≡ message_of values c.in-Some.packet.message =
    ap (message_of values) c.in-Err.ensures.refused.0 in
    let same_packet : packet_of values y ≡ packet_of values c.in-Some.packet =
    ap (λ (m : Message). let p : machine.Packet = record { sender = c.in-Some.packet.sender; message = m } in p) same_message in
    let without = changed_here c.self.inside.underway.items c.args.worker c.remove.new.self c.index_mut-in-Err.result.now room c.index_mut-in-Err.ensures.value in
    let back = queues_put_back values c.self.inside.underway.items c.args.worker q room c.index_mut.ensures.value c.args.number c.remove.new.self c.insert.new.self
    c.in-Some.packet y there same_packet c.in-Some.ensures.items
    (c.in-Ok-insert.ensures.items ∙ ap (λ (z : VecDeque (Packet g.row.F.Denot) Global). insert z.items c.args.number y) (sym without)) in
    let owners_same = ap (λ z. slice_set c.self.inside.owners.items c.args.worker z) c.in-Err.ensures.refused.1
    ∙ set_same c.self.inside.owners.items c.args.worker o at in
    rw (← c.self.view_is, back, owners_same)
    (deliver_refused g.S.Spread.owner _ c.args.worker c.args.number (packets_in values q) queue (omega (arith, short, length-map q.items (packet_of values))))
