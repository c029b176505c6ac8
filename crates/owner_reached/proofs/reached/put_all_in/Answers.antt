use Rattle.std.proofs.Common.{◌+◌, ◌<◌, ◌≤◌, List, length, map, drop, refl, sym, subst, arith}
use Rattle.std.proofs.lemmas.List.{drop_more, drop_all}
use Rattle.closed.specs.declared.message.Message.{Message}
use Rattle.closed.specs.Tables.{reached, arrival}
use Rattle.std.specs.Prelude.{ℕ, fold}
use Rattle.owner_space.specs.Keyed.{max_total}
use Rattle.owner_reached.proofs.Queues.{added_stored}
use Rattle.owner_reached.proofs.Adding.{AreAdding, at_front_of, next_added, all_added}
use Rattle.owner_reached.proofs.reached.put_all_in.Goals as goal

pub put_in-requires-clause-room : goal.put_in-requires-clause-room
put_in-requires-clause-room g c =
    let fs = c.args.fs.now in
    let place = c.loop-place.place in
    let lt : place < length fs = omega (arith, c.loop-place-test.true, c.requires.fs, c.loop-place.auto.place-end) in (
      drop (place + 1) fs,
      subst (λ (l : List ℕ). g.L.OpenList.HasRoom c.loop-place.list l) (drop_more fs place 0 lt) c.loop-place.invariant.room,
    )

pub loop-place-preserved : goal.loop-place-preserved
loop-place-preserved g c =
    let ms = c.args.messages.now in
    let fs = c.args.fs.now in
    let os = c.args.outcomes.now in
    let place = c.loop-place.place in
    let in_ms : place < length ms = omega (arith, c.loop-place-test.true, c.loop-place.auto.place-end) in
    let in_fs : place < length fs = omega (arith, c.loop-place-test.true, c.requires.fs, c.loop-place.auto.place-end) in
    let in_os : place < length os = omega (arith, c.loop-place-test.true, c.requires.outcomes, c.loop-place.auto.place-end) in
    let m = c.index-messages-place.result in
    let old = g.L.OpenList.entries c.loop-place.list in
    let new = g.L.OpenList.entries c.put_in.new.list in
    record {
      room = c.put_in.ensures.room (drop (place + 1) fs)
          (subst (λ (l : List ℕ). g.L.OpenList.HasRoom c.loop-place.list l) (drop_more fs place 0 in_fs) c.loop-place.invariant.room);
      stored = λ stored. added_stored c.args.ties c.args.table.now.ever _ old new c.put_in.ensures.entries c.put_in.ensures.small
          (c.loop-place.invariant.stored stored);
      queued = λ values h after a.
          next_added c.args.ties values h c.args.table.now.ever after ms fs os place m _ _ old new
          (at_front_of ms place m in_ms c.index-messages-place.is) (drop_more fs place 0 in_fs) (drop_more os place _ in_os)
          c.put_in.ensures.entries c.put_in.ensures.small (c.loop-place.invariant.queued values h after a);
    }

pub returns-clause-queued : goal.returns-clause-queued
returns-clause-queued g c values h nodes f_values bound outcomes queued =
    let ms = c.args.messages.now in
    let fs = drop c.loop-place.place c.args.fs.now in
    let os = drop c.loop-place.place c.args.outcomes.now in
    let after = fold reached nodes (map (arrival values) ms) in
    let es = g.L.OpenList.entries c.loop-place.list in
    let ever = c.args.table.now.ever in
    let past : length ms ≤ c.loop-place.place = omega (arith, c.loop-place-test.false, c.loop-place.auto.place-end) in
    all_added c.args.ties values h ever after fs os es
    (subst (λ (l : List (Message g.row.F.Denot)). AreAdding c.args.ties values h ever after l fs os es) (drop_all c.loop-place.place ms past)
    (c.loop-place.invariant.queued values h after
    (record { nodes = nodes; f_values = f_values; bound = bound; outcomes = outcomes; ends = refl; queued = queued })))

pub put_in-requires-clause-cost : goal.put_in-requires-clause-cost
put_in-requires-clause-cost g c =
    let ms = c.args.messages.now in
    let in_ms : c.loop-place.place < length ms = omega (arith, c.loop-place-test.true, c.loop-place.auto.place-end) in
    subst (λ (m : Message g.row.F.Denot). m.rank.cost ≤ max_total) (sym c.index-messages-place.is)
    (c.requires.small c.loop-place.place c.index-messages-place.result in_ms).0

pub put_in-requires-clause-steps : goal.put_in-requires-clause-steps
put_in-requires-clause-steps g c =
    let ms = c.args.messages.now in
    let in_ms : c.loop-place.place < length ms = omega (arith, c.loop-place-test.true, c.loop-place.auto.place-end) in
    subst (λ (m : Message g.row.F.Denot). m.rank.steps ≤ max_total) (sym c.index-messages-place.is)
    (c.requires.small c.loop-place.place c.index-messages-place.result in_ms).1
