use Rattle.std.proofs.Common.{◌+◌, ◌<◌, length, refl, sym, ap, ◌∙◌, subst, arith}
use Rattle.slots.specs.declared.probing.Slot.{Slot}
use Rattle.slots.specs.Slots.{links_of, empties, home_of}
use Rattle.slots.proofs.Added.{empties_added, length_added}
use Rattle.checker_states.specs.declared.note.Note.{Note}
use Rattle.checker_states.specs.Hashes.{part_of, number_of}
use Rattle.checker_states.specs.Indexes.{IndexesPart, note_of}
use Rattle.checker_states.proofs.Indexing.{buffer_fits, entry_read, part_begins, part_skips, part_grows}
use Rattle.checker_states.proofs.part.fill.Goals as goal
use Rattle.checker_states.proofs.part.fill.Goals.{then-part_of-part+else-room-eq0, else-part_of-part}

pub loop-place-init : goal.loop-place-init
loop-place-init c =
    record {
      size = refl;
      width = refl;
      empty = c.requires.empty;
      room = omega arith;
      holds = part_begins c.args.parts c.args.part c.args.multipliers.now c.args.closed.now c.args.slots.now c.requires.empty;
    }

pub copy_state-requires : goal.copy_state-requires
copy_state-requires c =
    buffer_fits c.args.closed.now c.loop-place.place (length c.args.state.now) (length c.loop-place.state) (omega (arith, c.loop-place-test.true, c.len-place-end.ensures)) c.requires.state
    c.loop-place.invariant.width

pub loop-place-preserved : goal.loop-place-preserved
loop-place-preserved c =
    let slots = c.loop-place.slots in
    let place = c.loop-place.place in
    let state = c.copy_state.new.into in
    let multipliers = c.args.multipliers.now in
    let closed = c.args.closed.now in
    let so_far = c.loop-place.invariant.holds in
    elim c.if-part_of-part.branch [
      | then-part_of-part+else-room-eq0 w ↦
          let home = w.home_of-home.result in
          let slot : Slot Note = record { link = place + 1; note = w.new-note.result } in
          let inside : home < length slots = w.home_of-home.ensures.below in
          let size = length_added slots w.add.new.slots home place slot inside refl w.add.ensures in
          let fewer = empties_added slots w.add.new.slots home place slot inside refl w.add.ensures in
          let now = ap (λ ss. empties (links_of ss)) w.slots-is in
          let long = ap length w.slots-is in
          record {
            size = omega (arith, long, size, c.loop-place.invariant.size);
            width = omega (arith, c.copy_state.ensures.len, c.loop-place.invariant.width);
            empty = omega (arith, now, fewer, c.loop-place.invariant.empty, w.room-is);
            room = omega (arith, long, size, c.loop-place.invariant.room, w.room-is, w.if-room-eq0.false);
            holds =
                subst (IndexesPart c.args.parts c.args.part multipliers closed (place + 1)) (sym w.slots-is)
                (part_grows c.args.parts c.args.part multipliers closed slots place state so_far w.cost.result (entry_read closed place w.cost.result state c.copy_state.ensures.state w.cost.ensures) home slot w.add.new.slots inside
                (w.home_of-home.ensures.value ∙ ap (λ n. home_of n (length slots)) (w.number_of.ensures ∙ ap (λ h. number_of h c.args.parts) c.hash_of-hash.ensures))
                refl
                (w.new-note.ensures ∙ ap (λ h. note_of h w.cost.result) c.hash_of-hash.ensures)
                w.add.ensures);
          }
      | else-part_of-part w ↦
          let long = ap length w.slots-is in
          let now = ap (λ ss. empties (links_of ss)) w.slots-is in
          record {
            size = omega (arith, long, c.loop-place.invariant.size);
            width = omega (arith, c.copy_state.ensures.len, c.loop-place.invariant.width);
            empty = omega (arith, now, c.loop-place.invariant.empty, w.room-is);
            room = omega (arith, long, c.loop-place.invariant.room, w.room-is);
            holds =
                subst (IndexesPart c.args.parts c.args.part multipliers closed (place + 1)) (sym w.slots-is)
                (part_skips c.args.parts c.args.part multipliers closed slots place state so_far c.copy_state.ensures.state
                (λ e. w.if-part_of-part.false (c.part_of.ensures.value ∙ ap (λ h. part_of h c.args.parts) c.hash_of-hash.ensures ∙ e)));
          }
    ]
