use Rattle.std.proofs.Common.{◌≡◌, ℕ, ◌+◌, ◌-◌, ◌<◌, List, Some, get_or, length, ap, sym, subst, arith}
use Rattle.std.specs.Prelude.{slice_get}
use Rattle.std.proofs.lemmas.List.{length-map}
use Rattle.std.proofs.lemmas.Option.{slice_get-get_or}
use Rattle.slots.specs.declared.probing.Slot.{Slot}
use Rattle.slots.specs.Slots.{links_of, empties}
use Rattle.closed.specs.Rows.{IsAmongFirst, Holds}
use Rattle.slots.proofs.Added.{empties_added}
use Rattle.closed.proofs.Holding.{holds_none, holds_added, empties_behind, first_added, first_empty, count_full, count_empty}
use Rattle.closed.proofs.index.add_taken.Goals as goal
use Rattle.closed.proofs.index.add_taken.Goals.{then-slot-ne0, else-slot-ne0}

pub loop-slot-init : goal.loop-slot-init
loop-slot-init c =
    record {
      count = omega (arith, c.requires.empty);
      holds = holds_none (IsAmongFirst 0 c.args.taken.now) c.args.slots.now (λ place tag is. absurd (omega (arith, is.2))) c.requires.empty;
    }

pub add-requires-clause-some : goal.add-requires-clause-some
add-requires-clause-some c =
    let taken = c.args.taken.now in
    let long = length-map taken (λ s. s.link) in
    let behind = empties_behind (links_of taken) c.loop-slot.slot-index (omega (arith, long, c.loop-slot-test.true)) in
    omega (arith, c.loop-slot.invariant.count, behind, long, c.requires.room)

pub loop-slot-preserved : goal.loop-slot-preserved
loop-slot-preserved c =
    let taken = c.args.taken.now in
    let k = c.loop-slot.slot-index in
    let slot = get_or taken k (record { link = 0; note = 0 }) in
    let read : slice_get taken k ≡ Some slot = slice_get-get_or taken k (record { link = 0; note = 0 }) c.loop-slot-test.true in
    elim c.if-slot-ne0.branch [
      | then-slot-ne0 w ↦
          let slots = c.loop-slot.slots in
          let inside : w.home_of-home.result < length slots = w.home_of-home.ensures.below in
          let links : slot.link ≡ slot.link - 1 + 1 = omega (arith, w.if-slot-ne0.true) in
          let held =
          first_added taken k slot read w.add.new.slots w.if-slot-ne0.true
          (holds_added slots w.add.new.slots w.home_of-home.result (slot.link - 1) slot inside links w.add.ensures (IsAmongFirst k taken) c.loop-slot.invariant.holds w.home_of-home.ensures.value) in
          let fewer = empties_added slots w.add.new.slots w.home_of-home.result (slot.link - 1) slot inside links w.add.ensures in
          let same = count_full taken k slot read w.if-slot-ne0.true in
          let now = ap (λ (ss : List (Slot ℕ)). empties (links_of ss)) w.slots-is in
          record {
            count = omega (arith, c.loop-slot.invariant.count, fewer, same, now);
            holds = subst (Holds (IsAmongFirst (k + 1) taken)) (sym w.slots-is) held;
          }
      | else-slot-ne0 w ↦
          let free : slot.link ≡ 0 = w.if-slot-ne0.false in
          let held = first_empty taken k slot read c.loop-slot.slots free c.loop-slot.invariant.holds in
          let more = count_empty taken k slot read free in
          let now = ap (λ (ss : List (Slot ℕ)). empties (links_of ss)) w.slots-is in
          record {
            count = omega (arith, c.loop-slot.invariant.count, more, now);
            holds = subst (Holds (IsAmongFirst (k + 1) taken)) (sym w.slots-is) held;
          }
    ]
