use Rattle.std.proofs.Common.{◌≡◌, ℕ, List, length, replicate, ap, sym, ◌∙◌, subst, arith, refl}
use Rattle.slots.specs.declared.probing.Slot.{Slot}
use Rattle.slots.proofs.Added.{empties_filled}
use Rattle.closed.specs.Rows.{HasTag, IsAmongFirst, Holds}
use Rattle.closed.proofs.Holding.{empty, is_empty, holds_moved, whole}
use Rattle.closed.proofs.index.make_room.Goals as goal

pub add_taken-requires-clause-empty : goal.add_taken-requires-clause-empty
add_taken-requires-clause-empty c =
    let items : c.in_ok-grown.grown.items ≡ replicate c.in-Some.count empty = c.in_ok-grown.ensures.items_if_clones_equal is_empty in
    empties_filled empty refl c.deref_mut.result.now c.in-Some.count (c.deref_mut.ensures.value ∙ items)

pub returns-clause-holds : goal.returns-clause-holds
returns-clause-holds c tags was =
    let old = c.args.slots.now.items in
    let new = c.add_taken.new.slots in
    let from : c.deref.result.now ≡ old = c.deref.ensures.value in
    let held : Holds (IsAmongFirst (length old) old) new =
    subst (λ (ss : List (Slot ℕ)). Holds (IsAmongFirst (length ss) ss) new) from c.add_taken.ensures.holds in
    let long : length new ≡ length c.in_ok-grown.grown.items = c.add_taken.ensures.len ∙ ap length c.deref_mut.ensures.value in
    subst (Holds (HasTag tags)) (sym (whole new c.in_ok-grown.grown.items c.in_ok-grown.grown.len long (omega (arith, c.in_ok-grown.grown.ok.0)))) (holds_moved tags old new was held)
