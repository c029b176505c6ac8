use Rattle.std.proofs.Common.{◌≡◌, ◌<◌, ℕ, List, length, sym, refl, subst, arith}
use Rattle.std.proofs.lemmas.Option.{slice_get_read}
use Rattle.slots.specs.declared.probing.Slot.{Slot}
use Rattle.checker_states.specs.declared.note.Note.{Note}
use Rattle.checker_states.specs.Hashes.{part_of}
use Rattle.checker_states.specs.Indexes.{IsPart}
use Rattle.checker_states.proofs.index.ClosedIndex.is_listed.Goals as goal

pub is_found-requires-clause-part : goal.is_found-requires-clause-part
is_found-requires-clause-part c =
    let parts = c.self.inside.parts.items in
    let closed = c.self.inside.closed.now in
    let count : length parts ≡ c.len-parts.result = omega (arith, c.self.inside.parts.ok.0, c.len-parts.ensures) in
    let within : c.part_of.result < length parts = omega (arith, count, c.part_of.ensures.below) in
    let read = slice_get_read parts (length parts) c.part_of.result c.index-slots.result.now refl within c.index-slots.ensures in
    let is = c.self.invariant.each c.part_of.result c.index-slots.result.now read in
    subst (λ (ms : List ℕ). IsPart c.len-parts.result (part_of c.hash_of-hash.result c.len-parts.result) ms closed c.deref-3.result.now) (sym c.deref-2.ensures.value)
    (subst (λ (ss : List (Slot Note)). IsPart c.len-parts.result (part_of c.hash_of-hash.result c.len-parts.result) c.self.inside.multipliers.items closed ss) (sym c.deref-3.ensures.value)
    (subst (λ (p : ℕ). IsPart c.len-parts.result p c.self.inside.multipliers.items closed c.index-slots.result.now.items) c.part_of.ensures.value
    (subst (λ (n : ℕ). IsPart n c.part_of.result c.self.inside.multipliers.items closed c.index-slots.result.now.items) count is)))
