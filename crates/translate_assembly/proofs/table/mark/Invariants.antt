use Rattle.std.proofs.Common.{◌≡◌, ℕ, None, length, take}
use Rattle.std.specs.Prelude.{slice_index_or, ◌==◌}
use Rattle.std.specs.Option.{option_or}
use Rattle.translate_assembly.specs.Slots.{first_slot}
use Rattle.translate_assembly.proofs.table.mark.Given as goal

abbrev pub invariant-loop-value : goal.invariant-loop-value
invariant-loop-value l =
    (q : ℕ) → slice_index_or l.slots q None
    ≡ option_or (slice_index_or l.fn.slots q None) (first_slot (λ p. p == q) l.variable (length l.places) 0 (take l.value l.places))
