use Rattle.std.proofs.Common.{◌≡◌, ℕ, None, length, map, take}
use Rattle.std.specs.Prelude.{slice_index_or, ◌==◌}
use Rattle.translate_assembly.specs.Slots.{slots_from}
use Rattle.translate_assembly.proofs.table.slots.Given as goal

abbrev pub invariant-loop-number : goal.invariant-loop-number
invariant-loop-number l =
    record {
      count : length l.slots.items ≡ l.count;
      entries : (q : ℕ) → slice_index_or l.slots.items q None ≡ slots_from (λ p. p == q) 0 (map (λ v. v.places) (take l.number l.variables));
    }
