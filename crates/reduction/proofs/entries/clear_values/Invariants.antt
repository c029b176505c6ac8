use Rattle.std.proofs.Common.{◌≡◌, ℕ, None, false, take}
use Rattle.std.specs.Prelude.{◌⊎◌, slice_index_or}
use Rattle.fdr.specs.Tasks.{names_variable}
use Rattle.abstraction.specs.Facts.{value_in}
use Rattle.reduction.proofs.entries.clear_values.Given as goal

abbrev pub invariant-loop-fact : goal.invariant-loop-fact
invariant-loop-fact l =
    (v : ℕ) → (slice_index_or l.values v None ≡ None) ⊎ ((names_variable (take l.fact-index l.facts) v ≡ false) × (slice_index_or l.values v None ≡ value_in l.facts v))
