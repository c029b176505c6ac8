-- The ranges of a task's variables.
use Rattle.std.proofs.Common.{◌≡◌, ℕ, zero, suc, ◌≤◌, false, List, [], ◌∷◌, length, map, ltb, arith}
use Rattle.std.specs.Prelude.{slice_index}
use Rattle.std.proofs.lemmas.Bool.{or_parts, ltb-false}
use Rattle.fdr.specs.Tasks.{FiniteDomainTask, ranges, has_long_range, IsWithinLimits}

no_long_range : (names : List (List (List ℕ))) → has_long_range names ≡ false → (v : ℕ) → slice_index (map length names) v ≤ 65536
no_long_range [] e v = omega arith
no_long_range (n ∷ ns) e zero = let parts = or_parts (ltb 65536 (length n)) (has_long_range ns) e in ltb-false 65536 (length n) parts.0
no_long_range (n ∷ ns) e (suc v) = let parts = or_parts (ltb 65536 (length n)) (has_long_range ns) e in no_long_range ns parts.1 v

pub short_range : (task : FiniteDomainTask) → IsWithinLimits task → (v : ℕ) → slice_index (ranges task) v ≤ 65536
short_range task limits v = no_long_range task.value_names limits.values v
