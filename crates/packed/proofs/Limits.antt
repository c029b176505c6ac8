-- The ranges of a task that passes no limit.
use Rattle.std.proofs.Common.{◌≡◌, ℕ, ◌≤◌, false, List, [], ◌∷◌, length, map, arith}
use Rattle.std.specs.Prelude.{All, nat_lt}
use Rattle.std.proofs.lemmas.Bool.{or_parts, ltb-false}
use Rattle.std.proofs.lemmas.List.{length-map}
use Rattle.std.proofs.lemmas.List.Elements.{All-nil, All-cons}
use Rattle.fdr.specs.Tasks.{FiniteDomainTask, IsWithinLimits, ranges, has_long_range}
use Rattle.packed.specs.Fields.{AreWithinLimits}

short_ranges : (value_names : List (List (List ℕ))) → has_long_range value_names ≡ false → All (λ range. range ≤ 65536) (map length value_names)
short_ranges [] none = All-nil (λ range. range ≤ 65536)
short_ranges (names ∷ value_names) none =
    let parts = or_parts (nat_lt 65536 (length names)) (has_long_range value_names) none in
    All-cons (λ range. range ≤ 65536) (length names) (map length value_names) (ltb-false 65536 (length names) parts.0)
    (short_ranges value_names parts.1)

pub ranges_within_limits : (task : FiniteDomainTask) → IsWithinLimits task → AreWithinLimits (ranges task)
ranges_within_limits task within =
    record {
      variables = omega (arith, within.variables, length-map task.value_names length);
      values = short_ranges task.value_names within.values;
    }
