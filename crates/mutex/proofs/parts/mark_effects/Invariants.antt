use Rattle.std.proofs.Common.{◌≡◌, ℕ, ◌<◌, ◌||◌, false, length, take}
use Rattle.std.specs.Prelude.{slice_index_or, ◌==◌}
use Rattle.std.specs.List.{list_any}
use Rattle.mutex.proofs.parts.mark_effects.Given as goal

abbrev pub invariant-loop-effect : goal.invariant-loop-effect
invariant-loop-effect l =
    (q : ℕ) → q < length l.fluent
    → slice_index_or l.fluent q false ≡ (slice_index_or l.fn.fluent q false || list_any (λ e. e.atom.predicate == q) (take l.effect-index l.effects))
