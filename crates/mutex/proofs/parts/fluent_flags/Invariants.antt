use Rattle.std.proofs.Common.{◌≡◌, ℕ, ◌<◌, false, length, take}
use Rattle.std.specs.Prelude.{slice_index_or, ◌==◌}
use Rattle.std.specs.List.{list_any}
use Rattle.mutex.proofs.parts.fluent_flags.Given as goal

abbrev pub invariant-loop-schema : goal.invariant-loop-schema
invariant-loop-schema l =
    record {
      count : length l.fluent.items ≡ length l.task.arities;
      flags : (q : ℕ) → q < length l.task.arities
          → slice_index_or l.fluent.items q false ≡ list_any (λ s. list_any (λ e. e.atom.predicate == q) s.effect) (take l.schema-index l.task.schemas);
    }
