use Rattle.std.proofs.Common.{◌≡◌, ℕ, None, length}
use Rattle.std.specs.Prelude.{slice_index_or}
use Rattle.reduction.specs.Waiting.{AreEntries}
use Rattle.reduction.proofs.entries.Entries.new.Given as goal

abbrev pub invariant-loop-number : goal.invariant-loop-number
invariant-loop-number l =
    record {
      entries : AreEntries l.task l.number l.entries.by_value.items l.entries.by_variable.items;
      none : (v : ℕ) → slice_index_or l.values.items v None ≡ None;
      long : length l.values.items ≡ length l.task.value_names;
    }
