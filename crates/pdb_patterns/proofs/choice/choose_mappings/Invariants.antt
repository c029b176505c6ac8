use Rattle.std.proofs.Common.{◌≡◌, ◌<◌, ◌≤◌, ℕ, None, true, length, map, get_or}
use Rattle.std.specs.Prelude.{◌⊎◌, slice_index, is_some}
use Rattle.std.specs.List.{list_any}
use Rattle.fdr.specs.Tasks.{ranges}
use Rattle.abstraction_mapping.specs.Views.{mapping_of}
use Rattle.pdb_patterns.specs.Choices.{AreMappings, keeps}
use Rattle.pdb_patterns.proofs.choice.choose_mappings.Given as goal

abbrev pub invariant-loop-first : goal.invariant-loop-first
invariant-loop-first l =
    record {
      mappings : AreMappings l.task l.limit (map mapping_of l.mappings.items);
      goal : length l.mappings.items < 64 → (v : ℕ) → v < l.first → is_some (get_or l.goals.items v None) ≡ true →
          (2 ≤ l.limit) ⊎ (slice_index (ranges l.task) v ≤ l.limit) → list_any (keeps v) (map mapping_of l.mappings.items) ≡ true;
    }
