use Rattle.std.proofs.Common.{◌≡◌, ◌++◌, None, take}
use Rattle.std.specs.Prelude.{slice_index_or}
use Rattle.std.specs.List.{flat_map}
use Rattle.reduction.specs.Waiting.{value_entries, variable_entries}
use Rattle.reduction.proofs.entries.Entries.push_all.Given as goal

abbrev pub invariant-loop-fact : goal.invariant-loop-fact
invariant-loop-fact l =
    record {
      by_value : l.self.by_value.items ≡ l.fn.self.by_value.items ++ flat_map (λ e. value_entries l.operator (slice_index_or l.values e.variable None) e) (take l.fact-index l.effect);
      by_variable : l.self.by_variable.items ≡ l.fn.self.by_variable.items ++ flat_map (λ e. variable_entries l.operator (slice_index_or l.values e.variable None) e) (take l.fact-index l.effect);
    }
