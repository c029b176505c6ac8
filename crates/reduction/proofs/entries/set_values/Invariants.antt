use Rattle.std.proofs.Common.{◌≡◌, ℕ, None, take}
use Rattle.std.specs.Prelude.{slice_index_or}
use Rattle.abstraction.specs.Facts.{value_in}
use Rattle.reduction.proofs.entries.set_values.Given as goal

abbrev pub invariant-loop-fact : goal.invariant-loop-fact
invariant-loop-fact l = (v : ℕ) → slice_index_or l.values v None ≡ value_in (take l.fact-index l.facts) v
