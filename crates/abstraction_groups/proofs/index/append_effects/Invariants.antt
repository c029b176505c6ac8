use Rattle.std.proofs.Common.{◌≡◌, ◌++◌, take}
use Rattle.abstraction_groups.specs.Indexes.{entries_of}
use Rattle.abstraction_groups.proofs.index.append_effects.Given as goal

abbrev pub invariant-loop-fact : goal.invariant-loop-fact
invariant-loop-fact l = l.entries.items ≡ l.fn.entries.items ++ entries_of l.number (take l.fact-index l.effect)
