use Rattle.std.proofs.Common.{◌≡◌, ◌++◌, take, drop}
use Rattle.abstraction_groups.specs.Pairs.{copies}
use Rattle.abstraction_groups.proofs.pairs.repeat.Given as goal

abbrev pub invariant-loop-value : goal.invariant-loop-value
invariant-loop-value l =
    l.entries.items ≡ take l.first l.fn.entries.items ++ copies l.value l.source l.target (drop l.first l.fn.entries.items)
