use Rattle.std.proofs.Common.{◌≡◌, ◌++◌, ◌-◌, map, take, drop}
use Rattle.abstraction_groups.specs.Pairs.{shifted}
use Rattle.abstraction_groups.proofs.pairs.append_shifted.Given as goal

abbrev pub invariant-loop-index : goal.invariant-loop-index
invariant-loop-index l =
    l.entries.items ≡ l.fn.entries.items ++ map (shifted l.source l.target) (take (l.index - l.first) (drop l.first l.fn.entries.items))
