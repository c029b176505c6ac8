use Rattle.std.specs.List.{filter, range_with_len}
use Rattle.std.proofs.Common.{◌≡◌}
use Rattle.abstraction_listed.proofs.entries.affecting_operators.Given as goal

abbrev pub invariant-loop-operator : goal.invariant-loop-operator
invariant-loop-operator g l =
    l.list.items ≡ filter (g.A.Abstraction.abstraction l.abstraction).touches (range_with_len 0 l.operator)
