-- The operators that affect an abstraction, each a class of its own.
use Rattle.std.specs.Prelude.{ℕ, ◌==◌, List, length}
use Rattle.std.specs.List.{filter, position, range_with_len}
use Rattle.fdr.specs.Tasks.{FiniteDomainTask}
use Rattle.abstraction.specs.Abstractions.{Abstraction}
use Rattle.abstraction_groups.specs.Entrances.{Classes}

-- the operators of the task that affect the abstraction, by increasing numbers
abbrev pub affecting : FiniteDomainTask → Abstraction → List ℕ
affecting task a = filter a.touches (range_with_len 0 (length task.operators))

-- each of these operators is a class, numbered in their order, and the others have no class
abbrev pub single_classes : FiniteDomainTask → Abstraction → Classes
single_classes task a =
    record { count = length (affecting task a); class = λ o. position (λ p. p == o) (affecting task a) }
