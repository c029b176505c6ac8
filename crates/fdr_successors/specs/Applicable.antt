-- The operators that apply in a state (Helmert 2006, "The Fast Downward planning system", successor generation).
use Rattle.std.specs.Prelude.{ℕ, List, length, filter}
use Rattle.std.specs.List.{range_with_len}
use Rattle.fdr.specs.Tasks.{FiniteDomainTask, applies_at}

-- the numbers of the operators that apply in the state, in increasing order
abbrev pub applicable_operators : FiniteDomainTask → List ℕ → List ℕ
applicable_operators task state = filter (λ o. applies_at task o state) (range_with_len 0 (length task.operators))
