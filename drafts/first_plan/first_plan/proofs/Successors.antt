-- States after an operator that may not apply.
use Rattle.std.proofs.Common.{ℕ, List, Option, Some, None}
use Rattle.std.specs.Prelude.{unwrap_or, IfSome}
use Rattle.fdr.specs.Tasks.{FiniteDomainTask, ranges, IsTask, IsState, step}
use Rattle.abstraction.specs.Steps.{step_keeps_state}

-- a state, or its successor if the operator applies, is a state
pub successor_or_same : (task : FiniteDomainTask) → IsTask task → (s : List ℕ) (o : ℕ) → IsState (ranges task) s → IsState (ranges task) (unwrap_or (step task s o) s)
successor_or_same task well s o ok = go (step task s o) (step_keeps_state task well s o ok)
  where
    go : (r : Option (List ℕ)) → IfSome r (IsState (ranges task)) → IsState (ranges task) (unwrap_or r s)
    go None h = ok
    go (Some t) h = h
