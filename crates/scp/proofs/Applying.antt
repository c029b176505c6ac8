-- What an operator that applies makes of a state.
use Rattle.std.proofs.Common.{◌≡◌, ℕ, Bool, true, false, List, Option, Some, None, refl, sym, subst, true≢false, cond}
use Rattle.std.specs.Prelude.{slice_get, IfSome, option_and_then}
use Rattle.std.specs.Option.{option_map_or}
use Rattle.fdr.specs.Tasks.{FiniteDomainTask, Operator, ranges, IsTask, IsState, applies, applies_at, successor, step}
use Rattle.abstraction.specs.Steps.{step_keeps_state}

-- where an operator leads from a state is one
pub leads_to_state : (T : FiniteDomainTask) (s' s t : List ℕ) (o : ℕ) → IsTask T → IsState (ranges T) s → s' ≡ s → step T s' o ≡ Some t
    → IsState (ranges T) t
leads_to_state T s' s t o well ok same leads =
    subst (λ (r : Option (List ℕ)). IfSome r (IsState (ranges T))) leads
    (step_keeps_state T well s' o (subst (IsState (ranges T)) (sym same) ok))

-- an operator that applies leads somewhere
pub applied_step : (T : FiniteDomainTask) (s : List ℕ) (o : ℕ) → applies_at T o s ≡ true → (t : List ℕ) × (step T s o ≡ Some t)
applied_step T s o = go (slice_get T.operators o)
  where
    chosen : (b : Bool) (t : List ℕ) → b ≡ true → cond b (Some t) None ≡ Some t
    chosen true t e = refl
    chosen false t e = absurd (true≢false (sym e))

    go : (r : Option Operator) → option_map_or (λ op. applies op s) r false ≡ true
        → (t : List ℕ) × (option_and_then (λ op. cond (applies op s) (Some (successor op s)) None) r ≡ Some t)
    go None e = absurd (true≢false (sym e))
    go (Some op) e = (successor op s, chosen (applies op s) (successor op s) e)
