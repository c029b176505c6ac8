-- The successor of a closed state by an operator, as it was made.
use Rattle.std.proofs.Common.{◌≡◌, ◌⊎◌, ℕ, ◌+◌, ◌<◌, ◌≤◌, true, false, cond, List, length, inl, inr, arith, Option, Some, None, refl, sym, ap, ◌∙◌, subst}
use Rattle.std.specs.Prelude.{slice_get, option_map, option_and_then, unwrap_or, not, IfSome, MatchOption}
use Rattle.std.specs.List.{find}
use Rattle.std.specs.Option.{option_map_or}
use Rattle.std.proofs.lemmas.Bool.{true≢false, cases_lt}
use Rattle.std.proofs.lemmas.List.{length-map}
use Rattle.std.proofs.lemmas.Option.{slice_get_past}
use Rattle.fdr.specs.Tasks.{FiniteDomainTask, Operator, ranges, IsTask, IsState, applies, successor, applies_at, step, cost_of}
use Rattle.abstraction.specs.Steps.{step_keeps_state}
use Rattle.cert_value.specs.Certificates.{Entry, CertificateValue}
use Rattle.checker_clauses.specs.Clauses.{is_covered, covers_successor}
use Rattle.checker_states.specs.Places.{passes_successor, IsFirstFailing}
use Rattle.fdr_successors.specs.Applicable.{applicable_operators}
use Rattle.checker_states.proofs.Searches.{search}

module _ (task : FiniteDomainTask) (state : List ℕ) where
  no_step : (o : ℕ) → applies_at task o state ≡ false → step task state o ≡ None
  no_step o = go (slice_get task.operators o)
    where
      go : (r : Option Operator) → option_map_or (λ op. applies op state) r false ≡ false → option_and_then (λ op. cond (applies op state) (Some (successor op state)) None) r ≡ None
      go None e = refl
      go (Some op) e = rw e refl

  a_step : (o : ℕ) (d : List ℕ) → applies_at task o state ≡ true → step task state o ≡ Some (unwrap_or (step task state o) d)
  a_step o d = go (slice_get task.operators o)
    where
      go : (r : Option Operator) → option_map_or (λ op. applies op state) r false ≡ true
          → option_and_then (λ op. cond (applies op state) (Some (successor op state)) None) r ≡ Some (unwrap_or (option_and_then (λ op. cond (applies op state) (Some (successor op state)) None) r) d)
      go None e = absurd (true≢false (sym e))
      go (Some op) e = rw e refl

module _ (task : FiniteDomainTask) (c : CertificateValue) (i o : ℕ) (state : List ℕ) (here : option_map (λ (e : Entry). e.state) (slice_get c.closed i) ≡ Some state) where
  -- an operator that does not apply has no successor
  pub not_applied : applies_at task o state ≡ false → passes_successor task c i o ≡ true
  not_applied e = go (slice_get c.closed i) here
    where
      go : (r : Option Entry) → option_map (λ (x : Entry). x.state) r ≡ Some state → option_map_or (λ x. covers_successor task c x o) r true ≡ true
      go None h = refl
      go (Some x) h =
          let same : x.state ≡ state = cc in
          let nothing : step task x.state o ≡ None = rw same (no_step task state o e) in
          ap (λ (r : Option (List ℕ)). option_map_or (λ s. is_covered task c s (x.cost + cost_of task o)) r true) nothing

  -- and one that applies has this
  pub applied : (next : List ℕ) (cost : ℕ) → option_map (λ (e : Entry). e.cost) (slice_get c.closed i) ≡ Some cost → applies_at task o state ≡ true → next ≡ unwrap_or (step task state o) state
      → passes_successor task c i o ≡ is_covered task c next (cost + cost_of task o)
  applied next cost paid e is = go (slice_get c.closed i) here paid
    where
      go : (r : Option Entry) → option_map (λ (x : Entry). x.state) r ≡ Some state → option_map (λ (x : Entry). x.cost) r ≡ Some cost
          → option_map_or (λ x. covers_successor task c x o) r true ≡ is_covered task c next (cost + cost_of task o)
      go None h p = cc
      go (Some x) h p =
          let same : x.state ≡ state = cc in
          let cheap : x.cost ≡ cost = cc in
          let one : step task x.state o ≡ Some next = rw (same, is) (a_step task state o state e) in
          ap (λ (r : Option (List ℕ)). option_map_or (λ s. is_covered task c s (x.cost + cost_of task o)) r true) one
          ∙ ap (λ (g : ℕ). is_covered task c next (g + cost_of task o)) cheap

  module _ (ok : IfSome (slice_get c.closed i) (λ e. IsState (ranges task) e.state)) where
    its_state : IsState (ranges task) state
    its_state = go (slice_get c.closed i) here ok
      where
        go : (r : Option Entry) → option_map (λ (x : Entry). x.state) r ≡ Some state → IfSome r (λ x. IsState (ranges task) x.state) → IsState (ranges task) state
        go None h p = cc
        go (Some x) h p = let same : x.state ≡ state = cc in subst (IsState (ranges task)) same p

    -- it has as many values as the task has variables
    pub its_length : length state ≡ length task.value_names
    its_length = its_state.as_long ∙ length-map task.value_names length

    -- what comes next is a state
    pub next_is_state : IsTask task → (next : List ℕ) → next ≡ unwrap_or (step task state o) state → IsState (ranges task) next
    next_is_state well next is = subst (IsState (ranges task)) (sym is) (after (step task state o) (step_keeps_state task well state o its_state))
      where
        after : (r : Option (List ℕ)) → IfSome r (IsState (ranges task)) → IsState (ranges task) (unwrap_or r state)
        after None p = its_state
        after (Some s) p = p

module _ (task : FiniteDomainTask) (c : CertificateValue) (i : ℕ) (state : List ℕ) (here : option_map (λ (e : Entry). e.state) (slice_get c.closed i) ≡ Some state) where
  -- an operator that does not exist does not apply
  past : (o : ℕ) → length task.operators ≤ o → applies_at task o state ≡ false
  past o l = ap (λ (r : Option Operator). option_map_or (λ op. applies op state) r false) (slice_get_past task.operators o l)

  -- the first of the operators that apply whose successor is not covered is the first of all
  pub first_of_all : (operators : List ℕ) (r : Option ℕ) → operators ≡ applicable_operators task state → r ≡ find (λ o. not (passes_successor task c i o)) operators
      → IsFirstFailing (passes_successor task c i) r
  first_of_all operators r are is = rw (is, are) (widen (find (λ o. not (passes_successor task c i o)) (applicable_operators task state)) (search (passes_successor task c i) (λ o. applies_at task o state) (λ o. not_applied task c i o state here) 0 (length task.operators)))
    where
      widen : (r : Option ℕ)
          → MatchOption r ((x : ℕ) → 0 ≤ x → x < 0 + length task.operators → passes_successor task c i x ≡ true) (λ o. (passes_successor task c i o ≡ false) × ((x : ℕ) → 0 ≤ x → x < o → passes_successor task c i x ≡ true))
          → IsFirstFailing (passes_successor task c i) r
      widen None h = λ x. either x (cases_lt x (length task.operators))
        where
          either : (x : ℕ) → (x < length task.operators) ⊎ (length task.operators ≤ x) → passes_successor task c i x ≡ true
          either x (inl l) = h x (omega arith) (omega arith)
          either x (inr l) = not_applied task c i x state here (past x l)
      widen (Some o) h = (h.0, λ x l. h.1 x (omega arith) l)
