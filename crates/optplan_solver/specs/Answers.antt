-- Answers with written plans: a cheapest plan, that there is none, or a bound and the best plan so far.
use Rattle.std.specs.Prelude.{◌≡◌, ℕ, ◌≤◌, Bool, true, false, List, Option, Some, None, IsSomeAnd, IfSome}
use Rattle.cost.specs.Distances.{Distance, Finite, Infinite}
use Rattle.fdr.specs.Tasks.{FiniteDomainTask}
use Rattle.cert_value.specs.Certificates.{CertificateValue}
use Rattle.cert_text.specs.Spelling.{spelling}
use Rattle.packed_spread.specs.Spreads as spread
use Rattle.packed_spread.specs.Spreads.{zobrist_owner}
use Rattle.optplan_search.specs.SearchEnds.{EndsOf, least_best_of}
use Rattle.optplan_search.specs.Findings.{Found, IsPlanAt, IsSettledEnd, IsShortEnd}
use Rattle.optplan_search.specs.declared.found.FoundPlan.{FoundPlan}
use Rattle.optplan_solver.specs.declared.forms.WrittenPlan.{WrittenPlan}
use Rattle.optplan_search.specs.declared.answer.Solution.{Solution}
use Rattle.optplan_search.specs.declared.answer.SoFar.{SoFar}
use Rattle.optplan_search.specs.declared.answer.Answer.{Answer}
use Rattle.optplan_search.specs.declared.answer.Answer.TheVariants.{Solved, Unsolvable, Limit}

-- ---- a finding in another form

-- the plans of a finding are plans of the task
abbrev pub HasPlans : FiniteDomainTask → Found → Type 0
HasPlans task (Solved s) = IsPlanAt task s.found.plan.items s.found.cost
HasPlans task (Unsolvable c) = Unit {0}
HasPlans task (Limit s) = IfSome s.best (λ p. IsPlanAt task p.plan.items p.cost)

-- the best plan so far in another form
abbrev pub IsGivenBest : {P : Type 0} → (WrittenPlan P → Type 0) → Option FoundPlan → Option (WrittenPlan P) → Type 0
IsGivenBest is_plan None None = Unit {0}
IsGivenBest is_plan None (Some q) = ⊥
IsGivenBest is_plan (Some p) None = ⊥
IsGivenBest is_plan (Some p) (Some q) = is_plan q × (q.cost ≡ p.cost)

-- a finding with its plans in another form: of the same costs, with the same bound and the same certificate
abbrev pub IsGiven : {P : Type 0} → (WrittenPlan P → Type 0) → Found → Answer (WrittenPlan P) → Type 0
IsGiven is_plan (Solved s) (Solved t) = is_plan t.found × (t.found.cost ≡ s.found.cost) × (t.certificate ≡ s.certificate)
IsGiven is_plan (Solved s) (Unsolvable d) = ⊥
IsGiven is_plan (Solved s) (Limit t) = ⊥
IsGiven is_plan (Unsolvable c) (Solved t) = ⊥
IsGiven is_plan (Unsolvable c) (Unsolvable d) = d ≡ c
IsGiven is_plan (Unsolvable c) (Limit t) = ⊥
IsGiven is_plan (Limit s) (Solved t) = ⊥
IsGiven is_plan (Limit s) (Unsolvable d) = ⊥
IsGiven is_plan (Limit s) (Limit t) = (t.bound ≡ s.bound) × (t.certificate ≡ s.certificate) × IsGivenBest is_plan s.best t.best

-- ---- answers for a task of which something is to be known

-- a certificate whose text is accepted in some sense, if one is wanted; none if none is
abbrev pub IsTextIf : Bool → (List ℕ → Type 0) → Option CertificateValue → Type 0
IsTextIf false accepts certificate = certificate ≡ None
IsTextIf true accepts certificate = IsSomeAnd certificate (λ c. accepts (spelling c))

-- the best plan so far: none if no goal state was taken, otherwise one that costs at most as much as the best goal
-- state that was
abbrev pub IsBestWritten : {P : Type 0} → (WrittenPlan P → Type 0) → Distance → Option (WrittenPlan P) → Type 0
IsBestWritten is_plan Infinite None = Unit {0}
IsBestWritten is_plan Infinite (Some p) = ⊥
IsBestWritten is_plan (Finite most) None = ⊥
IsBestWritten is_plan (Finite most) (Some p) = is_plan p × (p.cost ≤ most)

-- what is_plan says of a plan, `is_bound` of a bound on the cost of every plan, `none` of a task without a plan, and
-- `accepts` of a bound and the text of a certificate of it
module _ {P : Type 0} (is_plan : WrittenPlan P → Type 0) (is_bound : Distance → Type 0) (none : Type 0) (accepts : Distance → List ℕ → Type 0) (wanted : Bool) where
  -- a cheapest plan, with a certificate of its cost if one is wanted
  pub record IsWrittenSolution (s : Solution (WrittenPlan P)) : Type 0 where
    pub found : is_plan s.found
    pub least : is_bound (Finite s.found.cost)
    pub accepted : IsTextIf wanted (accepts (Finite s.found.cost)) s.certificate

  -- a lower bound on the cost of every plan, with a certificate of it if one is wanted, and the best plan so far
  pub record IsWrittenSoFar (most : Distance) (s : SoFar (WrittenPlan P)) : Type 0 where
    pub least : is_bound (Finite s.bound)
    pub best : IsBestWritten is_plan most s.best
    pub accepted : IsTextIf wanted (accepts (Finite s.bound)) s.certificate

  -- the answer by searches at their ends: a cheapest plan, that there is none, or a bound and the best plan so far;
  -- each with a certificate if one is wanted
  abbrev pub IsWrittenAnswer : EndsOf spread.Zobrist → Answer (WrittenPlan P) → Type 0
  IsWrittenAnswer es (Solved s) = IsWrittenSolution s × IsSettledEnd zobrist_owner es.last (Finite s.found.cost)
  IsWrittenAnswer es (Unsolvable c) = none × IsTextIf wanted (accepts Infinite) c × IsSettledEnd zobrist_owner es.last Infinite
  IsWrittenAnswer es (Limit s) = IsWrittenSoFar (least_best_of es) s × IsShortEnd zobrist_owner es s.bound
