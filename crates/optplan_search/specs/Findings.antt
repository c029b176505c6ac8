-- The finding of a search: a cheapest plan, that there is none, or a bound with the best plan so far; each with a
-- certificate if one is wanted.
use Rattle.std.specs.Prelude.{◌≡◌, ℕ, ◌<◌, ◌≤◌, ◌^◌, List, [], ◌∷◌, length, Option, Some, None, IsSomeAnd}
use Rattle.std.specs.Option.{option_map}
use Rattle.cost.specs.Distances.{Distance, Finite, Infinite}
use Rattle.fdr.specs.Tasks.{FiniteDomainTask, IsPlan, plan_cost, EveryPlanCostsAtLeast, HasNoPlan}
use Rattle.cert_value.specs.Certificates.{Kind, CertificateValue}
use Rattle.cert_value.specs.Lawful.{IsLawful, IsLawfulKind}
use Rattle.cert_value.specs.Views.{kind_of}
use Rattle.cert_value.specs.declared.certificate.CertificateKind.{CertificateKind}
use Rattle.cert_value.specs.declared.certificate.Version.{Version}
use Rattle.cert_value.specs.declared.certificate.Version.TheVariants.{Two, Three}
use Rattle.checker_clauses.specs.Violations.{IsHeld}
use Rattle.packed_spread.specs.Spreads as spread
use Rattle.packed_spread.specs.Spreads.{zobrist_owner}
use Rattle.extract.specs.Ends.{EndOf, IsSettledAt, space_at}
use Rattle.optplan_search.specs.SearchEnds.{EndsOf, least_best_of, greatest_bound_of}
use Rattle.optplan_search.specs.declared.found.FoundPlan.{FoundPlan}
use Rattle.optplan_search.specs.declared.answer.Solution.{Solution}
use Rattle.optplan_search.specs.declared.answer.SoFar.{SoFar}
use Rattle.optplan_search.specs.declared.answer.Answer.{Answer}
use Rattle.optplan_search.specs.declared.answer.Answer.TheVariants.{Solved, Unsolvable, Limit}

-- the finding of a search
abbrev pub Found : Type 0
Found = Answer FoundPlan

-- the operators are a plan of that cost
pub record IsPlanAt (task : FiniteDomainTask) (plan : List ℕ) (cost : ℕ) : Type 0 where
  pub leads : IsPlan task plan
  pub costs : plan_cost task plan ≡ cost

-- the operators are a plan of that cost, and no plan costs less
pub record IsCheapestPlan (task : FiniteDomainTask) (plan : List ℕ) (cost : ℕ) : Type 0 where
  pub leads : IsPlan task plan
  pub costs : plan_cost task plan ≡ cost
  pub least : EveryPlanCostsAtLeast task (Finite cost)

-- what certificate is wanted: its kind, and the classes of the values of the task that it has
pub record Wanted : Type 0 where
  pub kind : Kind
  pub classes : List (List ℕ)

abbrev pub wanted_with : List (List ℕ) → Kind → Wanted
wanted_with classes kind = record { kind = kind; classes = classes }

-- a certificate with these classes, if one of some kind is wanted
abbrev pub wants : List (List ℕ) → Option Kind → Option Wanted
wants classes kind = option_map (wanted_with classes) kind

-- a certificate without classes
abbrev pub plain : CertificateKind → Wanted
plain kind = wanted_with [] (kind_of kind)

-- the version of a certificate with these classes
abbrev pub version_with : List (List ℕ) → Version
version_with [] = Two
version_with (row ∷ rows) = Three

-- the certificate is of that kind and has these classes and that bound, all its clauses hold, and it has a text if its
-- kind has one and it has fewer than 2^32 closed states
pub record IsCertificateOf (task : FiniteDomainTask) (wanted : Wanted) (bound : Distance) (c : CertificateValue) : Type 0 where
  pub version_is : c.version ≡ version_with wanted.classes
  pub kind_is : c.kind ≡ wanted.kind
  pub classes_are : c.classes ≡ wanted.classes
  pub bound_is : c.bound ≡ bound
  pub held : IsHeld task c
  pub lawful : IsLawfulKind wanted.kind → length c.closed < 2 ^ 32 → IsLawful c

-- the certificate that is wanted, with that bound; none if none is wanted
abbrev pub IsCertifiedBy : FiniteDomainTask → Option Wanted → Distance → Option CertificateValue → Type 0
IsCertifiedBy task None bound c = c ≡ None
IsCertifiedBy task (Some wanted) bound c = IsSomeAnd c (IsCertificateOf task wanted bound)

-- a cheapest plan, with a certificate of its cost if one is wanted
pub record IsSolution (task : FiniteDomainTask) (wanted : Option Wanted) (s : Solution FoundPlan) : Type 0 where
  pub cheapest : IsCheapestPlan task s.found.plan.items s.found.cost
  pub certified : IsCertifiedBy task wanted (Finite s.found.cost) s.certificate

-- the best plan so far: none if no goal state was taken, otherwise one that costs at most as much as the best goal
-- state that was
abbrev pub IsBestSoFar : FiniteDomainTask → Distance → Option FoundPlan → Type 0
IsBestSoFar task Infinite None = Unit {0}
IsBestSoFar task Infinite (Some p) = ⊥
IsBestSoFar task (Finite most) None = ⊥
IsBestSoFar task (Finite most) (Some p) = IsPlanAt task p.plan.items p.cost × (p.cost ≤ most)

-- a lower bound on the cost of every plan, with a certificate of it if one is wanted, and the best plan so far
pub record IsSoFar (task : FiniteDomainTask) (wanted : Option Wanted) (best : Distance) (s : SoFar FoundPlan) : Type 0 where
  pub least : EveryPlanCostsAtLeast task (Finite s.bound)
  pub certified : IsCertifiedBy task wanted (Finite s.bound) s.certificate
  pub best_is : IsBestSoFar task best s.best

-- ---- by the ends of the searches

-- the owners at an end are settled at the bound
abbrev pub IsSettledEnd : {S : Type 0} → (S → List ℕ → ℕ → ℕ) → EndOf S → Distance → Type 0
IsSettledEnd owner e bound = IsSettledAt (space_at owner e) e.owners e.left bound

-- the owners at the last end are not settled, and the greatest lower bound of the searches is `bound`
pub record IsShortEnd {S : Type 0} (owner : S → List ℕ → ℕ → ℕ) (es : EndsOf S) (bound : ℕ) : Type 0 where
  pub unsettled : (at : Distance) → IsSettledEnd owner es.last at → ⊥
  pub bound_is : greatest_bound_of owner es ≡ Finite bound

-- the finding for a task by searches at their ends, for it or for one that it is reduced to; with a certificate if one
-- is wanted
abbrev pub IsFoundFor : {S : Type 0} → FiniteDomainTask → (S → List ℕ → ℕ → ℕ) → EndsOf S → Option Wanted → Found → Type 0
IsFoundFor task owner es wanted (Solved s) = IsSolution task wanted s × IsSettledEnd owner es.last (Finite s.found.cost)
IsFoundFor task owner es wanted (Unsolvable c) = HasNoPlan task × IsCertifiedBy task wanted Infinite c × IsSettledEnd owner es.last Infinite
IsFoundFor task owner es wanted (Limit s) = IsSoFar task wanted (least_best_of es) s × IsShortEnd owner es s.bound

-- the finding for the task that was searched
abbrev pub IsFound : {S : Type 0} → (S → List ℕ → ℕ → ℕ) → EndsOf S → Option Wanted → Found → Type 0
IsFound owner es wanted found = IsFoundFor es.last.space.task owner es wanted found

-- the finding for a task that was searched, by searches whose ends satisfy `ends` and whose states are spread by a hash
pub record IsOwnFinding (task : FiniteDomainTask) (wanted : Option Wanted) (ends : EndsOf spread.Zobrist → Type 0) (f : Found) : Type 0 where
  pub at : EndsOf spread.Zobrist
  pub ended : ends at
  pub task_is : at.last.space.task ≡ task
  pub found : IsFound zobrist_owner at wanted f

-- the finding for a task by searches, for it or for one that it is reduced to, whose ends satisfy `ends` and whose
-- states are spread by a hash; if a certificate is wanted, it may have classes
pub record IsFinding (task : FiniteDomainTask) (wanted : Option Kind) (ends : EndsOf spread.Zobrist → Type 0) (f : Found) : Type 0 where
  pub at : EndsOf spread.Zobrist
  pub ended : ends at
  pub classes : List (List ℕ)
  pub found : IsFoundFor task zobrist_owner at (wants classes wanted) f

-- the finding is that of some ends for the task
abbrev pub IsTrueOf : FiniteDomainTask → Option Kind → Found → Type 0
IsTrueOf task wanted found =
    (es : EndsOf spread.Zobrist) × ((classes : List (List ℕ)) × IsFoundFor task zobrist_owner es (wants classes wanted) found)
