-- What a search has found whose owners are settled.
use Rattle.std.proofs.Common.{◌≡◌, ℕ, List, Option, Some, None, sym, subst}
use Rattle.std.specs.Prelude.{IsSomeAnd}
use Rattle.cost.specs.Distances.{Distance, Finite, Infinite}
use Rattle.fdr.specs.Tasks.{EveryPlanCostsAtLeast}
use Rattle.cert_value.specs.Certificates.{CertificateValue}
use Rattle.extract.specs.Ends.{EndOf}
use Rattle.extract.specs.Bounds.{least_best}
use Rattle.optplan_search.specs.SearchEnds.{single}
use Rattle.optplan_search.specs.Findings.{Found, Wanted, IsCertifiedBy, IsBestSoFar, IsSettledEnd, IsFound}
use Rattle.optplan_search.specs.declared.found.FoundPlan.{FoundPlan}
use Rattle.optplan_search.specs.declared.answer.Answer.TheVariants.{Solved, Unsolvable}
use Rattle.optplan_search.proofs.Ends.{solved}

-- the finding with the best plan of a settled search, if there is one
abbrev pub finding_of : Option FoundPlan → Option CertificateValue → Found
finding_of None certificate = Unsolvable certificate
finding_of (Some found) certificate = Solved (record { found = found; certificate = certificate })

module _ {S : Type 0} (owner : S → List ℕ → ℕ → ℕ) (e : EndOf S) (wanted : Option Wanted) where
  -- where the best plan is none, the bound is infinite; else it is the plan's cost
  pub settled_finding : (bound : Distance) (best : Option FoundPlan) (certificate : Option CertificateValue) → IsSettledEnd owner e bound
      → EveryPlanCostsAtLeast e.space.task bound → IsBestSoFar e.space.task (least_best e) best
      → ((cost : ℕ) → IsSettledEnd owner e (Finite cost) → IsSomeAnd best (λ p. p.cost ≡ cost))
      → ((d : Distance) → IsSettledEnd owner e d → IsCertifiedBy e.space.task wanted d certificate)
      → IsFound owner (single e) wanted (finding_of best certificate)
  settled_finding (Finite cost) None certificate settled least known costs certified = absurd (costs cost settled)
  settled_finding (Finite cost) (Some p) certificate settled least known costs certified =
      let same : p.cost ≡ cost = costs cost settled in
      let all = solved e.space.task wanted (least_best e) cost p certificate (sym settled.best) least known same (certified (Finite cost) settled) in (
        record { cheapest = all.0; certified = all.1 },
        subst (λ (k : ℕ). IsSettledEnd owner e (Finite k)) (sym same) settled,
      )
  settled_finding Infinite None certificate settled least known costs certified = (λ plan leads. least plan leads, certified Infinite settled, settled)
  settled_finding Infinite (Some p) certificate settled least known costs certified =
      absurd (subst (λ (d : Distance). IsBestSoFar e.space.task d (Some p)) (sym settled.best) known)
