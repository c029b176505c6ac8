-- The text that claims that there is no valid plan spells no plan.
use Rattle.std.proofs.Common.{inl, inr, ℕ, List, refl, sym, subst}
use Rattle.std.specs.Prelude.{false, codes}
use Rattle.sexp.specs.Forms.{Forms, none, word}
use Rattle.sexp.specs.Grammar.{SpellsAll}
use Rattle.sexp.specs.Running.{step, run, finished, items}
use Rattle.sexp.proofs.Sound.{items_sound}
use Rattle.validate.specs.Steps.{Step}
use Rattle.validate.specs.PlanTexts.{SpellsPlan, IsPlanFault}
use Rattle.validate.specs.declared.plan.PlanFault.TheVariants.{PlanShape}
use Rattle.validate.proofs.PlanLaws.{plan_clean}
use Rattle.optplan_optimal.specs.Plans.{ClaimsUnsolvable}

-- the word outside a list that the text spells
abbrev claim : Forms
claim = word 0 10 (codes "unsolvable") none

without_feed : SpellsAll (codes "unsolvable") claim
unfolding step run finished items
without_feed = items_sound false (codes "unsolvable") claim refl

with_feed : SpellsAll (codes "unsolvable\n") claim
unfolding step run finished items
with_feed = items_sound false (codes "unsolvable\n") claim refl

claim_fault : (text : List ℕ) → ClaimsUnsolvable text → IsPlanFault text (PlanShape 0)
claim_fault text (inl is) = subst (λ (t : List ℕ). IsPlanFault t (PlanShape 0)) (sym is) (claim, without_feed, refl)
claim_fault text (inr is) = subst (λ (t : List ℕ). IsPlanFault t (PlanShape 0)) (sym is) (claim, with_feed, refl)

pub claim_spells_none : (text : List ℕ) (steps : List Step) → ClaimsUnsolvable text → SpellsPlan text steps → ⊥
claim_spells_none text steps claims spelled = plan_clean text steps (PlanShape 0) spelled (λ k. cc) (claim_fault text claims)
