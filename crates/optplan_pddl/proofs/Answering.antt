-- From what a search has found to what is answered.
use Rattle.std.proofs.Common.{◌≡◌, ℕ, Bool, List, Option, refl, subst}
use Rattle.std.specs.Option.{option_map}
use Rattle.std.specs.Bool.{then_some}
use Rattle.fdr.specs.Tasks.{FiniteDomainTask}
use Rattle.pddl_task.specs.Plans.{HasNoValidPlan}
use Rattle.translate_theory.specs.Bounds.{ValidPlansCostAtLeast}
use Rattle.cert_value.specs.Certificates.{Kind}
use Rattle.cert_value.specs.Views.{kind_of}
use Rattle.cert_text.specs.Spelling.{spelling}
use Rattle.packed_spread.specs.Spreads as spread
use Rattle.optplan_search.specs.SearchEnds.{EndsOf}
use Rattle.optplan_pddl.specs.Kinds.{translation_kind}
use Rattle.optplan_search.specs.Findings.{Found, wants, IsFinding}
use Rattle.optplan_solver.specs.Answers.{HasPlans, IsGiven}
use Rattle.optplan_solver.proofs.WrittenAnswers.{found_has_plans, written_answer}
use Rattle.optplan_search.specs.declared.fault.SearchFault.{SearchFault}
use Rattle.optplan_solver.specs.declared.fault.SolveFault.{SolveFault}
use Rattle.optplan_solver.specs.declared.fault.SolveFault.TheVariants.{Texts, Search}
use Rattle.optplan_pddl.specs.Answers.{PlanningAnswer, IsAccepted, IsPlanningPlan, IsTranslatedPlan, IsPlanningAnswer, IsSearchRefusal, IsPlanningRefusal}
use Rattle.optplan_pddl.specs.declared.fault.PrepareFault.{PrepareFault}
use Rattle.optplan_pddl.specs.Prepared.{IsPrepared}
use Rattle.optplan_pddl.specs.declared.preparing.Prepared.{Prepared}
use Rattle.optplan_pddl.proofs.Accepting.{accepted}

-- ---- of a task that is ready

module _ (wanted : Bool) (domain problem : List ℕ) (p : Prepared) (is : IsPrepared wanted domain problem p) (over : FiniteDomainTask) (over_is : over ≡ p.translated.task) where
  -- what is found of the translation, by its own kind of certificates
  pub found_of : (ends : FiniteDomainTask → EndsOf spread.Zobrist → Type 0) (f : Found) → IsFinding over (option_map kind_of p.wanted) (ends over) f
      → IsFinding p.translated.task (then_some wanted (translation_kind is.task p.translated)) (ends p.translated.task) f
  found_of ends f found =
      subst (λ (k : Option Kind). IsFinding p.translated.task k (ends p.translated.task) f) is.kind_is
      (subst (λ (t : FiniteDomainTask). IsFinding t (option_map kind_of p.wanted) (ends t) f) over_is found)

  -- the plans that are found are plans of the translation
  pub found_plans : (ends : FiniteDomainTask → EndsOf spread.Zobrist → Type 0) (f : Found) → IsFinding over (option_map kind_of p.wanted) (ends over) f
      → HasPlans p.translated.task f
  found_plans ends f found =
      let is_found = found_of ends f found in
      found_has_plans p.translated.task is_found.at (wants is_found.classes (then_some wanted (translation_kind is.task p.translated))) f is_found.found

  -- what is found, with its plans written, is the answer
  pub answer_for : (ends : FiniteDomainTask → EndsOf spread.Zobrist → Type 0) (f : Found) (given : PlanningAnswer) → IsFinding over (option_map kind_of p.wanted) (ends over) f
      → IsGiven (IsTranslatedPlan p.translated) f given → IsPlanningAnswer wanted domain problem ends given
  answer_for ends f given found written =
      let is_found = found_of ends f found in
      record {
        task = is.task;
        spelled = is.spelled;
        translated = p.translated;
        translation = is.translation;
        at = is_found.at;
        ended = is_found.ended;
        is =
            written_answer (IsTranslatedPlan p.translated) (IsPlanningPlan is.task) (ValidPlansCostAtLeast is.task) (HasNoValidPlan is.task)
            (λ bound text. IsAccepted domain problem text bound) p.translated.task (translation_kind is.task p.translated)
            (λ plan h. h domain problem is.task is.spelled is.translation is.same) (λ bound. (is.same.bounds bound).0) is.same.none.0
            (λ classes bound c of. accepted domain problem (spelling c) is.task p.translated classes bound c is.spelled is.translation of refl)
            wanted is_found.classes is_found.at f given is_found.found written;
      }

  pub search_refused : (why : FiniteDomainTask → SearchFault → Type 0) (e : SearchFault) → why over e → IsSearchRefusal domain problem why e
  search_refused why e refusal =
      (is.task, is.spelled, (p.translated, is.translation, subst (λ (t : FiniteDomainTask). why t e) over_is refusal))

-- ---- of texts that are refused

-- refused texts are refused, whatever the search
pub text_refused : (domain problem : List ℕ) (why : FiniteDomainTask → SearchFault → Type 0) (e : SolveFault PrepareFault)
    → IsPlanningRefusal domain problem (λ task f. ⊥) e → IsPlanningRefusal domain problem why e
text_refused domain problem why (Texts e) is = is
text_refused domain problem why (Search e) (task, spells, (t, translation, never)) = absurd never
