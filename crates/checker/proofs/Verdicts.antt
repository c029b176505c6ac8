-- Verdicts on planning tasks by those on finite-domain tasks, and by what is wrong first.
use Rattle.std.proofs.Common.{inl, inr, ◌≡◌, ℕ, zero, suc, ◌<◌, ◌≤◌, ◌^◌, List, [], ◌∷◌, refl, sym, ap, subst, ◌∙◌, length, map, arith}
use Rattle.std.specs.Prelude.{◌≢◌, ◌+◌, slice_index, All, Result, Ok, Err, IfOk, IfErr}
use Rattle.std.specs.List.{AllByRecursion}
use Rattle.std.specs.List.Sorted.{IsStrictlyIncreasing}
use Rattle.std.proofs.lemmas.List.Elements.{All-nil, All-cons}
use Rattle.std.proofs.lemmas.List.{length-map}
use Rattle.cert_value.specs.Lawful.{IsLawful, IsIncreasing, IsVariable, ArePlanningParts}
use Rattle.cert_value.specs.Certificates.{Planning, Variable, CertificateValue}
use Rattle.translate_theory.specs.Variables.{PlacedVariable, IsPlaced, variables_at}
use Rattle.cost.specs.Distances.{Distance, Infinite}
use Rattle.fdr.specs.Tasks.{FiniteDomainTask, EveryPlanCostsAtLeast}
use Rattle.pddl_task.specs.Atoms as planning
use Rattle.pddl_task.specs.Atoms.{contains}
use Rattle.ground_theory.specs.Grounding.{actions_over}
use Rattle.translate_theory.specs.Translations.{translation}
use Rattle.pddl_task.specs.Planning.{PlanningTask, Vocabulary}
use Rattle.translate_theory.specs.Bounds.{ValidPlansCostAtLeast}
use Rattle.translate.specs.Translated.{TranslatedTask, IsTranslation, HasSamePlans}
use Rattle.translate_vars.specs.Parts.{AreFit}
use Rattle.translate_vars.specs.Faults.{IsFirstFault}
use Rattle.translate_vars.specs.declared.fault.TranslateFault.{TranslateFault}
use Rattle.translate_vars.specs.declared.fault.TranslateFault.TheVariants as fault
use Rattle.checker.specs.declared.verdict.PlanningViolation.{PlanningViolation}
use Rattle.checker.specs.declared.verdict.PlanningViolation.TheVariants.{Atom, Variable as VariablePlace, Uncovered, Task}
use Rattle.checker_clauses.specs.declared.violation.Violation.{Violation}
use Rattle.checker.specs.declared.verdict.PlanningVerdict.{PlanningVerdict}
use Rattle.checker.specs.declared.verdict.PlanningVerdict.TheVariants.{Accepted, Rejected}
use Rattle.cert_text.specs.Spelling.{spelling}
use Rattle.pddl.specs.Texts.{SpellTask}
use Rattle.pddl.proofs.TaskTexts.{one_task_is}
use Rattle.pddl_task.specs.Plans.{HasNoValidPlan}
use Rattle.checker.specs.declared.fault.PlanningCheckFault.{PlanningCheckFault}
use Rattle.checker.specs.Answers.{IsAnswer, IsRefusal, IsUnanswered, IsRefusedCertificate}
use Rattle.checker.specs.Naming.{named, named_atoms, listed}
use Rattle.checker.specs.Judgements.{Judged, atoms_of, placed_of, finite_domain_task, IsPlaceOf, IsPlanningVerdict, IsFiniteDomainVerdict}

pub over_fit : (j : Judged) (c : CertificateValue) (v : PlanningVerdict) → AreFit j.task (atoms_of j) (placed_of j)
    → IsFiniteDomainVerdict (finite_domain_task j) c v → IsPlanningVerdict j c v
over_fit j c (Accepted bound) fit h = (fit, h)
over_fit j c (Rejected (Task v)) fit h = (fit, h)
over_fit j c (Rejected (Atom s)) fit h = absurd h
over_fit j c (Rejected (VariablePlace k)) fit h = absurd h
over_fit j c (Rejected (Uncovered s)) fit h = absurd h

no_task_place : (j : Judged) (e : TranslateFault) (v : Violation) → IsPlaceOf j e (Task v) → ⊥
no_task_place j fault.OutOfMemory v h = h
no_task_place j fault.GroundLimit v h = h
no_task_place j (fault.Limit l) v h = h
no_task_place j (fault.BadAtom k) v h = h
no_task_place j (fault.Missing p) v h = h
no_task_place j (fault.NotClosed p) v h = h
no_task_place j (fault.Uncovered k) v h = h
no_task_place j (fault.NotGroup k) v h = h
no_task_place j (fault.NotFull k) v h = h
no_task_place j (fault.Misplaced k) v h = h

pub wrong_place : (j : Judged) (c : CertificateValue) (e : TranslateFault) (v : PlanningViolation) → IsFirstFault j.task (atoms_of j) (placed_of j) e
    → IsPlaceOf j e v → IsPlanningVerdict j c (Rejected v)
wrong_place j c e (Task v) first place = absurd (no_task_place j e v place)
wrong_place j c e (Atom s) first place = (e, first, place)
wrong_place j c e (VariablePlace k) first place = (e, first, place)
wrong_place j c e (Uncovered s) first place = (e, first, place)

strictly : (ns : List ℕ) → IsIncreasing ns → IsStrictlyIncreasing ns
strictly [] h k l = absurd (omega (arith, l))
strictly (n ∷ []) h k l = absurd (omega (arith, l))
strictly (m ∷ n ∷ ns) h zero l = h.0
strictly (m ∷ n ∷ ns) h (suc k) l =
    let next : suc (k + 1) ≡ suc k + 1 = omega arith in
    subst (λ (i : ℕ). slice_index (n ∷ ns) k < slice_index (m ∷ n ∷ ns) i) next (strictly (n ∷ ns) h.1 k (omega (arith, l)))

all_of : {X : Type 0} (P : X → Type 0) (xs : List X) → AllByRecursion P xs → All P xs
all_of P [] h = All-nil P
all_of P (x ∷ xs) h = All-cons P x xs h.0 (all_of P xs h.1)

some_of : (ns : List ℕ) → ns ≢ [] → 0 < length ns
some_of [] h = absurd (h refl)
some_of (n ∷ ns) h = omega arith

each_placed : (count : ℕ) (variables : List Variable) → AllByRecursion (IsVariable count) variables → All (IsPlaced count) (map listed variables)
each_placed count [] h = All-nil (IsPlaced count)
each_placed count (v ∷ variables) h =
    All-cons (IsPlaced count) (listed v) (map listed variables)
    (record { some = some_of v.atoms h.0.some; rising = strictly v.atoms h.0.increasing; within = all_of (λ a. a < count) v.atoms h.0.atoms })
    (each_placed count variables h.1)

-- the variables of a lawful certificate are over the atoms that it lists
pub lawful_placed : (names : Vocabulary) (words : List (List (List ℕ))) (variables : List Variable) → ArePlanningParts words variables
    → All (IsPlaced (length (named_atoms names words))) (map listed variables)
lawful_placed names words variables parts =
    subst (λ (n : ℕ). All (IsPlaced n) (map listed variables)) (sym (length-map words (named names))) (each_placed (length words) variables parts.each_variable)

pub listed_placed : (j : Judged) (atoms : List planning.Atom) (variables : List PlacedVariable) → ArePlanningParts j.words j.variables
    → atoms ≡ atoms_of j → variables ≡ placed_of j → All (IsPlaced (length atoms)) variables
listed_placed j atoms variables parts a v =
    subst (λ (vs : List PlacedVariable). All (IsPlaced (length atoms)) vs) (sym v)
    (subst (λ (ps : List planning.Atom). All (IsPlaced (length ps)) (placed_of j)) (sym a) (lawful_placed j.task.vocabulary j.words j.variables parts))

-- the verdict for the finite-domain task of a translation over what is listed
pub translation_verdict : (j : Judged) (c : CertificateValue) (v : PlanningVerdict) (t : TranslatedTask) (f : FiniteDomainTask) → IsTranslation j.task t
    → t.atoms ≡ atoms_of j → t.variables ≡ placed_of j → f ≡ t.task → IsFiniteDomainVerdict f c v → IsPlanningVerdict j c v
translation_verdict j c v t f made a vs is h =
    over_fit j c v
    (subst (AreFit j.task (atoms_of j)) vs (subst (λ (ps : List planning.Atom). AreFit j.task ps t.variables) a made.fit))
    (subst (λ (g : FiniteDomainTask). IsFiniteDomainVerdict g c v) (is ∙ made.task_is ∙ same) h)
  where
    same : translation j.task (variables_at t.atoms t.variables) (actions_over j.task (contains t.atoms)) ≡ finite_domain_task j
    same =
        ap (λ (ps : List planning.Atom). translation j.task (variables_at ps t.variables) (actions_over j.task (contains ps))) a
        ∙ ap (λ (ws : List PlacedVariable). translation j.task (variables_at (atoms_of j) ws) (actions_over j.task (contains (atoms_of j)))) vs

pub translation_bound : (task : PlanningTask) (t : TranslatedTask) (f : FiniteDomainTask) (bound : Distance) → HasSamePlans task t → f ≡ t.task
    → EveryPlanCostsAtLeast f bound → ValidPlansCostAtLeast task bound
translation_bound task t f bound same is h = (same.bounds bound).0 (subst (λ (g : FiniteDomainTask). EveryPlanCostsAtLeast g bound) is h)

-- the verdict on a certificate that a text spells is an answer
pub answer_is : (task : PlanningTask) (domain problem cert : List ℕ) (c : CertificateValue) (v : PlanningVerdict) → SpellTask domain problem task → IsLawful c × (cert ≡ spelling c) × (length cert ≤ 2 ^ 30)
    → ((words : List (List (List ℕ))) × (variables : List Variable) × (c.kind ≡ Planning words variables))
    → ((words : List (List (List ℕ))) (variables : List Variable) → c.kind ≡ Planning words variables
    → IsPlanningVerdict (record { task = task; words = words; variables = variables }) c v)
    → IsAnswer domain problem cert v
answer_is task domain problem cert c v spelled (lawful, text, short) (words, variables, kind) verdict =
    record {
      judged = record { task = task; words = words; variables = variables };
      certificate = c;
      spelled = record { task_spelled = spelled; certificate_spelled = record { short = short; lawful = lawful; spelled = text; kind = kind } };
      holds = verdict words variables kind;
    }

-- and where there is none, that is a refusal
pub refusal_is : (task : PlanningTask) (domain problem cert : List ℕ) (c : CertificateValue) (e : PlanningCheckFault) → SpellTask domain problem task → IsLawful c × (cert ≡ spelling c) × (length cert ≤ 2 ^ 30)
    → IsUnanswered task c e → IsRefusal domain problem cert e
refusal_is task domain problem cert c e spelled (lawful, text, short) (inl (kind, is)) =
    inr (inl ((task, spelled), subst (IsRefusedCertificate cert) (sym is) ((λ k. absurd cc), inr (refl, record { short = short; certificate = c; lawful = lawful; spelled = text; kind = kind }))))
refusal_is task domain problem cert c e spelled (lawful, text, short) (inr (words, variables, kind, unjudged)) =
    inr (inr (
      record { task = task; words = words; variables = variables },
      c,
      record { task_spelled = spelled; certificate_spelled = record { short = short; lawful = lawful; spelled = text; kind = kind } },
      unjudged,
    ))

pub if_ok_with : {X E : Type 0} (P Q R : X → Type 0) (r : Result X E) → ((x : X) → P x → Q x → R x) → IfOk r P → IfOk r Q → IfOk r R
if_ok_with P Q R (Ok x) f p q = f x p q
if_ok_with P Q R (Err e) f p q = tt

pub if_ok_each : {X E W V : Type 0} (K : W → V → Type 0) (P : W → V → X → Type 0) (r : Result X E) → ((w : W) (v : V) → K w v → IfOk r (P w v))
    → IfOk r (λ x. (w : W) (v : V) → K w v → P w v x)
if_ok_each K P (Ok x) f = f
if_ok_each K P (Err e) f = tt

pub if_err_map : {X E : Type 0} (P Q : E → Type 0) (r : Result X E) → ((e : E) → P e → Q e) → IfErr r P → IfErr r Q
if_err_map P Q (Ok x) f h = tt
if_err_map P Q (Err e) f h = f e h

pub bound_is : (domain problem : List ℕ) (t u : PlanningTask) (bound : Distance) → SpellTask domain problem t → SpellTask domain problem u
    → ValidPlansCostAtLeast t bound → ValidPlansCostAtLeast u bound
bound_is domain problem t u bound a b h = subst (λ (v : PlanningTask). ValidPlansCostAtLeast v bound) (one_task_is domain problem t u a b) h

pub none_is : (task : PlanningTask) → ValidPlansCostAtLeast task Infinite → HasNoValidPlan task
none_is task h = λ plan valid. h plan valid

pub if_ok_map : {X E : Type 0} (P Q : X → Type 0) (r : Result X E) → ((x : X) → P x → Q x) → IfOk r P → IfOk r Q
if_ok_map P Q (Ok x) f h = f x h
if_ok_map P Q (Err e) f h = tt
