-- What a text spells as a plan, and what is wrong with it.
use Rattle.std.proofs.Common.{◌≡◌, ◌≢◌, ℕ, suc, ◌+◌, ◌<◌, ◌≤◌, false, ◌⊎◌, inl, inr, ⊎_elim, List, [], ◌∷◌, ◌++◌, length, map, Option, Some, None, Result, Ok, Err, refl, sym, ap, subst, ◌∙◌, arith, append_assoc}
use Rattle.std.specs.Prelude.{IfOk, IfErr}
use Rattle.std.proofs.lemmas.List.{map-append}
use Rattle.sexp.specs.declared.tree.Tree.{Tree as Expression}
use Rattle.sexp.specs.Forms.{Forms, none, word, group, before, views}
use Rattle.sexp.specs.Grammar.{SpellsAll}
use Rattle.sexp.proofs.Walking.{at_tree}
use Rattle.sexp.proofs.Blame.{one_first}
use Rattle.std.proofs.lemmas.Bool.{cases_lt}
use Rattle.sexp.proofs.Promises.{no_fault_is, one_reading_is, spelled_or_not_is}
use Rattle.validate.specs.Steps.{Step}
use Rattle.validate.specs.declared.plan.PlanFault.{PlanFault}
use Rattle.validate.specs.declared.plan.PlanFault.TheVariants.{OutOfMemory, Tree, PlanShape, PlanLimit}
use Rattle.validate.specs.PlanTexts.{SpellsPlan, IsPlanFault, GivesPlan, max_steps, first_of_places, lists_in, list_faults, shape_faults, step_of, steps_of, with_step}

pub ruleset appending = (append_assoc, map-append)

-- a list that is not empty has the faults of its items
pub list_faults_filled : (at : ℕ) (ts : List Expression) → 1 ≤ length ts → list_faults at (views ts) ≡ lists_in (views ts)
list_faults_filled at [] le = absurd (omega arith)
list_faults_filled at (t ∷ ts) le =
    at_tree (λ f g. list_faults at f ≡ lists_in f) (λ s e text rest. refl) (λ s e inner rest. refl) t (views ts)

-- how many expressions stand there
abbrev pub count_of : Forms → ℕ
count_of none = 0
count_of (word s e t f) = suc (count_of f)
count_of (group s e i f) = suc (count_of f)

count_before : (t : Expression) (rest : Forms) → count_of (before t rest) ≡ suc (count_of rest)
count_before t rest = at_tree (λ f g. count_of f ≡ suc (count_of g)) (λ s e text g. refl) (λ s e inner g. refl) t rest

pub count_views : (ts : List Expression) → count_of (views ts) ≡ length ts
count_views [] = refl
count_views (t ∷ ts) = count_before t (views ts) ∙ ap suc (count_views ts)

no_append : (xs ys : List ℕ) → xs ++ ys ≡ [] → (xs ≡ []) × (ys ≡ [])
no_append [] ys e = (refl, e)
no_append (x ∷ xs) ys e = absurd cc

-- a list without a fault is a step
step_length : (at : ℕ) (inner : Forms) (steps : List Step) → list_faults at inner ≡ [] → length (with_step (step_of inner) steps) ≡ suc (length steps)
step_length at none steps e = absurd cc
step_length at (word s t x f) steps e = refl
step_length at (group s t i f) steps e = absurd cc

-- without a fault of shape there are as many steps as expressions
pub steps_count : (f : Forms) → shape_faults f ≡ [] → length (steps_of f) ≡ count_of f
steps_count none e = refl
steps_count (word s t x f) e = absurd cc
steps_count (group s t i f) e =
    let parts = no_append (list_faults s i) (shape_faults f) e in
    step_length s i (steps_of f) parts.0 ∙ ap suc (steps_count f parts.1)

pub no_place : (ps : List ℕ) → first_of_places ps ≡ None → ps ≡ []
no_place [] e = refl
no_place (p ∷ ps) e = absurd cc

-- without a fault of shape the steps are those of the trees, and as many
pub steps_of_trees : (ts : List Expression) → first_of_places (shape_faults (views ts)) ≡ None → length (steps_of (views ts)) ≡ length ts
steps_of_trees ts e = steps_count (views ts) (no_place (shape_faults (views ts)) e) ∙ count_views ts

-- what is read is spelled so
pub plan_spelled : (bytes : List ℕ) (ts : List Expression) (steps : List Step) → SpellsAll bytes (views ts) → first_of_places (shape_faults (views ts)) ≡ None
    → length ts ≤ max_steps → steps ≡ steps_of (views ts) → SpellsPlan bytes steps
plan_spelled bytes ts steps h shape few is = record {
  forms = views ts;
  spelled = h;
  lists_of_words = no_place (shape_faults (views ts)) shape;
  steps_are = is;
  few = omega (arith, steps_of_trees ts shape, ap length is);
}

-- the steps of the trees of a plan are its steps
pub plan_again : (bytes : List ℕ) (ts : List Expression) (plan : List Step) → SpellsAll bytes (views ts) → SpellsPlan bytes plan → steps_of (views ts) ≡ plan
plan_again bytes ts plan h p = ap steps_of (one_reading_is bytes (views ts) p.forms h p.spelled) ∙ sym p.steps_are

-- where a plan is spelled there is no fault of shape, and no other
pub plan_clean : (bytes : List ℕ) (plan : List Step) (e : PlanFault) → SpellsPlan bytes plan → e ≢ OutOfMemory → IsPlanFault bytes e → ⊥
plan_clean bytes plan OutOfMemory p ne bad = ne refl
plan_clean bytes plan (Tree e) p ne bad = no_fault_is bytes p.forms e p.spelled bad.0
plan_clean bytes plan (PlanShape at) p ne bad =
    let same = one_reading_is bytes bad.0 p.forms bad.1 p.spelled in
    let none_there : shape_faults bad.0 ≡ [] = ap shape_faults same ∙ p.lists_of_words in
    let both : first_of_places [] ≡ Some at = sym (ap first_of_places none_there) ∙ bad.2 in
    absurd cc
plan_clean bytes plan PlanLimit p ne bad =
    let same = one_reading_is bytes bad.0 p.forms bad.1 p.spelled in
    omega (arith, p.few, bad.3, ap length p.steps_are, ap (λ (f : Forms). length (steps_of f)) same)

-- where what is read is spelled so, and what else comes is a fault, no plan is lost
pub gives_plan : (bytes : List ℕ) (r : Result (List Step) PlanFault) → IfOk r (λ plan. SpellsPlan bytes plan) → IfErr r (λ e. IsPlanFault bytes e)
    → (plan : List Step) → SpellsPlan bytes plan → GivesPlan r plan
gives_plan bytes (Ok q) h k plan p = h.steps_are ∙ ap steps_of (one_reading_is bytes h.forms p.forms h.spelled p.spelled) ∙ sym p.steps_are
gives_plan bytes (Err OutOfMemory) h k plan p = tt
gives_plan bytes (Err (Tree e)) h k plan p = plan_clean bytes plan (Tree e) p (λ w. absurd cc) k
gives_plan bytes (Err (PlanShape at)) h k plan p = plan_clean bytes plan (PlanShape at) p (λ w. absurd cc) k
gives_plan bytes (Err PlanLimit) h k plan p = plan_clean bytes plan PlanLimit p (λ w. absurd cc) k

-- more trees than a plan has steps, and no fault of shape
pub over_limit : (bytes : List ℕ) (ts : List Expression) → SpellsAll bytes (views ts) → first_of_places (shape_faults (views ts)) ≡ None → max_steps < length ts → IsPlanFault bytes PlanLimit
over_limit bytes ts h shape lt = (views ts, h, no_place (shape_faults (views ts)) shape, omega (arith, steps_of_trees ts shape))

-- a text spells one plan
pub one_plan_is : (bytes : List ℕ) (plan other : List Step) → SpellsPlan bytes plan → SpellsPlan bytes other → plan ≡ other
one_plan_is bytes plan other p q = p.steps_are ∙ ap steps_of (one_reading_is bytes p.forms q.forms p.spelled q.spelled) ∙ sym q.steps_are

-- what holds of the expressions that a text spells
of_forms : (bytes : List ℕ) (f : Forms) → SpellsAll bytes f → (o : Option ℕ) → first_of_places (shape_faults f) ≡ o
    → ((plan : List Step) × SpellsPlan bytes plan) ⊎ ((e : PlanFault) × (e ≢ OutOfMemory) × IsPlanFault bytes e)
of_forms bytes f h (Some at) e = inr (PlanShape at, (λ w. absurd cc), (f, h, e))
of_forms bytes f h None e =
    ⊎_elim
    (λ many. inr (PlanLimit, (λ w. absurd cc), (f, h, no_place (shape_faults f) e, many)))
    (λ few. inl (steps_of f, record { forms = f; spelled = h; lists_of_words = no_place (shape_faults f) e; steps_are = refl; few = few }))
    (cases_lt max_steps (length (steps_of f)))

pub plan_or_fault : (bytes : List ℕ) → ((plan : List Step) × SpellsPlan bytes plan) ⊎ ((e : PlanFault) × (e ≢ OutOfMemory) × IsPlanFault bytes e)
plan_or_fault bytes =
    ⊎_elim
    (λ w. of_forms bytes w.0 w.1 (first_of_places (shape_faults w.0)) refl)
    (λ w. inr (Tree w.0, (λ z. absurd cc), w.1))
    (spelled_or_not_is bytes)

-- what is wrong where the trees are spelled
pub one_fault_is : (bytes : List ℕ) (e f : PlanFault) → e ≢ OutOfMemory → f ≢ OutOfMemory → IsPlanFault bytes e → IsPlanFault bytes f → e ≡ f
one_fault_is bytes OutOfMemory f ne nf h k = absurd (ne refl)
one_fault_is bytes e OutOfMemory ne nf h k = absurd (nf refl)
one_fault_is bytes (Tree d) (Tree e) ne nf h k = ap Tree (one_first false bytes d e h k)
one_fault_is bytes (Tree d) (PlanShape at) ne nf h k = absurd (no_fault_is bytes k.0 d k.1 h.0)
one_fault_is bytes (Tree d) PlanLimit ne nf h k = absurd (no_fault_is bytes k.0 d k.1 h.0)
one_fault_is bytes (PlanShape at) (Tree e) ne nf h k = absurd (no_fault_is bytes h.0 e h.1 k.0)
one_fault_is bytes (PlanShape at) (PlanShape place) ne nf h k =
    let same = one_reading_is bytes h.0 k.0 h.1 k.1 in
    let e : Some at ≡ Some place = sym h.2 ∙ ap (λ (f : Forms). first_of_places (shape_faults f)) same ∙ k.2 in
    let places : at ≡ place = cc in
    ap PlanShape places
one_fault_is bytes (PlanShape at) PlanLimit ne nf h k =
    let same = one_reading_is bytes h.0 k.0 h.1 k.1 in
    let e : Some at ≡ None = sym h.2 ∙ ap (λ (f : Forms). first_of_places (shape_faults f)) same ∙ ap first_of_places k.2 in
    absurd cc
one_fault_is bytes PlanLimit (Tree e) ne nf h k = absurd (no_fault_is bytes h.0 e h.1 k.0)
one_fault_is bytes PlanLimit (PlanShape at) ne nf h k =
    let same = one_reading_is bytes k.0 h.0 k.1 h.1 in
    let e : Some at ≡ None = sym k.2 ∙ ap (λ (f : Forms). first_of_places (shape_faults f)) same ∙ ap first_of_places h.2 in
    absurd cc
one_fault_is bytes PlanLimit PlanLimit ne nf h k = refl
