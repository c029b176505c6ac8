-- The verdict on a plan.
use Rattle.std.proofs.Common.{◌≡◌, ℕ, ◌+◌, ◌<◌, ◌≤◌, Bool, true, false, ◌&&◌, cond, List, [], ◌∷◌, ◌++◌, length, drop, get_or, Option, Some, None, refl, sym, ap, subst, ◌∙◌}
use Rattle.std.specs.Prelude.{not, slice_get}
use Rattle.std.proofs.Math.ListN.{drop_of_length-le}
use Rattle.std.proofs.lemmas.Option.{option_and_then_some}
use Rattle.pddl_names.specs.Names.{place_of}
use Rattle.pddl_task.specs.Atoms.{State, Literal, literal_holds, satisfies}
use Rattle.pddl_task.specs.Planning.{PlanningTask, Action, IsActionOf, action_of, has_instance}
use Rattle.pddl_task.specs.Plans.{next_state}
use Rattle.validate.specs.Steps.{Step, action_named, numbers_of}
use Rattle.validate.specs.Validation.{first_failing, at_end, at_precondition, at_step, verdict_from}
use Rattle.validate.specs.Verdicts.{IsFirstFailing}
use Rattle.validate.specs.declared.verdict.Verdict.TheVariants.{NotApplicable}
use Rattle.validate.proofs.StateLaws.{next_one}

-- ---- the first literal that does not hold

pub all_hold_if : (state : State) (literals : List Literal) → first_failing state literals ≡ None → satisfies state literals ≡ true
all_hold_if state [] e = refl
all_hold_if state (l ∷ ls) e = go (literal_holds state l) e (all_hold_if state ls)
  where
    go : (b : Bool) → cond (not b) (Some l) (first_failing state ls) ≡ None → (first_failing state ls ≡ None → satisfies state ls ≡ true) → (b && satisfies state ls) ≡ true
    go true e ih = ih e
    go false e ih = absurd cc

pub all_hold : (state : State) (literals : List Literal) → satisfies state literals ≡ true → first_failing state literals ≡ None
all_hold state [] e = refl
all_hold state (l ∷ ls) e = go (literal_holds state l) e (all_hold state ls)
  where
    go : (b : Bool) → (b && satisfies state ls) ≡ true → (satisfies state ls ≡ true → first_failing state ls ≡ None) → cond (not b) (Some l) (first_failing state ls) ≡ None
    go true e ih = ih e
    go false e ih = absurd cc

-- what comes behind a literal that holds
behind_one : (state : State) (l k : Literal) (ls : List Literal) → literal_holds state l ≡ true → IsFirstFailing state ls k → IsFirstFailing state (l ∷ ls) k
behind_one state l k ls h f = record {
  before = l ∷ f.before;
  after = f.after;
  parts = ap (λ (xs : List Literal). l ∷ xs) f.parts;
  hold = rw (h, f.hold) refl;
  fails = f.fails;
}

pub failing_at : (state : State) (literals : List Literal) (k : Literal) → first_failing state literals ≡ Some k → IsFirstFailing state literals k
failing_at state [] k e = absurd cc
failing_at state (l ∷ ls) k e = go (literal_holds state l) refl e (failing_at state ls k)
  where
    go : (b : Bool) → literal_holds state l ≡ b → cond (not b) (Some l) (first_failing state ls) ≡ Some k → (first_failing state ls ≡ Some k → IsFirstFailing state ls k)
        → IsFirstFailing state (l ∷ ls) k
    go true h e ih = behind_one state l k ls h (ih e)
    go false h e ih =
        let same : l ≡ k = cc in
        subst (λ (x : Literal). IsFirstFailing state (l ∷ ls) x) same (record { before = []; after = ls; parts = refl; hold = refl; fails = h })

first_among : (state : State) (before after : List Literal) (k : Literal) → satisfies state before ≡ true → literal_holds state k ≡ false
    → first_failing state (before ++ k ∷ after) ≡ Some k
first_among state [] after k h f = rw f refl
first_among state (l ∷ before) after k h f = go (literal_holds state l) h (λ e. first_among state before after k e f)
  where
    go : (b : Bool) → (b && satisfies state before) ≡ true → (satisfies state before ≡ true → first_failing state (before ++ k ∷ after) ≡ Some k)
        → cond (not b) (Some l) (first_failing state (before ++ k ∷ after)) ≡ Some k
    go true e ih = ih e
    go false e ih = absurd cc

pub failing_found : (state : State) (literals : List Literal) (k : Literal) → IsFirstFailing state literals k → first_failing state literals ≡ Some k
failing_found state literals k f = ap (first_failing state) f.parts ∙ first_among state f.before f.after k f.hold f.fails

-- ---- the action that a step names

-- an action has the schema and the objects that it was asked for
asked : (task : PlanningTask) (n : ℕ) (os : List ℕ) (a : Action) → action_of task n os ≡ Some a → (n ≡ a.schema) × (os ≡ a.objects)
asked task n os a e =
    option_and_then_some _ (slice_get task.schemas n) a e (λ schema at_n made. go (has_instance task schema os) _ _ _ _ made)
  where
    go : (b : Bool) (precondition : List Literal) (adds deletes : _) (cost : ℕ)
        → cond b (Some (record { schema = n; objects = os; precondition = precondition; adds = adds; deletes = deletes; cost = cost })) None ≡ Some a
        → (n ≡ a.schema) × (os ≡ a.objects)
    go true precondition adds deletes cost h =
        let same : record { schema = n; objects = os; precondition = precondition; adds = adds; deletes = deletes; cost = cost } ≡ a = cc in
        (ap (λ (x : Action). x.schema) same, ap (λ (x : Action). x.objects) same)
    go false precondition adds deletes cost h = absurd cc

is_action : (task : PlanningTask) (n : ℕ) (os : List ℕ) (a : Action) → action_of task n os ≡ Some a → IsActionOf task a
is_action task n os a e =
    let parts = asked task n os a e in
    subst (λ (m : ℕ). action_of task m a.objects ≡ Some a) parts.0 (subst (λ (ps : List ℕ). action_of task n ps ≡ Some a) parts.1 e)

-- what a step names is a ground action of the task
pub named_is_action : (task : PlanningTask) (s : Step) (a : Action) → action_named task s ≡ Some a → IsActionOf task a
named_is_action task s a e =
    option_and_then_some _ (place_of task.vocabulary.schemas s.name) a e
    (λ n at_n found. option_and_then_some (action_of task n) (numbers_of task.vocabulary.objects s.arguments) a found
    (λ os at_os h. is_action task n os a h))

-- ---- one step

module _ (task : PlanningTask) (steps : List Step) (place : ℕ) (s : Step) (lt : place < length steps) (is : s ≡ get_or steps place s) where
  -- the verdict from a place on begins with the step there
  step_there : (number : ℕ) (state : State) (cost : ℕ) → verdict_from task (drop place steps) number state cost ≡ verdict_from task (s ∷ drop (place + 1) steps) number state cost
  step_there number state cost = ap (λ (ss : List Step). verdict_from task ss number state cost) (next_one steps place s lt is)

  pub step_applied : (number : ℕ) (state new : State) (cost : ℕ) (a : Action) (paid : ℕ) → action_named task s ≡ Some a → first_failing state a.precondition ≡ None
      → new ≡ next_state state a → paid ≡ a.cost
      → verdict_from task (drop (place + 1) steps) (number + 1) new (cost + paid) ≡ verdict_from task (drop place steps) number state cost
  step_applied number state new cost a paid named holds new_is paid_is =
      ap (λ (t : State). verdict_from task (drop (place + 1) steps) (number + 1) t (cost + paid)) new_is
      ∙ ap (λ (n : ℕ). verdict_from task (drop (place + 1) steps) (number + 1) (next_state state a) (cost + n)) paid_is
      ∙ sym (
      step_there number state cost
      ∙ ap (at_step number state (λ b. verdict_from task (drop (place + 1) steps) (number + 1) (next_state state b) (cost + b.cost))) named
      ∙ ap (λ (o : Option Literal). at_precondition number o (verdict_from task (drop (place + 1) steps) (number + 1) (next_state state a) (cost + a.cost))) holds)

  pub step_not_applicable : (number : ℕ) (state : State) (cost : ℕ) (a : Action) (l : Literal) → action_named task s ≡ Some a → first_failing state a.precondition ≡ Some l
      → NotApplicable number l ≡ verdict_from task (drop place steps) number state cost
  step_not_applicable number state cost a l named fails =
      sym (
      step_there number state cost
      ∙ ap (at_step number state (λ b. verdict_from task (drop (place + 1) steps) (number + 1) (next_state state b) (cost + b.cost))) named
      ∙ ap (λ (o : Option Literal). at_precondition number o (verdict_from task (drop (place + 1) steps) (number + 1) (next_state state a) (cost + a.cost))) fails)

-- behind the last step
pub steps_over : (task : PlanningTask) (steps : List Step) (place number : ℕ) (state : State) (cost : ℕ) (o : Option Literal) → length steps ≤ place → first_failing state task.goal ≡ o
    → at_end cost o ≡ verdict_from task (drop place steps) number state cost
steps_over task steps place number state cost o le e =
    sym (ap (λ (ss : List Step). verdict_from task ss number state cost) (drop_of_length-le steps le) ∙ ap (at_end cost) e)
