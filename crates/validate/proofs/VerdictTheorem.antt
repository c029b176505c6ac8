-- The verdict that is worked out step by step holds of the plan, and no other does.
use Rattle.std.proofs.Common.{◌≡◌, ℕ, suc, ◌+◌, Bool, true, false, cond, List, [], ◌∷◌, ◌++◌, length, Option, Some, None, refl, sym, ap, subst, ◌∙◌, arith, append_assoc, length-append}
use Rattle.std.specs.Prelude.{All, IsSomeAnd, Result, Ok, Err, IfOk}
use Rattle.std.proofs.lemmas.List.{append-nil}
use Rattle.std.proofs.lemmas.List.Elements.{All-nil, All-push}
use Rattle.std.proofs.lemmas.List.Sums.{sum_by-append, sum_by-cons}
use Rattle.pddl_task.specs.Atoms.{State, Literal, contains, satisfies}
use Rattle.pddl_task.specs.Planning.{PlanningTask, Action, IsActionOf}
use Rattle.pddl_task.specs.Plans.{is_applicable, next_state, state_after, total_cost}
use Rattle.validate.specs.Steps.{Step, action_named, AreActionsOf}
use Rattle.validate.specs.Validation.{first_failing, at_end, at_precondition, at_step, verdict_from, verdict_of}
use Rattle.validate.specs.Verdicts.{LeadTo, IsVerdict}
use Rattle.validate.specs.declared.verdict.Verdict.{Verdict}
use Rattle.validate.specs.declared.verdict.Verdict.TheVariants.{Valid, NoSuchAction, NotApplicable, GoalOpen}
use Rattle.validate.proofs.VerdictLaws.{all_hold, all_hold_if, failing_at, failing_found, named_is_action}

-- ---- one step more at the end

named_push : (task : PlanningTask) (steps : List Step) (plan : List Action) (s : Step) (a : Action) → AreActionsOf task steps plan → action_named task s ≡ Some a
    → AreActionsOf task (steps ++ s ∷ []) (plan ++ a ∷ [])
named_push task [] [] s a named e = (e, tt)
named_push task [] (b ∷ plan) s a named e = absurd named
named_push task (t ∷ steps) [] s a named e = absurd named
named_push task (t ∷ steps) (b ∷ plan) s a named e = (named.0, named_push task steps plan s a named.1 e)

run_push : (plan : List Action) (a : Action) (start state : State) → state_after start plan ≡ Some state → is_applicable state a ≡ true
    → state_after start (plan ++ a ∷ []) ≡ Some (next_state state a)
run_push [] a start state e applies =
    let same : start ≡ state = cc in
    subst (λ (s : State). cond (is_applicable s a) (Some (next_state s a)) None ≡ Some (next_state state a)) (sym same) (rw applies refl)
run_push (b ∷ plan) a start state e applies = go (is_applicable start b) e (λ h. run_push plan a (next_state start b) state h applies)
  where
    go : (t : Bool) → cond t (state_after (next_state start b) plan) None ≡ Some state
        → (state_after (next_state start b) plan ≡ Some state → state_after (next_state start b) (plan ++ a ∷ []) ≡ Some (next_state state a))
        → cond t (state_after (next_state start b) (plan ++ a ∷ [])) None ≡ Some (next_state state a)
    go true h ih = ih h
    go false h ih = absurd cc

some_and : {X : Type 0} (P : X → Type 0) (o : Option X) (x : X) → o ≡ Some x → P x → IsSomeAnd o P
some_and P o x e h = subst (λ (q : Option _). IsSomeAnd q P) (sym e) h

-- ---- the verdict holds

module _ (task : PlanningTask) where
  -- what is known of the steps so far
  record Known (before : List Step) (plan : List Action) (number : ℕ) (state : State) (cost : ℕ) : Type 0 where
    named : AreActionsOf task before plan
    actions : All (IsActionOf task) plan
    run : state_after (contains task.initial) plan ≡ Some state
    number_is : number ≡ length before + 1
    cost_is : total_cost plan ≡ cost

  known_push : (before : List Step) (plan : List Action) (number : ℕ) (state : State) (cost : ℕ) (s : Step) (a : Action) → Known before plan number state cost
      → action_named task s ≡ Some a → first_failing state a.precondition ≡ None → Known (before ++ s ∷ []) (plan ++ a ∷ []) (number + 1) (next_state state a) (cost + a.cost)
  known_push before plan number state cost s a k e holds = record {
    named = named_push task before plan s a k.named e;
    actions = All-push (IsActionOf task) plan a k.actions (named_is_action task s a e);
    run = run_push plan a (contains task.initial) state k.run (all_hold_if state a.precondition holds);
    number_is = omega (arith, k.number_is, length-append before (s ∷ []));
    cost_is = omega (arith, k.cost_is, sum_by-append (λ (x : Action). x.cost) plan (a ∷ []));
  }

  led : (before : List Step) (plan : List Action) (number : ℕ) (state : State) (cost : ℕ) → Known before plan number state cost → LeadTo task before state
  led before plan number state cost k = record { plan = plan; named = k.named; run = k.run }

  ended : (before : List Step) (plan : List Action) (number : ℕ) (state : State) (cost : ℕ) → Known before plan number state cost
      → (o : Option Literal) → first_failing state task.goal ≡ o → IsVerdict task before (at_end cost o)
  ended before plan number state cost k None e =
      (plan, k.named, record { actions = k.actions; goal = some_and (λ s. satisfies s task.goal ≡ true) _ state k.run (all_hold_if state task.goal e) }, k.cost_is)
  ended before plan number state cost k (Some l) e = (state, led before plan number state cost k, failing_at state task.goal l e)

  module _ (before : List Step) (plan : List Action) (number : ℕ) (state : State) (cost : ℕ) (k : Known before plan number state cost) (s : Step) (after : List Step) where
    at_literal : (a : Action) (behind : Verdict) → action_named task s ≡ Some a → (o : Option Literal) → first_failing state a.precondition ≡ o
        → (first_failing state a.precondition ≡ None → IsVerdict task (before ++ s ∷ after) behind) → IsVerdict task (before ++ s ∷ after) (at_precondition number o behind)
    at_literal a behind named None e rest = rest e
    at_literal a behind named (Some l) e rest = record {
      before = before;
      step = s;
      after = after;
      parts = refl;
      number_is = k.number_is;
      state = state;
      led = led before plan number state cost k;
      wrong = (a, named, failing_at state a.precondition l e);
    }

    at_action : (behind : Action → Verdict) (o : Option Action) → action_named task s ≡ o
        → ((a : Action) → action_named task s ≡ Some a → first_failing state a.precondition ≡ None → IsVerdict task (before ++ s ∷ after) (behind a))
        → IsVerdict task (before ++ s ∷ after) (at_step number state behind o)
    at_action behind None e rest = record {
      before = before;
      step = s;
      after = after;
      parts = refl;
      number_is = k.number_is;
      state = state;
      led = led before plan number state cost k;
      wrong = e;
    }
    at_action behind (Some a) e rest = at_literal a (behind a) e (first_failing state a.precondition) refl (rest a e)

  holds_from : (steps before : List Step) (plan : List Action) (number : ℕ) (state : State) (cost : ℕ) → Known before plan number state cost
      → IsVerdict task (before ++ steps) (verdict_from task steps number state cost)
  holds_from [] before plan number state cost k =
      subst (λ (ss : List Step). IsVerdict task ss (at_end cost (first_failing state task.goal))) (sym (append-nil before))
      (ended before plan number state cost k (first_failing state task.goal) refl)
  holds_from (s ∷ steps) before plan number state cost k =
      at_action before plan number state cost k s steps (λ a. verdict_from task steps (number + 1) (next_state state a) (cost + a.cost)) (action_named task s) refl
      (λ a e holds. subst (λ (ss : List Step). IsVerdict task ss (verdict_from task steps (number + 1) (next_state state a) (cost + a.cost)))
      (append_assoc before (s ∷ []) steps)
      (holds_from steps (before ++ s ∷ []) (plan ++ a ∷ []) (number + 1) (next_state state a) (cost + a.cost) (known_push before plan number state cost s a k e holds)))

  pub verdict_holds : (steps : List Step) → IsVerdict task steps (verdict_of task steps)
  verdict_holds steps = holds_from steps [] [] 1 (contains task.initial) 0 (record {
    named = tt;
    actions = All-nil (IsActionOf task);
    run = refl;
    number_is = omega arith;
    cost_is = refl;
  })

  -- a result that is that verdict holds of the plan
  pub verdict_found : {E : Type 0} (steps : List Step) (r : Result Verdict E) → IfOk r (λ v. v ≡ verdict_of task steps) → IfOk r (λ v. IsVerdict task steps v)
  verdict_found steps (Ok v) e = subst (λ (w : Verdict). IsVerdict task steps w) (sym e) (verdict_holds steps)
  verdict_found steps (Err x) e = tt

-- ---- and no other holds

-- an option of which something holds has a value
some_of : {X : Type 0} (P : X → Type 0) (o : Option X) → IsSomeAnd o P → (x : X) × (o ≡ Some x) × P x
some_of P None h = absurd h
some_of P (Some x) h = (x, refl, h)

module _ (task : PlanningTask) where
  -- the verdict behind steps that lead to a state
  run_on : (before rest : List Step) (plan : List Action) (number : ℕ) (start state : State) (cost : ℕ) → AreActionsOf task before plan → state_after start plan ≡ Some state
      → verdict_from task (before ++ rest) number start cost ≡ verdict_from task rest (number + length before) state (cost + total_cost plan)
  run_on [] rest [] number start state cost named e =
      let same : start ≡ state = cc in
      ap (λ (s : State). verdict_from task rest number s cost) same
      ∙ ap (λ (n : ℕ). verdict_from task rest n state cost) (let z : number ≡ number + 0 = omega arith in z)
      ∙ ap (λ (n : ℕ). verdict_from task rest (number + 0) state n) (let z : cost ≡ cost + 0 = omega arith in z)
  run_on [] rest (a ∷ plan) number start state cost named e = absurd named
  run_on (s ∷ before) rest [] number start state cost named e = absurd named
  run_on (s ∷ before) rest (a ∷ plan) number start state cost named e =
      ap (at_step number start (λ b. verdict_from task (before ++ rest) (number + 1) (next_state start b) (cost + b.cost))) named.0
      ∙ go (is_applicable start a) refl e (run_on before rest plan (number + 1) (next_state start a) state (cost + a.cost) named.1)
    where
      go : (b : Bool) → is_applicable start a ≡ b → cond b (state_after (next_state start a) plan) None ≡ Some state
          → (state_after (next_state start a) plan ≡ Some state
          → verdict_from task (before ++ rest) (number + 1) (next_state start a) (cost + a.cost) ≡ verdict_from task rest (number + 1 + length before) state (cost + a.cost + total_cost plan))
          → at_precondition number (first_failing start a.precondition) (verdict_from task (before ++ rest) (number + 1) (next_state start a) (cost + a.cost))
          ≡ verdict_from task rest (number + suc (length before)) state (cost + total_cost (a ∷ plan))
      go true applies h ih =
          ap (λ (o : Option Literal). at_precondition number o (verdict_from task (before ++ rest) (number + 1) (next_state start a) (cost + a.cost))) (all_hold start a.precondition applies)
          ∙ ih h
          ∙ ap (λ (n : ℕ). verdict_from task rest n state (cost + a.cost + total_cost plan)) (let z : number + 1 + length before ≡ number + suc (length before) = omega arith in z)
          ∙ ap (λ (n : ℕ). verdict_from task rest (number + suc (length before)) state n) (let z : cost + a.cost + total_cost plan ≡ cost + total_cost (a ∷ plan) = omega (arith, sum_by-cons (λ (x : Action). x.cost) a plan) in z)
      go false applies h ih = absurd cc

  -- the verdict of steps of which the first lead to a state
  from_led : (steps before rest : List Step) (state : State) (led : LeadTo task before state) → steps ≡ before ++ rest
      → verdict_of task steps ≡ verdict_from task rest (1 + length before) state (total_cost led.plan)
  from_led steps before rest state led parts =
      ap (verdict_of task) parts ∙ run_on before rest led.plan 1 (contains task.initial) state 0 led.named led.run
      ∙ ap (verdict_from task rest (1 + length before) state) (let z : 0 + total_cost led.plan ≡ total_cost led.plan = omega arith in z)

  -- the verdict of steps that lead to a state at the end
  from_end : (steps : List Step) (state : State) (led : LeadTo task steps state) → verdict_of task steps ≡ at_end (total_cost led.plan) (first_failing state task.goal)
  from_end steps state led = from_led steps steps [] state led (sym (append-nil steps))

  is_worked_out : (steps : List Step) (v : Verdict) → IsVerdict task steps v → v ≡ verdict_of task steps
  is_worked_out steps (Valid cost) h =
      let run = some_of (λ s. satisfies s task.goal ≡ true) (state_after (contains task.initial) h.0) h.2.goal in
      sym (from_end steps run.0 (record { plan = h.0; named = h.1; run = run.1 })
      ∙ ap (at_end (total_cost h.0)) (all_hold run.0 task.goal run.2)
      ∙ ap Valid h.3)
  is_worked_out steps (NoSuchAction number) h =
      sym (from_led steps h.before (h.step ∷ h.after) h.state h.led h.parts
      ∙ ap (at_step (1 + length h.before) h.state (λ a. verdict_from task h.after (1 + length h.before + 1) (next_state h.state a) (total_cost h.led.plan + a.cost))) h.wrong
      ∙ ap NoSuchAction (let z : 1 + length h.before ≡ number = omega (arith, h.number_is) in z))
  is_worked_out steps (NotApplicable number l) h =
      sym (from_led steps h.before (h.step ∷ h.after) h.state h.led h.parts
      ∙ ap (at_step (1 + length h.before) h.state (λ a. verdict_from task h.after (1 + length h.before + 1) (next_state h.state a) (total_cost h.led.plan + a.cost))) h.wrong.1
      ∙ ap (λ (o : Option Literal). at_precondition (1 + length h.before) o
      (verdict_from task h.after (1 + length h.before + 1) (next_state h.state h.wrong.0) (total_cost h.led.plan + h.wrong.0.cost)))
      (failing_found h.state h.wrong.0.precondition l h.wrong.2)
      ∙ ap (λ (n : ℕ). NotApplicable n l) (let z : 1 + length h.before ≡ number = omega (arith, h.number_is) in z))
  is_worked_out steps (GoalOpen l) h =
      sym (from_end steps h.0 h.1 ∙ ap (at_end (total_cost h.1.plan)) (failing_found h.0 task.goal l h.2))

  pub one_verdict_is : (steps : List Step) (v w : Verdict) → IsVerdict task steps v → IsVerdict task steps w → v ≡ w
  one_verdict_is steps v w h k = is_worked_out steps v h ∙ sym (is_worked_out steps w k)
