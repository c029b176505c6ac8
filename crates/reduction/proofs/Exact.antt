-- The reduction is exact: plans of the reduced task are plans of the task, and cheapest ones are cheapest ones.
use Rattle.std.proofs.Common.{◌≡◌, ℕ, zero, suc, ◌<◌, ◌≤◌, true, false, List, [], ◌∷◌, length, get_or, Option, Some, None, refl, sym, ap, subst, ◌∙◌, arith, cond, ⊎_elim}
use Rattle.std.specs.Prelude.{All, IsSomeAnd, option_map, option_and_then, slice_get, slice_index}
use Rattle.std.specs.List.{cons_option}
use Rattle.std.specs.Option.{option_map_or}
use Rattle.std.proofs.lemmas.Bool.{cond-true, cases_Bool}
use Rattle.std.proofs.lemmas.Option.{none-some, cond_some, slice_get-map, slice_get-get_or, slice_get_within, get_or_from_slice_get}
use Rattle.std.proofs.lemmas.List.Sums.{sum_by-cons}
use Rattle.std.proofs.lemmas.List.Elements.{All-head, All-tail, All-weaker, Contains-get_or}
use Rattle.cost.specs.Distances.{Distance, Finite, Infinite, ◌≤ᵈ◌}
use Rattle.fdr.specs.declared.fact.Fact.{Fact}
use Rattle.fdr.specs.Tasks.{FiniteDomainTask, Operator, ranges, IsTask, IsState, IsOperator, IsInRange, applies, successor, step, state_after, LeadsToGoal, is_goal_state, IsPlan, operator_cost, cost_of, plan_cost, EveryPlanCostsAtLeast}
use Rattle.abstraction.specs.Steps.{found, at_some, first_step, step_keeps_state}
use Rattle.reduction_classes.specs.Reduced.{reduced_state, reduced_facts, reduced_operator, reduced_with, chosen}
use Rattle.reduction_classes.proofs.Images.{image_applies, image_successor}
use Rattle.reduction_classes.proofs.Runs.{on_variables, state_long, image_is_state, image_is_operator, image_goal}
use Rattle.reduction.specs.Facts.{Facts}
use Rattle.reduction.specs.Asked.{AreAsked, AreClassesBy, AllAsked, ChangesClass, changes_classes}
use Rattle.reduction.specs.Retained.{AreEqual, AreEqualAt, Covers}
use Rattle.reduction.specs.Reductions.{IsReduction, retained_task, in_task, IsExact, HasAsCheapPlans}
use Rattle.reduction.proofs.FactLists.{same_hold, same_after}
use Rattle.reduction.proofs.Steps.{facts_hold, image_stays}

at_most_more : (b : Distance) (m n : ℕ) → b ≤ᵈ Finite m → m ≤ n → b ≤ᵈ Finite n
at_most_more (Finite k) m n h l = omega (arith, h, l)
at_most_more Infinite m n h l = absurd h

-- a step, and a way from there to a goal
step_then : (task : FiniteDomainTask) (s : List ℕ) (o : ℕ) (t plan : List ℕ) → step task s o ≡ Some t → LeadsToGoal task t plan → LeadsToGoal task s (o ∷ plan)
step_then task s o t plan e leads =
    subst (λ (r : Option (List ℕ)). IsSomeAnd (option_and_then (λ u. state_after task u plan) r) (λ u. is_goal_state task u ≡ true)) (sym e) leads

-- the chosen operators, one for each number
pub chosen_get : (ops : List Operator) (ns : List ℕ) → All (λ n. n < length ops) ns → (i : ℕ) → slice_get (chosen ops ns) i ≡ option_and_then (slice_get ops) (slice_get ns i)
chosen_get ops [] all i = refl
chosen_get ops (n ∷ ns) all i = go i (chosen_get ops ns (All-tail (λ m. m < length ops) n ns all))
  where
    none : Operator
    none = record { name = []; precondition = []; effect = []; cost = 0 }

    here : slice_get ops n ≡ Some (get_or ops n none)
    here = slice_get-get_or ops n none (All-head (λ m. m < length ops) n ns all)

    go : (k : ℕ) → ((j : ℕ) → slice_get (chosen ops ns) j ≡ option_and_then (slice_get ops) (slice_get ns j)) →
        slice_get (cons_option (slice_get ops n) (chosen ops ns)) k ≡ option_and_then (slice_get ops) (slice_get (n ∷ ns) k)
    go zero rest = ap (λ (r : Option Operator). slice_get (cons_option r (chosen ops ns)) zero) here ∙ sym here
    go (suc k) rest = ap (λ (r : Option Operator). slice_get (cons_option r (chosen ops ns)) (suc k)) here ∙ rest k

module _ (task : FiniteDomainTask) (classes : List (List ℕ)) (retained : List ℕ) (asked : Facts) (well : IsTask task)
    (is : AreAsked task asked) (by : AreClassesBy (ranges task) asked classes) (changing : All (ChangesClass task asked) retained) where
  abbrev reduced : FiniteDomainTask
  reduced = retained_task task classes retained

  abbrev image : List ℕ → List ℕ
  image s = reduced_state classes s

  exist : All (λ n. n < length task.operators) retained
  exist = All-weaker (ChangesClass task asked) (λ n. n < length task.operators) (λ n h. go n (slice_get task.operators n) refl h) retained changing
    where
      go : (n : ℕ) (r : Option Operator) → slice_get task.operators n ≡ r → IsSomeAnd r (λ op. changes_classes (ranges task) asked op ≡ true) → n < length task.operators
      go n None e h = absurd h
      go n (Some op) e h = slice_get_within task.operators n op e

  -- the operators of the reduced task are the images of those with the retained numbers
  operator_at : (i : ℕ) → slice_get reduced.operators i ≡ option_map (reduced_operator classes) (option_and_then (slice_get task.operators) (slice_get retained i))
  operator_at i = slice_get-map (reduced_operator classes) (chosen task.operators retained) i ∙ ap (option_map (reduced_operator classes)) (chosen_get task.operators retained exist i)

  well_at : (o : ℕ) (op : Operator) → slice_get task.operators o ≡ Some op → IsOperator (ranges task) op
  well_at o op e = at_some (IsOperator (ranges task)) (slice_get task.operators o) op e (found (IsOperator (ranges task)) task.operators o well.operators)

  conditions_at : (o : ℕ) (op : Operator) → slice_get task.operators o ≡ Some op → changes_classes (ranges task) asked op ≡ true → AllAsked asked op.precondition
  conditions_at o op e h =
      at_some (λ p. changes_classes (ranges task) asked p ≡ true → AllAsked asked p.precondition) (slice_get task.operators o) op e
      (found (λ p. changes_classes (ranges task) asked p ≡ true → AllAsked asked p.precondition) task.operators o is.closed.conditions) h

  -- a number and its operator
  record Listed (i : ℕ) : Type 0 where
    number : ℕ
    op : Operator
    at : slice_get retained i ≡ Some number
    operator : slice_get task.operators number ≡ Some op
    changes : changes_classes (ranges task) asked op ≡ true

  listed : (i : ℕ) → i < length retained → Listed i
  listed i l = go (slice_get retained i) refl
    where
      inside : (n : ℕ) → slice_get retained i ≡ Some n → ChangesClass task asked n
      inside n e = at_some (ChangesClass task asked) (slice_get retained i) n e (found (ChangesClass task asked) retained i changing)

      at : (n : ℕ) → slice_get retained i ≡ Some n → (r : Option Operator) → slice_get task.operators n ≡ r → IsSomeAnd r (λ op. changes_classes (ranges task) asked op ≡ true) → Listed i
      at n e None q h = absurd h
      at n e (Some op) q h = record { number = n; op = op; at = e; operator = q; changes = h }

      go : (r : Option ℕ) → slice_get retained i ≡ r → Listed i
      go None e = absurd (none-some (get_or retained i 0) (sym e ∙ slice_get-get_or retained i 0 l))
      go (Some n) e = at n e (slice_get task.operators n) refl (inside n e)

  listed_operator : (i : ℕ) (k : Listed i) → slice_get reduced.operators i ≡ Some (reduced_operator classes k.op)
  listed_operator i k =
      operator_at i ∙ ap (λ (r : Option ℕ). option_map (reduced_operator classes) (option_and_then (slice_get task.operators) r)) k.at ∙ ap (option_map (reduced_operator classes)) k.operator

  cost_at : (i : ℕ) (k : Listed i) → cost_of reduced i ≡ cost_of task k.number
  cost_at i k =
      ap (λ (r : Option Operator). option_map_or (operator_cost task.metric) r 0) (listed_operator i k)
      ∙ sym (ap (λ (r : Option Operator). option_map_or (operator_cost task.metric) r 0) k.operator)

  step_at : (s : List ℕ) (i : ℕ) (k : Listed i) →
      step reduced s i ≡ cond (applies (reduced_operator classes k.op) s) (Some (successor (reduced_operator classes k.op) s)) None
  step_at s i k = ap (option_and_then (λ op. cond (applies op s) (Some (successor op s)) None)) (listed_operator i k)

  step_in_task : (s : List ℕ) (o : ℕ) (op : Operator) → slice_get task.operators o ≡ Some op → step task s o ≡ cond (applies op s) (Some (successor op s)) None
  step_in_task s o op e = ap (option_and_then (λ p. cond (applies p s) (Some (successor p s)) None)) e

  -- ---- a plan of the reduced task is a plan of the task

  index_within : (s u : List ℕ) (i : ℕ) → step reduced s i ≡ Some u → i < length retained
  index_within s u i e = go (slice_get retained i) refl
    where
      go : (r : Option ℕ) → slice_get retained i ≡ r → i < length retained
      go (Some n) q = slice_get_within retained i n q
      go None q =
          let none : slice_get reduced.operators i ≡ None = operator_at i ∙ ap (λ (r : Option ℕ). option_map (reduced_operator classes) (option_and_then (slice_get task.operators) r)) q in
          let stuck : step reduced s i ≡ None = ap (option_and_then (λ op. cond (applies op s) (Some (successor op s)) None)) none in
          absurd (none-some u (sym stuck ∙ e))

  -- a step of the reduced task from an image is the image of a step of the task
  record Lifted (s u : List ℕ) (i : ℕ) : Type 0 where
    next : List ℕ
    moved : step task s (slice_index retained i) ≡ Some next
    image_is : u ≡ reduced_state classes next
    cost_is : cost_of task (slice_index retained i) ≡ cost_of reduced i

  lifted : (s u : List ℕ) (i : ℕ) → IsState (ranges task) s → step reduced (image s) i ≡ Some u → Lifted s u i
  lifted s u i state e =
      let k = listed i (index_within (image s) u i e) in
      let number : slice_index retained i ≡ k.number = get_or_from_slice_get retained i k.number 0 k.at in
      let op : Operator = k.op in
      let ok : IsOperator (ranges task) op = well_at k.number op k.operator in
      let parts = cond_some (applies (reduced_operator classes op) (image s)) (successor (reduced_operator classes op) (image s)) u (sym (step_at (image s) i k) ∙ e) in
      let holds' : applies op s ≡ true = facts_hold task classes asked by s state op.precondition ok.precondition.in_range (conditions_at k.number op k.operator k.changes) parts.0 in
      let moved_op : step task s k.number ≡ Some (successor op s) = step_in_task s k.number op k.operator ∙ cond-true (applies op s) (Some (successor op s)) None holds' in
      record {
        next = successor op s;
        moved = subst (λ (n : ℕ). step task s n ≡ Some (successor op s)) (sym number) moved_op;
        image_is = sym parts.1 ∙ image_successor classes op s (on_variables task classes by.fit op.effect ok.effect.in_range) (state_long task classes by.fit s state);
        cost_is = ap (cost_of task) number ∙ sym (cost_at i k);
      }

  pub leads_in_task : (plan s : List ℕ) → IsState (ranges task) s → LeadsToGoal reduced (image s) plan →
      LeadsToGoal task s (in_task retained plan) × (plan_cost task (in_task retained plan) ≡ plan_cost reduced plan)
  leads_in_task [] s state leads = (facts_hold task classes asked by s state task.goal well.goal.in_range is.closed.goal leads, refl)
  leads_in_task (i ∷ plan) s state leads =
      let first = first_step reduced (image s) i plan leads in
      let l = lifted s first.0 i state first.1 in
      let t : List ℕ = l.next in
      let next : IsState (ranges task) t = at_some (IsState (ranges task)) (step task s (slice_index retained i)) t l.moved (step_keeps_state task well s (slice_index retained i) state) in
      let rest = leads_in_task plan t next (subst (λ (u : List ℕ). LeadsToGoal reduced u plan) l.image_is first.2) in (
        step_then task s (slice_index retained i) t (in_task retained plan) l.moved rest.0,
        omega (arith, l.cost_is, rest.1, sum_by-cons (cost_of task) (slice_index retained i) (in_task retained plan), sum_by-cons (cost_of reduced) i plan),
      )

  -- ---- a plan of the task has one of the reduced task that costs at most as much

  module _ (covers : Covers task asked classes retained) where
    record Answer (s plan : List ℕ) : Type 0 where
      image_plan : List ℕ
      leads : LeadsToGoal reduced (image s) image_plan
      cheap : plan_cost reduced image_plan ≤ plan_cost task plan

    -- an equal operator applies in the image and leads to the same state
    equal_step : (s : List ℕ) → IsState (ranges task) s → (op : Operator) → IsOperator (ranges task) op → applies op s ≡ true → (i : ℕ) (k : Listed i) → AreEqual classes op k.op →
        step reduced (image s) i ≡ Some (image (successor op s))
    equal_step s state op ok app i k equal =
        let its : IsOperator (ranges task) k.op = well_at k.number k.op k.operator in
        let mine = image_is_operator task classes by.fit [] op ok in
        let other = image_is_operator task classes by.fit [] k.op its in
        let long = (image_is_state task classes by.fit [] s state).as_long in
        let held : applies (reduced_operator classes op) (image s) ≡ true = image_applies classes op s (on_variables task classes by.fit op.precondition ok.precondition.in_range) app in
        let holds' : applies (reduced_operator classes k.op) (image s) ≡ true =
        same_hold (reduced_facts classes op.precondition) (reduced_facts classes k.op.precondition) (image s) equal.precondition held in
        let after : successor (reduced_operator classes op) (image s) ≡ successor (reduced_operator classes k.op) (image s) =
        same_after (reduced_facts classes op.effect) (reduced_facts classes k.op.effect) (image s) mine.effect.distinct other.effect.distinct
        (All-weaker (IsInRange (ranges (reduced_with classes task []))) (λ (f : Fact). f.variable < length (image s)) (λ f h. omega (arith, h.0, long)) (reduced_facts classes op.effect) mine.effect.in_range)
        (All-weaker (IsInRange (ranges (reduced_with classes task []))) (λ (f : Fact). f.variable < length (image s)) (λ f h. omega (arith, h.0, long)) (reduced_facts classes k.op.effect) other.effect.in_range)
        equal.effect in
        step_at (image s) i k
        ∙ cond-true (applies (reduced_operator classes k.op) (image s)) (Some (successor (reduced_operator classes k.op) (image s))) None holds'
        ∙ ap Some (sym after ∙ image_successor classes op s (on_variables task classes by.fit op.effect ok.effect.in_range) (state_long task classes by.fit s state))

    -- the next operator of a plan, and an answer for the rest
    one_more : (s : List ℕ) → IsState (ranges task) s → (o : ℕ) (op : Operator) → slice_get task.operators o ≡ Some op → applies op s ≡ true → (plan : List ℕ) → Answer (successor op s) plan → Answer s (o ∷ plan)
    one_more s state o op at app plan rest = ⊎_elim changed same (cases_Bool (changes_classes (ranges task) asked op))
      where
        ok : IsOperator (ranges task) op
        ok = well_at o op at

        same : changes_classes (ranges task) asked op ≡ false → Answer s (o ∷ plan)
        same h =
            record {
              image_plan = rest.image_plan;
              leads = subst (λ (u : List ℕ). LeadsToGoal reduced u rest.image_plan) (image_stays task classes asked by s state op ok app h) rest.leads;
              cheap = omega (arith, rest.cheap, sum_by-cons (cost_of task) o plan);
            }

        by_equal : (k : ℕ) (i : ℕ) (l : Listed i) → l.number ≡ k → AreEqualAt task classes o k → cost_of task k ≤ cost_of task o → Answer s (o ∷ plan)
        by_equal k i l e equal cheap =
            let here : slice_get task.operators k ≡ Some l.op = subst (λ (n : ℕ). slice_get task.operators n ≡ Some l.op) e l.operator in
            let both : IsSomeAnd (Some op) (λ a. IsSomeAnd (Some l.op) (λ b. AreEqual classes a b)) =
            subst (λ (r : Option Operator). IsSomeAnd (Some op) (λ a. IsSomeAnd r (λ b. AreEqual classes a b))) here
            (subst (λ (r : Option Operator). IsSomeAnd r (λ a. IsSomeAnd (slice_get task.operators k) (λ b. AreEqual classes a b))) at equal) in
            let cost : cost_of reduced i ≡ cost_of task k = cost_at i l ∙ ap (cost_of task) e in
            record {
              image_plan = i ∷ rest.image_plan;
              leads = step_then reduced (image s) i (image (successor op s)) rest.image_plan (equal_step s state op ok app i l both) rest.leads;
              cheap = omega (arith, rest.cheap, cost, cheap, sum_by-cons (cost_of task) o plan, sum_by-cons (cost_of reduced) i rest.image_plan);
            }

        changed : changes_classes (ranges task) asked op ≡ true → Answer s (o ∷ plan)
        changed h =
            let found' = covers o (subst (λ (r : Option Operator). IsSomeAnd r (λ p. changes_classes (ranges task) asked p ≡ true)) (sym at) h) in
            let k : ℕ = found'.0 in
            let l = listed found'.1.0 found'.1.1 in
            let same' : l.number ≡ k = sym (get_or_from_slice_get retained found'.1.0 l.number k l.at) ∙ found'.1.2 in
            by_equal k found'.1.0 l same' found'.2 found'.3

    answer : (plan s : List ℕ) → IsState (ranges task) s → LeadsToGoal task s plan → Answer s plan
    answer [] s state leads = record { image_plan = []; leads = image_goal task classes by.fit well s leads; cheap = omega arith }
    answer (o ∷ plan) s state leads =
        let first = first_step task s o plan leads in
        let next : IsState (ranges task) first.0 = at_some (IsState (ranges task)) (step task s o) first.0 first.1 (step_keeps_state task well s o state) in
        go (slice_get task.operators o) refl first.0 first.1 (answer plan first.0 next first.2)
      where
        go : (r : Option Operator) → slice_get task.operators o ≡ r → (t : List ℕ) → option_and_then (λ op. cond (applies op s) (Some (successor op s)) None) r ≡ Some t → Answer t plan → Answer s (o ∷ plan)
        go None at t e rest = absurd (none-some t e)
        go (Some op) at t e rest =
            let parts = cond_some (applies op s) (successor op s) t e in
            one_more s state o op at parts.0 plan (subst (λ (u : List ℕ). Answer u plan) (sym parts.1) rest)

    pub as_cheap : HasAsCheapPlans task reduced
    as_cheap plan leads = let a = answer plan task.initial well.initial leads in (a.image_plan, a.leads, a.cheap)

    bound_forth : (bound : Distance) → EveryPlanCostsAtLeast reduced bound → EveryPlanCostsAtLeast task bound
    bound_forth bound all plan leads = let a = as_cheap plan leads in at_most_more bound (plan_cost reduced a.0) (plan_cost task plan) (all a.0 a.1) a.2

    -- the reduction is exact
    pub exact : IsExact task reduced retained
    exact =
        record {
          plans = λ plan leads. leads_in_task plan task.initial well.initial leads;
          bounds = λ bound. (
            bound_forth bound,
            λ all plan leads. let lead = leads_in_task plan task.initial well.initial leads in subst (λ (n : ℕ). bound ≤ᵈ Finite n) lead.1 (all (in_task retained plan) lead.0),
          );
          none = (λ none plan leads. none (as_cheap plan leads).0 (as_cheap plan leads).1, λ none plan leads. none (in_task retained plan) (leads_in_task plan task.initial well.initial leads).0);
        }

-- the reduction by asked facts is exact
pub reduction_exact : (task : FiniteDomainTask) (classes : List (List ℕ)) (retained : List ℕ) → IsTask task → IsReduction task classes retained → IsExact task (retained_task task classes retained) retained
reduction_exact task classes retained well is =
    let changing : All (ChangesClass task is.asked) retained =
    λ k d l. ((is.are_retained (get_or retained k d)).0 (Contains-get_or retained k d l)).changes in
    exact task classes retained is.asked well is.are_asked is.classes_by changing is.covers

-- a cheapest plan of the reduced task is a cheapest plan of the task
pub cheapest_plan : (task : FiniteDomainTask) (classes : List (List ℕ)) (retained plan : List ℕ) → IsTask task → IsReduction task classes retained → IsPlan (retained_task task classes retained) plan →
    EveryPlanCostsAtLeast (retained_task task classes retained) (Finite (plan_cost (retained_task task classes retained) plan)) →
    IsPlan task (in_task retained plan) × EveryPlanCostsAtLeast task (Finite (plan_cost task (in_task retained plan)))
cheapest_plan task classes retained plan well is leads least =
    let law : IsExact task (retained_task task classes retained) retained = reduction_exact task classes retained well is in
    let same = law.plans plan leads in
    (same.0, subst (λ (n : ℕ). EveryPlanCostsAtLeast task (Finite n)) (sym same.1) ((law.bounds (Finite (plan_cost (retained_task task classes retained) plan))).0 least))
