-- The reduced task as a task, and images of steps and of plans.
use Rattle.std.proofs.Common.{◌≡◌, ℕ, ◌<◌, true, false, List, [], ◌∷◌, length, map, Option, Some, None, refl, sym, ap, subst, ◌∙◌, arith, cond, eqb, get_or, replicate}
use Rattle.std.specs.Prelude.{IfSome, IsSomeAnd, slice_index, slice_get, All, option_map, option_and_then, not}
use Rattle.std.specs.List.{cons_option}
use Rattle.std.specs.Option.{option_map_or}
use Rattle.std.proofs.lemmas.Bool.{cond_both, eqb-false, ne_eqb, and_parts, and_from, or_parts, or_from, not-true, not_from_false}
use Rattle.std.proofs.lemmas.Option.{slice_get-map}
use Rattle.std.proofs.lemmas.List.{length-map, length-replicate, get_or-map}
use Rattle.std.proofs.lemmas.List.Sums.{sum_by-cons}
use Rattle.std.proofs.lemmas.List.Elements.{All-nil, All-cons, All-head, All-tail, All-map, All-weaker}
use Rattle.cost.specs.Distances.{Distance, Finite, ◌≤ᵈ◌}
use Rattle.fdr.specs.declared.fact.Fact.{Fact}
use Rattle.fdr.specs.Tasks.{FiniteDomainTask, Operator, ranges, IsTask, IsState, IsOperator, IsAssignment, IsInRange, applies, successor, step, state_after, LeadsToGoal, IsPlan, is_goal_state, names_variable, are_distinct, operator_cost, cost_of, plan_cost, EveryPlanCostsAtLeast, HasNoPlan}
use Rattle.abstraction.specs.Steps.{found, at_some, first_step, step_keeps_state}
use Rattle.abstraction_domain.specs.Rows.{class_count}
use Rattle.abstraction_domain.specs.DomainLaws.{class_below_count}
use Rattle.reduction_classes.specs.Classes.{row_of, class_of, AreClassesFor, staying, number_of}
use Rattle.reduction_classes.specs.Reduced.{reduced_state, reduced_facts, reduced_operator, reduced_with, reduced_task}
use Rattle.reduction_classes.proofs.Staying.{at_number, number_at}
use Rattle.reduction_classes.proofs.Images.{IsOn, image_at, read_image, length-image, images_hold, image_applies, image_successor}

module _ (task : FiniteDomainTask) (classes : List (List ℕ)) (fit : AreClassesFor (ranges task) classes) where
  pub as_many : length classes ≡ length (ranges task)
  as_many = sym (length-map classes length) ∙ ap length fit

  -- a row has a class for each value
  pub row_long : (v : ℕ) → v < length classes → length (row_of classes v) ≡ slice_index (ranges task) v
  row_long v l = sym (get_or-map length classes v [] 0 l) ∙ ap (λ (ns : List ℕ). slice_index ns v) fit

  pub class_below : (v x : ℕ) → v < length classes → x < slice_index (ranges task) v → class_of classes v x < class_count (row_of classes v)
  class_below v x l k = class_below_count (row_of classes v) x (omega (arith, k, row_long v l))

  pub on_variables : (fs : List Fact) → All (IsInRange (ranges task)) fs → All (IsOn (length classes)) fs
  on_variables fs all = All-weaker (IsInRange (ranges task)) (IsOn (length classes)) (λ f h. omega (arith, h.0, as_many)) fs all

  pub state_long : (s : List ℕ) → IsState (ranges task) s → length s ≡ length classes
  state_long s is = is.as_long ∙ sym as_many

  module _ (ops : List Operator) where
    -- the ranges of the reduced task are the numbers of classes
    pub length-reduced_ranges : length (ranges (reduced_with classes task ops)) ≡ length (staying classes)
    length-reduced_ranges =
        length-map (reduced_with classes task ops).value_names length ∙ length-map (staying classes) (λ (v : ℕ). replicate {A = List ℕ} (class_count (row_of classes v)) [])

    pub read_reduced_range : (i : ℕ) → i < length (staying classes) → slice_index (ranges (reduced_with classes task ops)) i ≡ class_count (row_of classes (get_or (staying classes) i 0))
    read_reduced_range i l =
        let names : ℕ → List (List ℕ) = λ (v : ℕ). replicate (class_count (row_of classes v)) [] in
        let within : i < length (map names (staying classes)) = omega (arith, l, length-map (staying classes) names) in
        get_or-map length (map names (staying classes)) i [] 0 within
        ∙ ap length (get_or-map names (staying classes) i 0 [] l)
        ∙ length-replicate (class_count (row_of classes (get_or (staying classes) i 0))) []

    pub image_is_state : (s : List ℕ) → IsState (ranges task) s → IsState (ranges (reduced_with classes task ops)) (reduced_state classes s)
    image_is_state s is =
        record {
          as_long = length-image classes s ∙ sym length-reduced_ranges;
          in_range = λ i l.
              let k : i < length (staying classes) = omega (arith, l, length-reduced_ranges) in
              let at = number_at classes i k in
              let v : ℕ = get_or (staying classes) i 0 in
              let below : class_of classes v (slice_index s v) < class_count (row_of classes v) = class_below v (slice_index s v) at.0 (is.in_range v (omega (arith, at.0, as_many))) in
              let read : slice_index (reduced_state classes s) i ≡ class_of classes v (slice_index s v) = read_image classes s v i at.0 at.2 in
              let range : slice_index (ranges (reduced_with classes task ops)) i ≡ class_count (row_of classes v) = read_reduced_range i k in
              omega (arith, below, read, range);
        }

    images_in_range : (fs : List Fact) → All (IsInRange (ranges task)) fs → All (IsInRange (ranges (reduced_with classes task ops))) (reduced_facts classes fs)
    images_in_range [] all = All-nil (IsInRange (ranges (reduced_with classes task ops)))
    images_in_range (f ∷ fs) all = go (number_of classes f.variable) refl (images_in_range fs (All-tail (IsInRange (ranges task)) f fs all))
      where
        here : IsInRange (ranges task) f
        here = All-head (IsInRange (ranges task)) f fs all

        on : f.variable < length classes
        on = omega (arith, here.0, as_many)

        go : (r : Option ℕ) → number_of classes f.variable ≡ r → All (IsInRange (ranges (reduced_with classes task ops))) (reduced_facts classes fs) →
            All (IsInRange (ranges (reduced_with classes task ops))) (cons_option (image_at classes f r) (reduced_facts classes fs))
        go None e rest = rest
        go (Some n) e rest =
            let at = at_number classes f.variable n on e in
            let below : class_of classes f.variable f.value < class_count (row_of classes f.variable) = class_below f.variable f.value on here.1 in
            let range : slice_index (ranges (reduced_with classes task ops)) n ≡ class_count (row_of classes f.variable) =
            read_reduced_range n at.0 ∙ ap (λ (v : ℕ). class_count (row_of classes v)) at.1 in
            All-cons (IsInRange (ranges (reduced_with classes task ops))) (record { variable = n; value = class_of classes f.variable f.value }) (reduced_facts classes fs)
            (omega (arith, at.0, length-reduced_ranges), omega (arith, below, range)) rest

    -- a variable that no fact names is named by no image
    images_name_none : (fs : List Fact) (v n : ℕ) → All (IsInRange (ranges task)) fs → v < length classes → number_of classes v ≡ Some n → names_variable fs v ≡ false → names_variable (reduced_facts classes fs) n ≡ false
    images_name_none [] v n all l e h = refl
    images_name_none (f ∷ fs) v n all l e h =
        let parts = or_parts (eqb f.variable v) (names_variable fs v) h in
        go parts.0 (number_of classes f.variable) refl (images_name_none fs v n (All-tail (IsInRange (ranges task)) f fs all) l e parts.1)
      where
        here : IsInRange (ranges task) f
        here = All-head (IsInRange (ranges task)) f fs all

        go : eqb f.variable v ≡ false → (r : Option ℕ) → number_of classes f.variable ≡ r → names_variable (reduced_facts classes fs) n ≡ false →
            names_variable (cons_option (image_at classes f r) (reduced_facts classes fs)) n ≡ false
        go other None q rest = rest
        go other (Some m) q rest =
            let at = at_number classes v n l e in
            let its = at_number classes f.variable m (omega (arith, here.0, as_many)) q in
            or_from (eqb m n) (names_variable (reduced_facts classes fs) n)
            (ne_eqb m n (λ (same : m ≡ n). eqb-false f.variable v other (sym its.1 ∙ ap (λ (k : ℕ). get_or (staying classes) k 0) same ∙ at.1))) rest

    images_distinct : (fs : List Fact) → All (IsInRange (ranges task)) fs → are_distinct fs ≡ true → are_distinct (reduced_facts classes fs) ≡ true
    images_distinct [] all d = refl
    images_distinct (f ∷ fs) all d =
        let parts = and_parts (not (names_variable fs f.variable)) (are_distinct fs) d in
        let rest = All-tail (IsInRange (ranges task)) f fs all in
        go (not-true (names_variable fs f.variable) parts.0) rest (number_of classes f.variable) refl (images_distinct fs rest parts.1)
      where
        here : IsInRange (ranges task) f
        here = All-head (IsInRange (ranges task)) f fs all

        go : names_variable fs f.variable ≡ false → All (IsInRange (ranges task)) fs → (r : Option ℕ) → number_of classes f.variable ≡ r → are_distinct (reduced_facts classes fs) ≡ true →
            are_distinct (cons_option (image_at classes f r) (reduced_facts classes fs)) ≡ true
        go none all_rest None q rest = rest
        go none all_rest (Some n) q rest =
            let unnamed = images_name_none fs f.variable n all_rest (omega (arith, here.0, as_many)) q none in
            and_from (not (names_variable (reduced_facts classes fs) n)) (are_distinct (reduced_facts classes fs)) (not_from_false (names_variable (reduced_facts classes fs) n) unnamed) rest

    pub image_is_assignment : (fs : List Fact) → IsAssignment (ranges task) fs → IsAssignment (ranges (reduced_with classes task ops)) (reduced_facts classes fs)
    image_is_assignment fs is = record { in_range = images_in_range fs is.in_range; distinct = images_distinct fs is.in_range is.distinct }

    pub image_is_operator : (op : Operator) → IsOperator (ranges task) op → IsOperator (ranges (reduced_with classes task ops)) (reduced_operator classes op)
    image_is_operator op is = record { precondition = image_is_assignment op.precondition is.precondition; effect = image_is_assignment op.effect is.effect }

    -- the reduced task is a task
    pub reduced_is_task : IsTask task → All (IsOperator (ranges task)) ops → IsTask (reduced_with classes task ops)
    reduced_is_task well all =
        record {
          initial = image_is_state task.initial well.initial;
          goal = image_is_assignment task.goal well.goal;
          operators = All-map (IsOperator (ranges (reduced_with classes task ops))) (reduced_operator classes) ops
              (λ k d l. image_is_operator (get_or ops k d) (all k d l));
        }

  module _ (well : IsTask task) where
    -- what applies in a state applies in its image
    image_step_at : (s : List ℕ) → IsState (ranges task) s → (r : Option Operator) → IfSome r (IsOperator (ranges task)) →
        IfSome (option_and_then (λ op. cond (applies op s) (Some (successor op s)) None) r)
        (λ t. option_and_then (λ op. cond (applies op (reduced_state classes s)) (Some (successor op (reduced_state classes s))) None) (option_map (reduced_operator classes) r) ≡ Some (reduced_state classes t))
    image_step_at s is None h = tt
    image_step_at s is (Some op) h =
        cond_both (applies op s) (Some (successor op s)) None
        (λ u. IfSome u (λ t. cond (applies (reduced_operator classes op) (reduced_state classes s)) (Some (successor (reduced_operator classes op) (reduced_state classes s))) None ≡ Some (reduced_state classes t)))
        (λ e. rw (image_applies classes op s (on_variables op.precondition h.precondition.in_range) e)
        (ap Some (image_successor classes op s (on_variables op.effect h.effect.in_range) (state_long s is))))
        (λ e. tt)

    pub image_step : (s : List ℕ) (o : ℕ) → IsState (ranges task) s → IfSome (step task s o) (λ t. step (reduced_task classes task) (reduced_state classes s) o ≡ Some (reduced_state classes t))
    image_step s o is =
        rw (slice_get-map (reduced_operator classes) task.operators o)
        (image_step_at s is (slice_get task.operators o) (found (IsOperator (ranges task)) task.operators o well.operators))

    pub image_goal : (s : List ℕ) → is_goal_state task s ≡ true → is_goal_state (reduced_task classes task) (reduced_state classes s) ≡ true
    image_goal s h = images_hold classes s task.goal (on_variables task.goal well.goal.in_range) h

    image_leads : (plan s : List ℕ) → IsState (ranges task) s → LeadsToGoal task s plan → LeadsToGoal (reduced_task classes task) (reduced_state classes s) plan
    image_leads [] s is leads = image_goal s leads
    image_leads (o ∷ plan) s is leads =
        let first = first_step task s o plan leads in
        let t : List ℕ = first.0 in
        let next : IsState (ranges task) t = at_some (IsState (ranges task)) (step task s o) t first.1 (step_keeps_state task well s o is) in
        let moved : step (reduced_task classes task) (reduced_state classes s) o ≡ Some (reduced_state classes t) =
        at_some (λ u. step (reduced_task classes task) (reduced_state classes s) o ≡ Some (reduced_state classes u)) (step task s o) t first.1 (image_step s o is) in
        subst
        (λ (r : Option (List ℕ)). IsSomeAnd (option_and_then (λ u. state_after (reduced_task classes task) u plan) r) (λ u. is_goal_state (reduced_task classes task) u ≡ true))
        (sym moved) (image_leads plan t next first.2)

    image_cost_at : (r : Option Operator) → option_map_or (operator_cost task.metric) (option_map (reduced_operator classes) r) 0 ≡ option_map_or (operator_cost task.metric) r 0
    image_cost_at None = refl
    image_cost_at (Some op) = refl

    pub image_cost : (o : ℕ) → cost_of (reduced_task classes task) o ≡ cost_of task o
    image_cost o = rw (slice_get-map (reduced_operator classes) task.operators o) (image_cost_at (slice_get task.operators o))

    pub image_plan_cost : (plan : List ℕ) → plan_cost (reduced_task classes task) plan ≡ plan_cost task plan
    image_plan_cost [] = refl
    image_plan_cost (o ∷ plan) =
        omega (arith, image_cost o, image_plan_cost plan, sum_by-cons (cost_of (reduced_task classes task)) o plan, sum_by-cons (cost_of task) o plan)

    -- a plan is a plan of the reduced task at the same cost
    pub image_plan : (plan : List ℕ) → IsPlan task plan → IsPlan (reduced_task classes task) plan × (plan_cost (reduced_task classes task) plan ≡ plan_cost task plan)
    image_plan plan leads = (image_leads plan task.initial well.initial leads, image_plan_cost plan)

    pub image_bound : (bound : Distance) → EveryPlanCostsAtLeast (reduced_task classes task) bound → EveryPlanCostsAtLeast task bound
    image_bound bound all plan leads =
        let image = image_plan plan leads in
        subst (λ (n : ℕ). bound ≤ᵈ Finite n) image.1 (all plan image.0)

    pub image_none : HasNoPlan (reduced_task classes task) → HasNoPlan task
    image_none none plan leads = none plan (image_plan plan leads).0
