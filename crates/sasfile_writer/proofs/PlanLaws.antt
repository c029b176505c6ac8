-- Plans of a task with its preconditions in another order.
use Rattle.std.proofs.Common.{◌≡◌, ℕ, zero, suc, ◌+◌, Bool, true, cond, List, [], ◌∷◌, refl, sym, ap, subst, ◌∙◌, Option, Some, None}
use Rattle.std.specs.Prelude.{◌↔◌, option_map, option_and_then, slice_get, IsSomeAnd, fold}
use Rattle.std.specs.List.{AllByRecursion}
use Rattle.std.specs.Option.{option_map_or}
use Rattle.std.proofs.lemmas.Option.{slice_get-map}
use Rattle.std.proofs.lemmas.List.Elements.{recursion_from_All}
use Rattle.fdr.specs.Tasks.{Operator, FiniteDomainTask, IsTask, IsOperator, IsPlan, ranges, applies, successor, step, state_after, is_goal_state, operator_cost, cost_of, plan_cost}
use Rattle.sasfile_reader.proofs.Steps.{some_is}
use Rattle.sasfile_writer.specs.TextOrder.{reordered, in_text_order}
use Rattle.sasfile_writer.proofs.FactLaws.{applies_same}

pub got : {X : Type 0} (P : X → Type 0) (xs : List X) (i : ℕ) (x : X) → AllByRecursion P xs → slice_get xs i ≡ Some x → P x
got P [] i x all e = absurd cc
got P (y ∷ ys) zero x all e = subst P (some_is y x e) all.0
got P (y ∷ ys) (suc i) x all e = got P ys i x all.1 e

-- the state after an operator
abbrev after : List ℕ → Option Operator → Option (List ℕ)
after state o = option_and_then (λ op. cond (applies op state) (Some (successor op state)) None) o

after_same : (ranges state : List ℕ) (o : Option Operator) → ((op : Operator) → o ≡ Some op → IsOperator ranges op) → after state (option_map reordered o) ≡ after state o
after_same ranges state None ok = refl
after_same ranges state (Some op) ok = ap (λ (b : Bool). cond b (Some (successor op state)) None) (applies_same ranges op (ok op refl) state)

step_same : (task : FiniteDomainTask) → IsTask task → (state : List ℕ) (o : ℕ) → step (in_text_order task) state o ≡ step task state o
step_same task ok state o =
    ap (after state) (slice_get-map reordered task.operators o)
    ∙ after_same (ranges task) state (slice_get task.operators o) (λ op e. got (IsOperator (ranges task)) task.operators o op (recursion_from_All (IsOperator (ranges task)) task.operators ok.operators) e)

then_same : (f g : List ℕ → Option (List ℕ)) (o : Option (List ℕ)) → ((s : List ℕ) → f s ≡ g s) → option_and_then f o ≡ option_and_then g o
then_same f g None same = refl
then_same f g (Some s) same = same s

after_plan_same : (task : FiniteDomainTask) → IsTask task → (plan state : List ℕ) → state_after (in_text_order task) state plan ≡ state_after task state plan
after_plan_same task ok [] state = refl
after_plan_same task ok (o ∷ plan) state =
    ap (option_and_then (λ s. state_after (in_text_order task) s plan)) (step_same task ok state o)
    ∙ then_same (λ s. state_after (in_text_order task) s plan) (λ s. state_after task s plan) (step task state o) (after_plan_same task ok plan)

-- the states in which the goal holds
abbrev Ends : FiniteDomainTask → Option (List ℕ) → Type 0
Ends task o = IsSomeAnd o (λ s. is_goal_state task s ≡ true)

pub same_plans : (task : FiniteDomainTask) (plan : List ℕ) → IsTask task → IsPlan (in_text_order task) plan ↔ IsPlan task plan
same_plans task plan ok =
    let same = after_plan_same task ok plan task.initial in
    (subst (Ends task) same, subst (Ends task) (sym same))

cost_by : (metric : Bool) (o : Option Operator) → option_map_or (operator_cost metric) (option_map reordered o) 0 ≡ option_map_or (operator_cost metric) o 0
cost_by metric None = refl
cost_by metric (Some op) = refl

cost_same : (task : FiniteDomainTask) (o : ℕ) → cost_of (in_text_order task) o ≡ cost_of task o
cost_same task o =
    ap (λ (x : Option Operator). option_map_or (operator_cost task.metric) x 0) (slice_get-map reordered task.operators o) ∙ cost_by task.metric (slice_get task.operators o)

sum_same : (f g : ℕ → ℕ) → ((o : ℕ) → f o ≡ g o) → (plan : List ℕ) (n : ℕ) → fold (λ a x. a + f x) n plan ≡ fold (λ a x. a + g x) n plan
sum_same f g same [] n = refl
sum_same f g same (o ∷ plan) n = ap (λ (m : ℕ). fold (λ a x. a + f x) (n + m) plan) (same o) ∙ sum_same f g same plan (n + g o)

pub same_costs : (task : FiniteDomainTask) (plan : List ℕ) → plan_cost (in_text_order task) plan ≡ plan_cost task plan
same_costs task plan = sum_same (cost_of (in_text_order task)) (cost_of task) (cost_same task) plan 0
