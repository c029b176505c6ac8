-- The costs of the actions of a task.
use Rattle.std.proofs.Common.{◌≡◌, ℕ, ◌≤◌, Bool, true, false, cond, List, Some, None, ap, arith}
use Rattle.std.specs.Prelude.{slice_get}
use Rattle.std.proofs.lemmas.Option.{option_and_then_some}
use Rattle.pddl_task.specs.Atoms.{Atom, Literal}
use Rattle.pddl_task.specs.Planning.{PlanningTask, Action, has_instance}
use Rattle.validate.specs.Verdicts.{CostsAtMost}

-- without the metric each action costs 1
pub unit_costs : (task : PlanningTask) (limit : ℕ) → task.metric ≡ false → 1 ≤ limit → CostsAtMost task limit
unfolding CostsAtMost
unit_costs task limit unit le a h =
    option_and_then_some _ (slice_get task.schemas a.schema) a h
    (λ schema at made. go (has_instance task schema a.objects) _ _ _ _ made)
  where
    go : (b : Bool) (precondition : List Literal) (adds deletes : List Atom) (sum : ℕ)
        → cond b (Some (record { schema = a.schema; objects = a.objects; precondition = precondition; adds = adds; deletes = deletes; cost = cond task.metric sum 1 })) None ≡ Some a
        → a.cost ≤ limit
    go true precondition adds deletes sum e =
        let same : record { schema = a.schema; objects = a.objects; precondition = precondition; adds = adds; deletes = deletes; cost = cond task.metric sum 1 } ≡ a = cc in
        let cost : cond task.metric sum 1 ≡ a.cost = ap (λ (x : Action). x.cost) same in
        let one : cond task.metric sum 1 ≡ 1 = ap (λ (m : Bool). cond m sum 1) unit in
        omega (arith, cost, one)
    go false precondition adds deletes sum e = absurd cc

pub unit_costs_fit : (task : PlanningTask) → task.metric ≡ false → CostsAtMost task 2147483647
unit_costs_fit task unit = unit_costs task 2147483647 unit (omega arith)
