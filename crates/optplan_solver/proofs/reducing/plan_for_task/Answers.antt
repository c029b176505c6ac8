use Rattle.std.proofs.Common.{ℕ, ◌<◌, List, length, All, sym, subst}
use Rattle.optplan_solver.proofs.ReducedFindings.{among_retained}
use Rattle.optplan_solver.proofs.reducing.plan_for_task.Goals as goal

pub operators_in_task-requires : goal.operators_in_task-requires
operators_in_task-requires c =
    let plan = c.args.found.plan.items in
    subst (λ (indices : List ℕ). All (λ index. index < length c.deref.result.now) indices) (sym c.deref-2.ensures.value)
    (subst (λ (retained : List ℕ). All (λ index. index < length retained) plan) (sym c.deref.ensures.value)
    (among_retained c.args.task.now c.args.reduction.now c.requires.reduction plan c.requires.plan.leads))
