use Rattle.std.proofs.Common.{subst}
use Rattle.std.proofs.lemmas.Result.{err_from_is_err_and}
use Rattle.std.specs.Option.{option_map}
use Rattle.fdr.specs.Tasks.{FiniteDomainTask}
use Rattle.packed_spread.specs.Spreads.{zobrist_owner}
use Rattle.optplan_search.specs.Findings.{plain, IsFoundFor}
use Rattle.optplan_solver.specs.Reduced.{IsReductionOf}
use Rattle.optplan_solver.proofs.SearchedTasks.{refused_by_threads, reduced, found_reduced}
use Rattle.optplan_solver.proofs.reducing.found_with_reduction.Goals as goal

pub returns-in_err-found-clause-refused : goal.returns-in_err-found-clause-refused
returns-in_err-found-clause-refused g c =
    let told = c.in_ok-reduction.ensures in
    let r = c.in_ok-reduction.reduction in
    let options = c.args.options.now in
    let may_stop = g.G.Gate.may_stop c.args.gate.now in
    let task = c.args.task.now in
    let is : IsReductionOf c.args.task.now c.in_ok-reduction.reduction =
    record { reduction = told.reduction; represented = told.represented; task_is = told.task; exact = told.exact } in
    let p = err_from_is_err_and c.from_residual-in_err-found.result c.from_residual-in_err-found.ensures.1 in
    rw (p.1, p.2)
    (refused_by_threads options may_stop task r.task (reduced options may_stop task c.requires r is) c.in_err-found.field-0.0 c.in_err-found.ensures.refused)

pub found_for_task-requires-clause-found : goal.found_for_task-requires-clause-found
found_for_task-requires-clause-found g c =
    let own = c.in_ok-found.ensures.found in
    let wanted = c.args.wanted.now in (
      wanted,
      (
        own.at,
        subst (λ (t : FiniteDomainTask). IsFoundFor t zobrist_owner own.at (option_map plain wanted) c.in_ok-found.found) own.task_is own.found,
      ),
    )

pub returns-clause-found : goal.returns-clause-found
returns-clause-found g c =
    let told = c.in_ok-reduction.ensures in
    let r = c.in_ok-reduction.reduction in
    let wanted = c.args.wanted.now in
    let is : IsReductionOf c.args.task.now c.in_ok-reduction.reduction =
    record { reduction = told.reduction; represented = told.represented; task_is = told.task; exact = told.exact } in
    found_reduced c.args.options.now (g.G.Gate.may_stop c.args.gate.now) c.args.task.now c.requires r is wanted c.in_ok-found.found
    c.in_ok-found_for_task.field-0 c.in_ok-found.ensures.found (λ es found. c.in_ok-found_for_task.ensures wanted es found)
