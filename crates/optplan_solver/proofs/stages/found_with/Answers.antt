use Rattle.std.proofs.Common.{subst}
use Rattle.std.specs.Prelude.{IfOk, IfErr}
use Rattle.fdr.specs.Tasks.{FiniteDomainTask}
use Rattle.std.specs.Option.{option_map}
use Rattle.optplan_search.specs.Findings.{plain}
use Rattle.optplan_solver.specs.ThreadedSearches.{IsRefusedIn}
use Rattle.optplan_solver.specs.Stages.{IsStageFound}
use Rattle.optplan_solver.proofs.ThreadEnds.{of_own_task}
use Rattle.optplan_solver.proofs.stages.found_with.Goals as goal

pub by_threads_in_smallest_form-requires-after_bounds : goal.by_threads_in_smallest_form-requires-after_bounds
by_threads_in_smallest_form-requires-after_bounds g c κs within =
    of_own_task c.args.task.now c.args.options.now c.in_ok-space.space c.in_ok-space.ensures

pub returns-clause-found : goal.returns-clause-found
returns-clause-found g c =
    subst
    (λ (t : FiniteDomainTask). IfOk c.by_threads_in_smallest_form.result
    (IsStageFound c.args.options.now (g.G.Gate.may_stop c.args.gate.now) t (option_map plain c.args.wanted.now)))
    c.in_ok-space.ensures.task_is c.by_threads_in_smallest_form.ensures.found

pub returns-clause-refused : goal.returns-clause-refused
returns-clause-refused g c =
    subst
    (λ (t : FiniteDomainTask). IfErr c.by_threads_in_smallest_form.result
    (IsRefusedIn c.args.options.now (g.G.Gate.may_stop c.args.gate.now) t))
    c.in_ok-space.ensures.task_is c.by_threads_in_smallest_form.ensures.refused
