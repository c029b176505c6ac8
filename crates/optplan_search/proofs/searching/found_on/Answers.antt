use Rattle.std.proofs.Common.{subst}
use Rattle.std.specs.Prelude.{IfOk, IfErr}
use Rattle.std.proofs.lemmas.Result.{IfOk-weaker, err_from_is_err_and}
use Rattle.fdr.specs.Tasks.{FiniteDomainTask}
use Rattle.std.specs.Option.{option_map}
use Rattle.cert_value.specs.Views.{kind_of}
use Rattle.optplan_search.specs.Findings.{plain, IsOwnFinding, IsFinding}
use Rattle.optplan_search.proofs.OwnFindings.{own_is_finding}
use Rattle.optplan_search.proofs.searching.found_on.Goals as goal

pub returns-clause-found : goal.returns-clause-found
returns-clause-found g c =
    let ends = g.C.Course.ends c.args.course.now c.args.options.now in
    IfOk-weaker c.found_in_smallest_form.result
    (IsOwnFinding c.args.task.now (option_map plain c.args.wanted) (ends c.args.task.now))
    (IsFinding c.args.task.now (option_map kind_of c.args.wanted) (ends c.args.task.now))
    (own_is_finding c.args.task.now c.args.wanted (ends c.args.task.now))
    (subst (λ (t : FiniteDomainTask). IfOk c.found_in_smallest_form.result (IsOwnFinding t (option_map plain c.args.wanted) (ends t)))
    c.in_ok-space.ensures.task_is c.found_in_smallest_form.ensures.found)

pub returns-clause-refused : goal.returns-clause-refused
returns-clause-refused g c =
    subst (λ (t : FiniteDomainTask). IfErr c.found_in_smallest_form.result (g.C.Course.refuses c.args.course.now c.args.options.now t))
    c.in_ok-space.ensures.task_is c.found_in_smallest_form.ensures.refused

pub returns-in_err-space-clause-refused : goal.returns-in_err-space-clause-refused
returns-in_err-space-clause-refused g c =
    let p = err_from_is_err_and c.from_residual.result c.from_residual.ensures.1 in
    rw (p.1, p.2) (g.met.C.Course.memory c.args.course.now c.args.options.now c.args.task.now)
