use Rattle.std.proofs.Common.{◌≡◌, subst, arith}
use Rattle.fdr.specs.Tasks.{FiniteDomainTask, EveryPlanCostsAtLeast, HasNoPlan}
use Rattle.sasfile_reader.proofs.Promises.{one_reading_is}
use Rattle.checker_fdr.proofs.sas_check.check_sas_owned.Goals as goal

pub returns-clause-bound : goal.returns-clause-bound
returns-clause-bound g c task bound spelled accepted =
    let same : c.in_ok-task.task ≡ task = one_reading_is c.deref.result.now c.in_ok-task.task task (omega arith) c.in_ok-task.ensures.found (rw c.deref.ensures.value spelled) in
    subst (λ (t : FiniteDomainTask). EveryPlanCostsAtLeast t bound) same (c.in_ok-verdict.ensures.bound bound accepted)

pub returns-clause-none : goal.returns-clause-none
returns-clause-none g c task spelled accepted =
    let same : c.in_ok-task.task ≡ task = one_reading_is c.deref.result.now c.in_ok-task.task task (omega arith) c.in_ok-task.ensures.found (rw c.deref.ensures.value spelled) in
    subst (λ (t : FiniteDomainTask). HasNoPlan t) same (c.in_ok-verdict.ensures.none accepted)
