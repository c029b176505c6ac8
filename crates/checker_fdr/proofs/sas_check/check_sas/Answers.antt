use Rattle.std.proofs.Common.{subst, arith}
use Rattle.cost.specs.Distances.{Infinite}
use Rattle.fdr.specs.Tasks.{EveryPlanCostsAtLeast}
use Rattle.sasfile_reader.proofs.Promises.{one_reading_is}
use Rattle.checker_fdr.proofs.sas_check.check_sas.Goals as goal

pub returns-clause-bound : goal.returns-clause-bound
returns-clause-bound g c task bound spelled accepted =
    subst (λ t. EveryPlanCostsAtLeast t bound) (one_reading_is c.args.sas.now c.in_ok-task.task task (omega arith) c.in_ok-task.ensures.found spelled)
    (c.in_ok-verdict.ensures.bound bound accepted)

pub returns-clause-none : goal.returns-clause-none
returns-clause-none g c task spelled accepted =
    subst (λ t. EveryPlanCostsAtLeast t Infinite) (one_reading_is c.args.sas.now c.in_ok-task.task task (omega arith) c.in_ok-task.ensures.found spelled)
    (c.in_ok-verdict.ensures.bound Infinite accepted)
