use Rattle.cost.specs.Distances.{Infinite}
use Rattle.checker_fdr.proofs.FirstFound.{held_bound}
use Rattle.checker_fdr.proofs.fdr_check.check_fdr.Goals as goal

pub returns-in-None-clause-verdict : goal.returns-in-None-clause-verdict
returns-in-None-clause-verdict g c =
    (c.bound.ensures, rw c.in-None.is at c.in_ok-violation.ensures)

pub returns-in-None-clause-bound : goal.returns-in-None-clause-bound
returns-in-None-clause-bound g c bound e =
    held_bound c.args.task.now c.args.certificate.now c.recall.ensures.task c.bound.result bound c.bound.ensures e (rw c.in-None.is at c.in_ok-violation.ensures)

pub returns-in-None-clause-none : goal.returns-in-None-clause-none
returns-in-None-clause-none g c e =
    held_bound c.args.task.now c.args.certificate.now c.recall.ensures.task c.bound.result Infinite c.bound.ensures e (rw c.in-None.is at c.in_ok-violation.ensures)
