use Rattle.std.proofs.Common.{◌∙◌}
use Rattle.pddl_domain.proofs.TypeSteps.{numbers_run}
use Rattle.pddl_domain.proofs.types.subtypes.Goals as goal

pub loop-run-preserved : goal.loop-run-preserved
loop-run-preserved c =
    numbers_run c.args.names.now c.loop-run.subtypes.items c.number_run.new.subtypes.items c.args.runs.now c.loop-run.run-index c.run-item.result c.loop-run-test.true c.run-item.is c.in_ok-number_run.ensures
    ∙ c.loop-run.invariant
