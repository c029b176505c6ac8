use Rattle.std.proofs.Common.{◌∙◌}
use Rattle.pddl_domain.proofs.TypeSteps.{types_run}
use Rattle.pddl_domain.proofs.types.add_types.Goals as goal

pub loop-run-preserved : goal.loop-run-preserved
loop-run-preserved c =
    types_run c.loop-run.names c.add_run.new.names c.args.runs.now c.loop-run.run-index c.run-item.result c.loop-run-test.true c.run-item.is c.in_ok-add_run.ensures
    ∙ c.loop-run.invariant
