use Rattle.std.proofs.Common.{◌∙◌, length}
use Rattle.pddl_syntax.proofs.ParameterSteps.{names_run, types_run, variables_run}
use Rattle.pddl_syntax.proofs.parameters.declared.Goals as goal

pub loop-run-preserved : goal.loop-run-preserved
loop-run-preserved c =
    let rs = c.args.runs.now in let i = c.loop-run.run-index in let r = c.run-item.result in
    let old = c.loop-run.parameters in let new = c.declare_run.new.self in let step = c.in_ok-declare_run.ensures in
    record {
      names = names_run old.names new.names rs i r c.loop-run-test.true c.run-item.is step.names ∙ c.loop-run.invariant.names;
      types = types_run c.args.types.now.names old.types.items new.types.items rs i r c.run_type.result c.loop-run-test.true c.run-item.is c.run_type.ensures step.types ∙ c.loop-run.invariant.types;
      faults = variables_run c.loop-run.first c.declare_run.new.first old.names new.names (length old.types.items) (length new.types.items) rs i r c.loop-run-test.true c.run-item.is step.faults
          ∙ c.loop-run.invariant.faults;
    }
