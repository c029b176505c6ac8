use Rattle.std.proofs.Common.{◌∙◌, length}
use Rattle.pddl_syntax.specs.Typed.{parent_text}
use Rattle.pddl_syntax.proofs.ParameterSteps.{name_added, type_added, variable_added}
use Rattle.pddl_syntax.proofs.parameters.Parameters.declare_run.Goals as goal

pub loop-named-preserved : goal.loop-named-preserved
loop-named-preserved c =
    let ns = c.args.run.now.names.items in let ms = c.deref-named-items.result.now in let same = c.deref-named-items.ensures.value in
    let i = c.loop-named.named-index in let n = c.named-item.result in let p = parent_text c.args.run.now in
    let old = c.loop-named.self in let new = c.declare.new.self in let step = c.in_ok-declare.ensures in
    record {
      names = name_added p old.names new.names ns ms i n same c.loop-named-test.true c.named-item.is step.names ∙ c.loop-named.invariant.names;
      types = type_added p c.args.type_number old.types.items new.types.items ns ms i n same c.loop-named-test.true c.named-item.is step.types ∙ c.loop-named.invariant.types;
      faults = λ rest. variable_added p c.loop-named.first c.declare.new.first old.names new.names (length old.types.items) (length new.types.items) ns ms i n rest same c.loop-named-test.true c.named-item.is step.faults
          ∙ c.loop-named.invariant.faults rest;
    }
