use Rattle.std.proofs.Common.{◌≡◌, map, take}
use Rattle.optplan_pddl.specs.Steps.{operator_step}
use Rattle.optplan_pddl.proofs.steps.named_steps.Given as goal

abbrev pub invariant-loop-operator : goal.invariant-loop-operator
invariant-loop-operator l = l.steps.items ≡ map (operator_step l.fn.translated) (take l.operator-index l.plan)
