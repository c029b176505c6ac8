use Rattle.std.proofs.Common.{◌≡◌, Some, length}
use Rattle.optplan_plan_texts.specs.Decimals.{read}
use Rattle.optplan_plan_texts.specs.Lines.{lines}
use Rattle.optplan_plan_texts.specs.Passes.{first_ascends}
use Rattle.optplan_plan_texts.proofs.plain.first_ascends.Given as goal

abbrev pub invariant-loop-rest : goal.invariant-loop-rest
invariant-loop-rest l = first_ascends (Some (read l.before)) (lines l.rest) ≡ first_ascends (Some (read l.before)) (lines l.text)

abbrev pub decreases-loop-rest : goal.decreases-loop-rest
decreases-loop-rest l = length l.rest
