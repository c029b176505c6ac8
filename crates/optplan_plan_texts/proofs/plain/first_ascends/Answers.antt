use Rattle.std.proofs.Common.{Some, ◌∙◌}
use Rattle.optplan_plan_texts.specs.Decimals.{read}
use Rattle.optplan_plan_texts.proofs.TextLines.{past_line}
use Rattle.optplan_plan_texts.proofs.plain.first_ascends.Goals as goal

pub loop-rest-preserved : goal.loop-rest-preserved
loop-rest-preserved c =
    past_line (Some (read c.args.before)) c.loop-rest.rest.now c.first_line.result.0.now c.first_line.result.1.now c.first_line.ensures.first c.in_default.ensures.none
    ∙ c.loop-rest.invariant
