use Rattle.std.specs.String.{string_bytes}
use Rattle.validate.proofs.WrittenPlans.{written_by}
use Rattle.validate.proofs.writing.plan_text.Goals as goal

pub returns-clause-read : goal.returns-clause-read
returns-clause-read c =
    written_by (string_bytes c.in_ok-text.text) c.args.plan.now c.steps.result.now c.args.cost c.args.unit c.in_ok-text.ensures c.steps.ensures.steps
    c.steps.ensures.words c.steps.ensures.few c.ranges.cost.fits
