use Rattle.std.proofs.Common.{◌≡◌, rules}
use Rattle.ground.specs.declared.fault.GroundFault.TheVariants.{GroundLimit}
use Rattle.ground.specs.Rounds.{IsPastLimits}
use Rattle.ground.proofs.SearchLaws.{fault_passed}
use Rattle.translate.specs.Translated.{fault_of_ground}
use Rattle.translate.proofs.Promises.{ungrounded_is_untranslated}
use Rattle.translate.proofs.translating.grounded.Goals as goal

pub returns-in_err-grounded-clause-fault : goal.returns-in_err-grounded-clause-fault
returns-in_err-grounded-clause-fault c =
    let inner : c.in_err-grounded.field-0.0 ≡ GroundLimit → IsPastLimits c.args.task.now = search rules in
    fault_passed _ (fault_of_ground c.in_err-grounded.field-0.0) _ c.from_residual.ensures.1 (ungrounded_is_untranslated c.args.task.now c.in_err-grounded.field-0.0 inner)
