use Rattle.ground.proofs.SearchLaws.{fault_passed}
use Rattle.translate.specs.Translated.{fault_of_assembly}
use Rattle.translate.proofs.KnownAtoms.{least_known}
use Rattle.translate.proofs.Promises.{same_plans_are, large_is_untranslated}
use Rattle.translate.proofs.translating.translate.Goals as goal

pub translated-requires-clause-listed : goal.translated-requires-clause-listed
translated-requires-clause-listed c =
    record {
      known = least_known c.args.task.now c.in_ok-grounded.grounded.atoms c.requires.initial c.requires.goals c.requires.added c.in_ok-grounded.ensures.least;
      distinct = c.in_ok-grounded.ensures.distinct;
      is_closed = c.in_ok-grounded.ensures.least.is_closed;
    }

pub returns-clause-plans : goal.returns-clause-plans
returns-clause-plans c = λ well. same_plans_are c.args.task.now _ well c.in_ok-translated.ensures.translation

pub returns-in_err-translated-clause-fault : goal.returns-in_err-translated-clause-fault
returns-in_err-translated-clause-fault c =
    fault_passed _ (fault_of_assembly c.in_err-translated.field-0.0) _ c.from_residual-in_err-translated.ensures.1
    (large_is_untranslated c.args.task.now c.in_ok-grounded.grounded.atoms c.in_ok-variables.variables.items c.in_err-translated.field-0.0 c.in_ok-variables.ensures.chosen
    c.in_err-translated.ensures.large)
