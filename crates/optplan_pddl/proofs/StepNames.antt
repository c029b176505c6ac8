-- The names of the operators of a prepared task spell steps of plan words.
use Rattle.std.proofs.Common.{ℕ, Bool, List, sym, subst}
use Rattle.pddl_task.specs.Planning.{PlanningTask}
use Rattle.pddl.specs.Texts.{SpellTask}
use Rattle.pddl_laws.proofs.WordNames.{spelled_words}
use Rattle.translate.specs.Translated.{TranslatedTask, IsTranslation}
use Rattle.validate.specs.Steps.{Step}
use Rattle.validate.specs.PlanWords.{IsPlanStep}
use Rattle.optplan_pddl.specs.Steps.{words_of, step_of_words, HasStepNames}
use Rattle.optplan_pddl.proofs.SpelledSteps.{spelled_again}
use Rattle.optplan_pddl.proofs.WrittenTasks.{all_operators}
use Rattle.optplan_pddl.proofs.TextPromises.{step_is}
use Rattle.optplan_pddl.specs.Prepared.{IsPrepared}
use Rattle.optplan_pddl.specs.declared.preparing.Prepared.{Prepared}

step_names : (domain problem : List ℕ) (task : PlanningTask) (t : TranslatedTask) → SpellTask domain problem task → IsTranslation task t → HasStepNames t.task
step_names domain problem task t spelled made =
    all_operators domain problem task t spelled made (λ op. IsPlanStep (step_of_words (words_of op.name)))
    (λ a is. subst (λ (s : Step). IsPlanStep s) (sym (spelled_again task.vocabulary a (spelled_words domain problem task spelled))) (step_is domain problem task spelled a is))

pub names_there : (wanted : Bool) (domain problem : List ℕ) (p : Prepared) → IsPrepared wanted domain problem p → HasStepNames p.translated.task
names_there wanted domain problem p is = step_names domain problem is.task p.translated is.spelled is.translation
