-- The words of a plan that was read are plan words, and so is the plan read again.
use Rattle.std.proofs.Common.{ℕ, ◌^◌, ◌<◌, ◌≤◌, Bool, true, List, length, sym, subst}
use Rattle.std.specs.List.{AllByRecursion}
use Rattle.sexp.specs.Limits.{max_bytes}
use Rattle.validate.specs.Steps.{Step}
use Rattle.validate.specs.Written.{plan_text_of}
use Rattle.validate.specs.PlanTexts.{SpellsPlan}
use Rattle.validate.specs.PlanWords.{IsPlanStep}
use Rattle.validate.proofs.SpelledPlans.{spelled_are_plan_words, steps_plan}
use Rattle.validate.proofs.WrittenPlans.{written_is}

pub plan_words_is : (bytes : List ℕ) (steps : List Step) → SpellsPlan bytes steps → AllByRecursion IsPlanStep steps
plan_words_is bytes steps h = subst (λ (xs : List Step). AllByRecursion IsPlanStep xs) (sym h.steps_are) (steps_plan h.forms (spelled_are_plan_words true 0 0 bytes h.forms h.spelled.1))

pub read_again_is : (bytes : List ℕ) (steps : List Step) (cost : ℕ) (unit : Bool) → SpellsPlan bytes steps → cost < 2 ^ 64 → length (plan_text_of steps cost unit) ≤ max_bytes → SpellsPlan (plan_text_of steps cost unit) steps
read_again_is bytes steps cost unit h room short = written_is steps cost unit (plan_words_is bytes steps h) h.few room short
