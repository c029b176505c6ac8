use Rattle.std.proofs.Common.{◌≡◌, ℕ, List, [], ◌∷◌, inl, inr, refl, ap, lit≤, arith}
use Rattle.std.specs.Prelude.{codes, false}
use Rattle.sexp.specs.Forms.{Forms, none, word, group}
use Rattle.sexp.specs.Grammar.{SpellsAll}
use Rattle.sexp.specs.Running.{step, run, finished, items}
use Rattle.sexp.proofs.Sound.{items_sound}
use Rattle.pddl.specs.Texts.{SpellTask}
use Rattle.pddl_worked.specs.Noop.{noop_domain, noop_problem, noop_task}
use Rattle.pddl_worked.proofs.Reading.{domain_fault, problem_fault, read_task, spelled}
use Rattle.validate.specs.Steps.{Step}
use Rattle.validate.specs.PlanTexts.{SpellsPlan}
use Rattle.validate.specs.Verdicts.{IsVerdict}
use Rattle.validate.specs.declared.verdict.Verdict.TheVariants.{Valid, GoalOpen}
use Rattle.validate.proofs.VerdictTheorem.{verdict_holds}
use Rattle.pddl_task.specs.Examples.{atom, goal_atom}
use Rattle.optplan_optimal.specs.Plans.{ClaimsUnsolvable}
use Rattle.optplan_optimal.proofs.laws.worked_noop.Goals as goal

task_spelled : SpellTask noop_domain noop_problem noop_task
unfolding domain_fault problem_fault read_task noop_domain noop_problem noop_task
task_spelled = spelled noop_domain noop_problem noop_task (refl, refl) (refl, refl) refl refl refl

-- ---- a valid plan

abbrev one_step : List Step
one_step = record { name = codes "noop"; arguments = [] } ∷ []

abbrev one_list : Forms
one_list = group 0 7 (word 1 5 (codes "noop") none) none

one_list_read : SpellsAll (codes "(NOOP ) ; only step") one_list
unfolding step run finished items
one_list_read = items_sound false (codes "(NOOP ) ; only step") one_list refl

one_step_spelled : SpellsPlan (codes "(NOOP ) ; only step") one_step
one_step_spelled = record { forms = one_list; spelled = one_list_read; lists_of_words = refl; steps_are = refl; few = lit≤ tt }

one_step_valid : IsVerdict noop_task one_step (Valid 5)
unfolding noop_task
one_step_valid = verdict_holds noop_task one_step

pub returns-clause-valid : goal.returns-clause-valid
returns-clause-valid c =
    record { task = noop_task; task_spelled = task_spelled; plan_spelled = record { steps = one_step; spelled = one_step_spelled; valid = one_step_valid } }

-- ---- a plan that is not valid

nothing_read : SpellsAll [] none
unfolding step run finished items
nothing_read = items_sound false [] none refl

no_steps_spelled : SpellsPlan [] []
no_steps_spelled = record { forms = none; spelled = nothing_read; lists_of_words = refl; steps_are = refl; few = lit≤ tt }

no_steps_open : IsVerdict noop_task [] (GoalOpen (goal_atom (atom 0 [])))
unfolding noop_task
no_steps_open = verdict_holds noop_task []

pub returns-clause-not_valid : goal.returns-clause-not_valid
unfolding noop_task
returns-clause-not_valid c = record {
  task = noop_task;
  task_spelled = task_spelled;
  plan_spelled = record {
    steps = [];
    spelled = no_steps_spelled;
    verdict = GoalOpen (goal_atom (atom 0 []));
    holds = no_steps_open;
    not_valid = λ cost e. cc;
    line_is = refl;
  };
}

-- ---- a text that spells no plan

abbrev list_and_word : Forms
list_and_word = group 0 6 (word 1 5 (codes "noop") none) (word 7 10 (codes "end") none)

list_and_word_read : SpellsAll (codes "(noop) end") list_and_word
unfolding step run finished items
list_and_word_read = items_sound false (codes "(noop) end") list_and_word refl

abbrev first : List ℕ → ℕ
first [] = 0
first (x ∷ xs) = x

claims_nothing : ClaimsUnsolvable (codes "(noop) end") → ⊥
claims_nothing (inl e) = let h : 40 ≡ 117 = ap first e in omega (arith, h)
claims_nothing (inr e) = let h : 40 ≡ 117 = ap first e in omega (arith, h)

pub returns-clause-refused : goal.returns-clause-refused
returns-clause-refused c = λ cert. ((λ k. cc), (noop_task, task_spelled), claims_nothing, (list_and_word, list_and_word_read, refl))
