-- The texts of a plan, its cost and a verdict.
use Rattle.std.specs.Prelude.{ℕ, Bool, if◌then◌else◌, List, ◌++◌, slice_get, unwrap_or, codes, []}
use Rattle.std.specs.List.{flat_map}
use Rattle.std.specs.Fmt.{decimal}
use Rattle.pddl_task.specs.Atoms.{Atom, Literal}
use Rattle.pddl_task.specs.Planning.{PlanningTask, Vocabulary}
use Rattle.validate.specs.Steps.{Step}
use Rattle.validate.specs.declared.verdict.Verdict.{Verdict}
use Rattle.validate.specs.declared.verdict.Verdict.TheVariants.{Valid, NoSuchAction, NotApplicable, GoalOpen}

-- each of the words, with a blank before it
abbrev pub spaced : List (List ℕ) → List ℕ
spaced words = flat_map (λ t. codes " " ++ t) words

-- a step as a line
abbrev pub step_line : Step → List ℕ
step_line s = codes "(" ++ s.name ++ spaced s.arguments ++ codes ")\n"

-- the end of the cost line, which names the kind of cost: each action costs 1 (`unit`), or not
abbrev pub cost_kind : Bool → List ℕ
cost_kind unit = if unit then codes " (unit cost)\n" else codes " (general cost)\n"

-- a line for each step, and a comment with the cost
abbrev pub plan_text_of : List Step → ℕ → Bool → List ℕ
plan_text_of steps cost unit = flat_map step_line steps ++ codes "; cost = " ++ decimal cost ++ cost_kind unit

-- the name with this number, or nothing if there is none
abbrev pub name_of : List (List ℕ) → ℕ → List ℕ
name_of names n = unwrap_or (slice_get names n) []

-- the name of each of the numbers, with a blank before it
abbrev pub spaced_names : List (List ℕ) → List ℕ → List ℕ
spaced_names names ns = flat_map (λ n. codes " " ++ name_of names n) ns

abbrev pub atom_text : Vocabulary → Atom → List ℕ
atom_text v p = codes "(" ++ name_of v.predicates p.predicate ++ spaced_names v.objects p.objects ++ codes ")"

-- the atom, or its negation
abbrev pub literal_text : Vocabulary → Literal → List ℕ
literal_text v l = if l.positive then atom_text v l.atom else codes "(not " ++ atom_text v l.atom ++ codes ")"

abbrev pub verdict_text : Vocabulary → Verdict → List ℕ
verdict_text v (Valid cost) = codes "valid " ++ decimal cost
verdict_text v (NoSuchAction number) = codes "no such action " ++ decimal number
verdict_text v (NotApplicable number l) = codes "not applicable " ++ decimal number ++ codes " " ++ literal_text v l
verdict_text v (GoalOpen l) = codes "goal open " ++ literal_text v l

-- the verdict as a line, with the names of the task
abbrev pub verdict_line_of : PlanningTask → Verdict → List ℕ
verdict_line_of task verdict = verdict_text task.vocabulary verdict ++ codes "\n"
