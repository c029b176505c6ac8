-- The goal and the metric: their meaning and their faults.
use Rattle.std.specs.Prelude.{ℕ, ◌&&◌, ◌||◌, not, Bool, false, if◌then◌else◌, List, [], ◌∷◌, ◌++◌, Option, Some, None, option_to_list, codes}
use Rattle.std.specs.Option.{option_map, option_map_or}
use Rattle.sexp.specs.Forms.{Forms, none, word, group, behind}
use Rattle.pddl_task.specs.Atoms.{Literal, State, same_atom, wants, excludes}
use Rattle.std.specs.HashSet.{contains}
use Rattle.pddl_task.specs.declared.schema.Condition.{Condition}
use Rattle.pddl_task.specs.Planning.{literal_of}
use Rattle.pddl_syntax.specs.declared.fault.Fault.{Fault}
use Rattle.pddl_syntax.specs.declared.fault.FaultKind.TheVariants.{Shape, Unsupported, GoalBothWays}
use Rattle.pddl_syntax.specs.Faults.{fault, faults_if}
use Rattle.pddl_syntax.specs.Sections.{more_faults, has_head}
use Rattle.pddl_terms.specs.declared.beginning.Setting.TheVariants.{InGoal}
use Rattle.pddl_terms.specs.Terms.{Scope, is_total_cost, not_empty}
use Rattle.pddl_effect.specs.Conditions.{conditions_in, condition_places, conditions_faults_in}
use Rattle.pddl_problem.specs.declared.goals.KnownGoals.{KnownGoals}

-- ---- the goal

-- a literal, and the byte offset of its list
pub record Placed : Type 0 where
  pub at : ℕ
  pub literal : Literal

-- the literal of the condition at this offset
abbrev pub placed_literal : ℕ → Condition → List Placed
placed_literal at c = option_to_list (option_map (λ l. record { at = at; literal = l }) (literal_of [] c))

-- the literals of conditions at these offsets
abbrev pub placed : List ℕ → List Condition → List Placed
placed [] cs = []
placed (s ∷ ss) [] = []
placed (s ∷ ss) (c ∷ cs) = placed_literal s c ++ placed ss cs

-- the literals that the expressions spell, in the order of the text
abbrev pub goals : Scope → Forms → List Placed
goals scope f = placed (condition_places InGoal scope f) (conditions_in InGoal scope f)

-- the first expression of the section without the others
abbrev pub first_alone : Forms → Forms
first_alone none = none
first_alone (word s e t f) = word s e t none
first_alone (group s e i f) = group s e i none

-- the literals of the section
abbrev pub goal_literals : Scope → Forms → List Placed
goal_literals scope f = goals scope (first_alone f)

-- the faults of expressions that must all be goals
abbrev pub goals_faults : Scope → Forms → List Fault
goals_faults scope f = conditions_faults_in InGoal scope f

-- the negation of the literal is among these
abbrev pub has_opposite : List Literal → Literal → Bool
has_opposite literals l = if l.positive then excludes literals l.atom else wants literals l.atom

-- the faults of literals that follow others: those whose negation precedes them
abbrev pub opposite_faults : List Literal → List Placed → List Fault
opposite_faults before [] = []
opposite_faults before (l ∷ ls) = faults_if (has_opposite before l.literal) (fault GoalBothWays l.at) (opposite_faults (before ++ l.literal ∷ []) ls)

-- the faults of the section at `home`, which must be one goal
abbrev pub goal_faults : Scope → ℕ → Forms → List Fault
goal_faults scope home none = fault Shape home ∷ []
goal_faults scope home (word s e t f) = fault Shape s ∷ more_faults f
goal_faults scope home (group s e i f) =
    goals_faults scope (group s e i none) ++ opposite_faults [] (goals scope (group s e i none)) ++ more_faults f

-- ---- the sets of atoms in which the code stores the literals read so far

-- the atom is among the positive literals, or its negation among the negative ones
abbrev pub wanted_in : KnownGoals → State
wanted_in known p = contains same_atom known.wanted p

abbrev pub excluded_in : KnownGoals → State
excluded_in known p = contains same_atom known.excluded p

-- the negation of the literal is among the stored literals
abbrev pub has_opposite_in : KnownGoals → Literal → Bool
has_opposite_in known l = if l.positive then excluded_in known l.atom else wanted_in known l.atom

-- the set of the positive literals' atoms after one more literal
abbrev pub also_wanted : State → Literal → State
also_wanted state l p = state p || (l.positive && same_atom p l.atom)

abbrev pub also_excluded : State → Literal → State
also_excluded state l p = state p || (not l.positive && same_atom p l.atom)

-- ---- the metric: `minimize (total-cost)` or `minimize total-cost`

-- the first expression is `total-cost`, with or without parentheses
abbrev pub is_cost : Forms → Bool
is_cost none = false
is_cost (word s e t f) = is_total_cost t
is_cost (group s e i f) = has_head (codes "total-cost") i && not (not_empty (behind i))

-- exactly one expression, `total-cost`
abbrev pub is_cost_alone : Forms → Bool
is_cost_alone f = is_cost f && not (not_empty (behind f))

-- exactly `minimize` and `total-cost`
abbrev pub is_metric : Forms → Bool
is_metric f = has_head (codes "minimize") f && is_cost_alone (behind f)

-- the first of two byte offsets that is present
abbrev pub or_else : Option ℕ → Option ℕ → Option ℕ
or_else (Some s) later = Some s
or_else None later = later

-- the byte offset of the first word, including words in lists
abbrev pub first_word : Forms → Option ℕ
first_word none = None
first_word (word s e t f) = Some s
first_word (group s e i f) = or_else (first_word i) (first_word f)

-- the fault of the section at `home`: any other content is a fault at its first word
abbrev pub metric_faults : ℕ → Forms → List Fault
metric_faults home f = if is_metric f then [] else option_map_or (λ s. fault Unsupported s ∷ []) (first_word f) (fault Shape home ∷ [])
