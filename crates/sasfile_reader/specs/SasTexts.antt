-- Which texts spell which tasks (output.sas, version 3; Helmert 2009), part by part.
use Rattle.std.specs.Prelude.{◌≡◌, ℕ, ◌<◌, ◌≤◌, Bool, true, false, List, [], ◌∷◌, ◌++◌, length, map, slice_index, Option, Some, None, codes}
use Rattle.std.specs.List.{list_all, AllByRecursion}
use Rattle.fdr.specs.declared.fact.Fact.{Fact}
use Rattle.fdr.specs.Tasks.{Operator, FiniteDomainTask, IsInRange, ranges, are_distinct}
use Rattle.sasfile_reader.specs.declared.number.Number.{Number}
use Rattle.sasfile_reader.specs.declared.number.Number.TheVariants.{Natural, Negative}
use Rattle.sasfile_reader.specs.declared.effects.Change.{Change}
use Rattle.sasfile_reader.specs.Lines.{lines, words, number, is_text_byte}
use Rattle.fdr.specs.Limits.{max_variables, max_values, max_operators}
use Rattle.cost.specs.Limits.{max_cost}

-- ---- lines

-- the words of a line spell these numbers
abbrev pub SpellsNumbers : List ℕ → List Number → Type 0
SpellsNumbers line numbers = map number (words line) ≡ map Some numbers

-- a line of one number that is not negative
abbrev pub SpellsCount : List ℕ → ℕ → Type 0
SpellsCount line n = SpellsNumbers line (Natural n ∷ [])

-- a line that is a name, or the name of a value
abbrev pub IsText : List ℕ → Type 0
IsText line = list_all is_text_byte line ≡ true

-- a line with a fact
abbrev pub SpellsFact : List ℕ → List ℕ → Fact → Type 0
SpellsFact ranges line f = SpellsNumbers line (Natural f.variable ∷ Natural f.value ∷ []) × IsInRange ranges f

-- ---- several lines

-- each line spells the item at its index
abbrev pub SpellsEach : {X : Type 0} → (List ℕ → X → Type 0) → List (List ℕ) → List X → Type 0
SpellsEach P [] [] = Unit {0}
SpellsEach P [] (x ∷ xs) = ⊥
SpellsEach P (l ∷ ls) [] = ⊥
SpellsEach P (l ∷ ls) (x ∷ xs) = P l x × SpellsEach P ls xs

-- the items one after another, each of several lines
abbrev pub SpellsParts : {X : Type 0} → (List (List ℕ) → X → Type 0) → List (List ℕ) → List X → Type 0
SpellsParts P ls [] = ls ≡ []
SpellsParts P ls (x ∷ xs) = (part : List (List ℕ)) × (rest : List (List ℕ)) × (ls ≡ part ++ rest) × P part x × SpellsParts P rest xs

-- a line with the number of items, and one line for each item
pub record SpellsLines {X : Type 0} (P : List ℕ → X → Type 0) (ls : List (List ℕ)) (xs : List X) : Type 0 where
  pub count : List ℕ
  pub others : List (List ℕ)
  pub lines_are : ls ≡ count ∷ others
  pub count_is : SpellsCount count (length xs)
  pub items : SpellsEach P others xs

-- a line with the number of items, and several lines for each item
pub record SpellsList {X : Type 0} (P : List (List ℕ) → X → Type 0) (ls : List (List ℕ)) (xs : List X) : Type 0 where
  pub count : List ℕ
  pub others : List (List ℕ)
  pub lines_are : ls ≡ count ∷ others
  pub count_is : SpellsCount count (length xs)
  pub items : SpellsParts P others xs

-- ---- version and metric

pub record SpellsVersion (ls : List (List ℕ)) : Type 0 where
  pub version : List ℕ
  pub lines_are : ls ≡ codes "begin_version" ∷ version ∷ codes "end_version" ∷ []
  pub version_is : SpellsCount version 3

abbrev pub flag_number : Bool → ℕ
flag_number false = 0
flag_number true = 1

pub record SpellsMetric (ls : List (List ℕ)) (metric : Bool) : Type 0 where
  pub flag : List ℕ
  pub lines_are : ls ≡ codes "begin_metric" ∷ flag ∷ codes "end_metric" ∷ []
  pub flag_is : SpellsCount flag (flag_number metric)

-- ---- variables

-- a name that is not stored, the axiom layer -1, the range, and the name of each value
pub record SpellsVariable (ls : List (List ℕ)) (texts : List (List ℕ)) : Type 0 where
  pub name : List ℕ
  pub layer : List ℕ
  pub range : List ℕ
  pub lines_are : ls ≡ codes "begin_variable" ∷ name ∷ layer ∷ range ∷ (texts ++ codes "end_variable" ∷ [])
  pub name_is : IsText name
  pub layer_is : SpellsNumbers layer (Negative 1 ∷ [])
  pub range_is : SpellsCount range (length texts)
  pub some : 0 < length texts
  pub few : length texts ≤ max_values
  pub texts_are : AllByRecursion IsText texts

-- ---- mutex groups, initial state and goal

-- a mutex group, of any facts in range
pub record SpellsGroup (ranges : List ℕ) (ls : List (List ℕ)) (facts : List Fact) : Type 0 where
  pub inner : List (List ℕ)
  pub lines_are : ls ≡ codes "begin_mutex_group" ∷ (inner ++ codes "end_mutex_group" ∷ [])
  pub facts_are : SpellsLines (SpellsFact ranges) inner facts

-- for each variable a value below its range
abbrev pub SpellsValues : List ℕ → List (List ℕ) → List ℕ → Type 0
SpellsValues [] [] [] = Unit {0}
SpellsValues [] [] (x ∷ xs) = ⊥
SpellsValues [] (l ∷ ls) xs = ⊥
SpellsValues (r ∷ rs) [] xs = ⊥
SpellsValues (r ∷ rs) (l ∷ ls) [] = ⊥
SpellsValues (r ∷ rs) (l ∷ ls) (x ∷ xs) = SpellsCount l x × (x < r) × SpellsValues rs ls xs

pub record SpellsState (ranges : List ℕ) (ls : List (List ℕ)) (state : List ℕ) : Type 0 where
  pub inner : List (List ℕ)
  pub lines_are : ls ≡ codes "begin_state" ∷ (inner ++ codes "end_state" ∷ [])
  pub values_are : SpellsValues ranges inner state

pub record SpellsGoal (ranges : List ℕ) (ls : List (List ℕ)) (goal : List Fact) : Type 0 where
  pub inner : List (List ℕ)
  pub lines_are : ls ≡ codes "begin_goal" ∷ (inner ++ codes "end_goal" ∷ [])
  pub facts_are : SpellsLines (SpellsFact ranges) inner goal
  pub distinct : are_distinct goal ≡ true

-- ---- operators

-- the third number of an effect line: the value before the effect, or -1 for any value
abbrev pub before_number : Option ℕ → Number
before_number None = Negative 1
before_number (Some x) = Natural x

abbrev pub IsBefore : ℕ → Option ℕ → Type 0
IsBefore range None = Unit {0}
IsBefore range (Some x) = x < range

-- An effect line: 0 for no conditions of its own, the variable, its value before and its value after the effect.
pub record SpellsChange (ranges line : List ℕ) (c : Change) : Type 0 where
  pub numbers : SpellsNumbers line (Natural 0 ∷ Natural c.after.variable ∷ before_number c.before ∷ Natural c.after.value ∷ [])
  pub after : IsInRange ranges c.after
  pub before : IsBefore (slice_index ranges c.after.variable) c.before

-- the facts with the condition on the value before an effect, if there is one
abbrev pub condition_before : ℕ → Option ℕ → List Fact → List Fact
condition_before v None others = others
condition_before v (Some x) others = record { variable = v; value = x } ∷ others

-- the conditions on the values before the effects
abbrev pub conditions_of : List Change → List Fact
conditions_of [] = []
conditions_of (c ∷ cs) = condition_before c.after.variable c.before (conditions_of cs)

abbrev pub after_of : Change → Fact
after_of c = c.after

-- A name, prevail conditions, effects and the cost. No variable is named twice.
pub record SpellsOperator (ranges : List ℕ) (ls : List (List ℕ)) (op : Operator) : Type 0 where
  pub prevail : List Fact
  pub changes : List Change
  pub prevail_lines : List (List ℕ)
  pub change_lines : List (List ℕ)
  pub cost : List ℕ
  pub lines_are : ls ≡ codes "begin_operator" ∷ op.name ∷ (prevail_lines ++ (change_lines ++ cost ∷ codes "end_operator" ∷ []))
  pub name_is : IsText op.name
  pub prevail_are : SpellsLines (SpellsFact ranges) prevail_lines prevail
  pub changes_are : SpellsLines (SpellsChange ranges) change_lines changes
  pub cost_is : SpellsCount cost op.cost
  pub cheap : op.cost ≤ max_cost
  pub distinct : are_distinct (prevail ++ map after_of changes) ≡ true
  pub precondition_is : op.precondition ≡ prevail ++ conditions_of changes
  pub effect_is : op.effect ≡ map after_of changes

-- ---- the whole text

-- The parts in their order. Without the metric the costs are read as well, but every operator costs 1.
pub record Spells (ls : List (List ℕ)) (task : FiniteDomainTask) : Type 0 where
  pub version_lines : List (List ℕ)
  pub metric_lines : List (List ℕ)
  pub variable_lines : List (List ℕ)
  pub group_lines : List (List ℕ)
  pub state_lines : List (List ℕ)
  pub goal_lines : List (List ℕ)
  pub operator_lines : List (List ℕ)
  pub axioms : List ℕ
  pub ending : List (List ℕ)
  pub groups : List (List Fact)
  pub lines_are : ls ≡ version_lines ++ (metric_lines ++ (variable_lines ++ (group_lines ++ (state_lines ++ (goal_lines ++ (operator_lines ++ axioms ∷ ending))))))
  pub version_is : SpellsVersion version_lines
  pub metric_is : SpellsMetric metric_lines task.metric
  pub variables_are : SpellsList SpellsVariable variable_lines task.value_names
  pub few_variables : length task.value_names ≤ max_variables
  pub groups_are : SpellsList (SpellsGroup (ranges task)) group_lines groups
  pub state_is : SpellsState (ranges task) state_lines task.initial
  pub goal_is : SpellsGoal (ranges task) goal_lines task.goal
  pub operators_are : SpellsList (SpellsOperator (ranges task)) operator_lines task.operators
  pub few_operators : length task.operators ≤ max_operators
  pub no_axioms : SpellsCount axioms 0
  pub ending_is : AllByRecursion (λ l. l ≡ []) ending

-- the text spells the task
abbrev pub SpellsTask : List ℕ → FiniteDomainTask → Type 0
SpellsTask text task = Spells (lines text) task
