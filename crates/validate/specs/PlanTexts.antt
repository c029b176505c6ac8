-- Which bytes spell which plan, and the fault of a text that spells no plan.
use Rattle.std.specs.Prelude.{◌≡◌, ℕ, ◌<◌, ◌≤◌, List, [], ◌∷◌, ◌++◌, length, Option, Some, None, false, Result, Ok, Err}
use Rattle.sexp.specs.Forms.{Forms, none, word, group}
use Rattle.sexp.specs.Grammar.{SpellsAll}
use Rattle.sexp.specs.Faults.{IsFirstFault}
use Rattle.validate.specs.declared.plan.PlanFault.{PlanFault}
use Rattle.validate.specs.declared.plan.PlanFault.TheVariants.{OutOfMemory, Tree, PlanShape, PlanLimit}
use Rattle.validate.specs.Steps.{Step}

-- the words among the expressions
abbrev pub words_of : Forms → List (List ℕ)
words_of none = []
words_of (word s e t f) = t ∷ words_of f
words_of (group s e i f) = words_of f

-- the step of a list of words
abbrev pub step_of : Forms → Option Step
step_of none = None
step_of (word s e t f) = Some (record { name = t; arguments = words_of f })
step_of (group s e i f) = None

abbrev pub with_step : Option Step → List Step → List Step
with_step (Some s) steps = s ∷ steps
with_step None steps = steps

-- the steps of the lists among the expressions
abbrev pub steps_of : Forms → List Step
steps_of none = []
steps_of (word s e t f) = steps_of f
steps_of (group s e i f) = with_step (step_of i) (steps_of f)

-- ---- the places of expressions other than lists of words, in the order of the text

-- the byte offsets at which lists begin
abbrev pub lists_in : Forms → List ℕ
lists_in none = []
lists_in (word s e t f) = lists_in f
lists_in (group s e i f) = s ∷ lists_in f

-- the places of the faults of the list at offset `at`, which must be a list of words: its own if it is empty, and those
-- of the lists in it
abbrev pub list_faults : ℕ → Forms → List ℕ
list_faults at none = at ∷ []
list_faults at (word s e t f) = lists_in (word s e t f)
list_faults at (group s e i f) = lists_in (group s e i f)

-- the places of each word outside a list, empty list, and list inside a list
abbrev pub shape_faults : Forms → List ℕ
shape_faults none = []
shape_faults (word s e t f) = s ∷ shape_faults f
shape_faults (group s e i f) = list_faults s i ++ shape_faults f

-- the greatest number of steps of a plan
abbrev pub max_steps : ℕ
max_steps = 1048576

abbrev pub first_of_places : List ℕ → Option ℕ
first_of_places [] = None
first_of_places (p ∷ ps) = Some p

-- the bytes spell the plan
pub record SpellsPlan (bytes : List ℕ) (steps : List Step) : Type 0 where
  pub forms : Forms
  pub spelled : SpellsAll bytes forms
  pub lists_of_words : shape_faults forms ≡ []
  pub steps_are : steps ≡ steps_of forms
  pub few : length steps ≤ max_steps

-- the fault of the text: the first fault of its trees, its first place that is not a list of words, or too many steps
abbrev pub IsPlanFault : List ℕ → PlanFault → Type 0
IsPlanFault bytes OutOfMemory = Unit {0}
IsPlanFault bytes (Tree e) = IsFirstFault false bytes e
IsPlanFault bytes (PlanShape at) = (f : Forms) × SpellsAll bytes f × (first_of_places (shape_faults f) ≡ Some at)
IsPlanFault bytes PlanLimit = (f : Forms) × SpellsAll bytes f × (shape_faults f ≡ []) × (max_steps < length (steps_of f))

-- the steps were read, unless allocation failed
abbrev pub GivesPlan : Result (List Step) PlanFault → List Step → Type 0
GivesPlan (Ok p) steps = p ≡ steps
GivesPlan (Err OutOfMemory) steps = Unit {0}
GivesPlan (Err (Tree e)) steps = ⊥
GivesPlan (Err (PlanShape at)) steps = ⊥
GivesPlan (Err PlanLimit) steps = ⊥
