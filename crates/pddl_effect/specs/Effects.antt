-- Effects and increases: their meaning and their faults.
use Rattle.std.specs.Prelude.{ℕ, ◌&&◌, not, Bool, true, false, if◌then◌else◌, List, [], ◌∷◌, ◌++◌, Option, Some, None, option_to_list}
use Rattle.std.specs.Option.{option_map}
use Rattle.sexp.specs.Forms.{Forms, none, word, group}
use Rattle.pddl_task.specs.declared.schema.Condition.{Condition}
use Rattle.pddl_task.specs.declared.schema.Condition.TheVariants.{Positive, Negative, Equal, Different}
use Rattle.pddl_task.specs.declared.schema.Increase.{Increase}
use Rattle.pddl_task.specs.declared.schema.Increase.TheVariants.{Amount, Value}
use Rattle.pddl_task.specs.Planning.{Lifted, Effect}
use Rattle.pddl_syntax.specs.declared.word.WordKind.{WordKind}
use Rattle.pddl_syntax.specs.declared.word.WordKind.TheVariants.{Name}
use Rattle.pddl_syntax.specs.declared.number.Number.{Number}
use Rattle.pddl_syntax.specs.declared.number.Number.TheVariants.{Whole, Fraction, OutOfRange, NoNumber}
use Rattle.pddl_syntax.specs.declared.fault.Fault.{Fault}
use Rattle.pddl_syntax.specs.declared.fault.FaultKind.TheVariants.{Shape, Unsupported, Arity, NotWhole, CostRange}
use Rattle.pddl_syntax.specs.Faults.{fault, faults_if}
use Rattle.pddl_syntax.specs.Words.{word_kind}
use Rattle.pddl_syntax.specs.Numbers.{number_of}
use Rattle.pddl_syntax.specs.Sections.{behind, more_faults}
use Rattle.pddl_terms.specs.declared.beginning.Beginning.{Beginning}
use Rattle.pddl_terms.specs.declared.beginning.Beginning.TheVariants.{Conjunction, Negation, Increasing, Unread, Atom}
use Rattle.pddl_terms.specs.declared.beginning.Setting.TheVariants.{InEffect}
pub use Rattle.pddl_terms.specs.Terms.{is_total_cost, not_empty}
use Rattle.pddl_terms.specs.Terms.{Scope, lifted, lifted_faults}
use Rattle.pddl_effect.specs.Conditions.{negated_faults}
use Rattle.pddl_terms.specs.Beginnings.{beginning}

-- ---- the meaning

abbrev pub effect_of : Bool → Lifted → Effect
effect_of positive atom = record { atom = atom; positive = positive }

-- the atom of a negated atom
abbrev pub negated_atom : Condition → Option Lifted
negated_atom (Negative atom) = Some atom
negated_atom (Positive atom) = None
negated_atom (Equal a b) = None
negated_atom (Different a b) = None

abbrev pub negated_effect : Scope → List ℕ → Forms → Beginning → List Effect
negated_effect scope t f Atom = option_to_list (option_map (effect_of false) (lifted scope.predicates scope t f))
negated_effect scope t f other = []

-- the effect that is the negation of the expressions in a list
abbrev pub negated_inside : Scope → Forms → List Effect
negated_inside scope none = []
negated_inside scope (word s e t f) = negated_effect scope t f (beginning InEffect t)
negated_inside scope (group s e i f) = []

-- the effect that is the negation of the expression after `not`
abbrev pub negated_effects : Scope → Forms → List Effect
negated_effects scope none = []
negated_effects scope (word s e t f) = []
negated_effects scope (group s e i f) = negated_inside scope i

abbrev pub group_effects : Scope → List ℕ → Forms → Beginning → List Effect → List Effect
group_effects scope t f Conjunction parts = parts
group_effects scope t f Negation parts = negated_effects scope f
group_effects scope t f Atom parts = option_to_list (option_map (effect_of true) (lifted scope.predicates scope t f))
group_effects scope t f other parts = []

-- the effects that the expressions spell, in the order of the text
abbrev pub effects : Scope → Forms → List Effect
effects scope none = []
effects scope (word s e t f) = effects scope f
effects scope (group s e none f) = effects scope f
effects scope (group s e (group hs he h i) f) = effects scope f
effects scope (group s e (word hs he t i) f) = group_effects scope t i (beginning InEffect t) (effects scope i) ++ effects scope f

-- the value of a function with these terms; the total cost has none
abbrev pub function_value : Scope → List ℕ → Forms → WordKind → Option Increase
function_value scope t f Name = if is_total_cost t then None else option_map Value (lifted scope.functions scope t f)
function_value scope t f kind = None

-- a word as an amount
abbrev pub amount_of_word : Scope → List ℕ → Number → Option Increase
amount_of_word scope t (Whole n) = Some (Amount n)
amount_of_word scope t Fraction = None
amount_of_word scope t OutOfRange = None
amount_of_word scope t NoNumber = function_value scope t none (word_kind t)

-- the expressions in a list as an amount
abbrev pub amount_inside : Scope → Forms → Option Increase
amount_inside scope none = None
amount_inside scope (word s e t f) = function_value scope t f (word_kind t)
amount_inside scope (group s e i f) = None

-- the first expression as an amount
abbrev pub amount_of : Scope → Forms → Option Increase
amount_of scope none = None
amount_of scope (word s e t f) = amount_of_word scope t (number_of t)
amount_of scope (group s e i f) = amount_inside scope i

-- the increase of the expressions after the word `increase`
abbrev pub increase_of : Scope → Forms → Option Increase
increase_of scope f = amount_of scope (behind f)

abbrev pub group_increases : Scope → Forms → Beginning → List Increase → List Increase
group_increases scope f Conjunction parts = parts
group_increases scope f Increasing parts = option_to_list (increase_of scope f)
group_increases scope f other parts = []

-- the increases that the expressions spell, in the order of the text
abbrev pub increases : Scope → Forms → List Increase
increases scope none = []
increases scope (word s e t f) = increases scope f
increases scope (group s e none f) = increases scope f
increases scope (group s e (group hs he h i) f) = increases scope f
increases scope (group s e (word hs he t i) f) = group_increases scope i (beginning InEffect t) (increases scope i) ++ increases scope f

-- ---- the faults

-- the faults of a function's word at offset `s` with its terms, in the list at `home`
abbrev pub function_faults : Scope → ℕ → ℕ → List ℕ → Forms → WordKind → List Fault
function_faults scope home s t f Name =
    if is_total_cost t then fault Unsupported s ∷ [] else lifted_faults scope.functions scope home s t f
function_faults scope home s t f kind = fault Shape s ∷ []

abbrev pub amount_word_faults : Scope → ℕ → List ℕ → Number → List Fault
amount_word_faults scope s t (Whole n) = []
amount_word_faults scope s t Fraction = fault NotWhole s ∷ []
amount_word_faults scope s t OutOfRange = fault CostRange s ∷ []
amount_word_faults scope s t NoNumber = function_faults scope s s t none (word_kind t)

-- the faults of the expressions in the list at `home`, which must be an amount
abbrev pub amount_inside_faults : Scope → ℕ → Forms → List Fault
amount_inside_faults scope home none = fault Shape home ∷ []
amount_inside_faults scope home (word s e t f) = function_faults scope home s t f (word_kind t)
amount_inside_faults scope home (group s e i f) = fault Shape s ∷ []

-- the faults of the first expression, which must be an amount
abbrev pub first_amount_faults : Scope → Forms → List Fault
first_amount_faults scope none = []
first_amount_faults scope (word s e t f) = amount_word_faults scope s t (number_of t)
first_amount_faults scope (group s e i f) = amount_inside_faults scope s i

-- the faults of the expressions in the list at `home`, which must be exactly one amount
abbrev pub amount_faults : Scope → ℕ → Forms → List Fault
amount_faults scope home none = fault Shape home ∷ []
amount_faults scope home f = first_amount_faults scope f ++ more_faults (behind f)

-- the fault of the word for the increased function, which must be the total cost; `inc` is the offset of the word
-- `increase`
abbrev pub increased_word_faults : ℕ → ℕ → List ℕ → WordKind → List Fault
increased_word_faults inc s t Name = faults_if (not (is_total_cost t)) (fault Unsupported inc) []
increased_word_faults inc s t kind = fault Shape s ∷ []

-- the word is `total-cost` and has terms, which is not allowed
abbrev pub has_terms : List ℕ → Forms → Bool
has_terms t f = is_total_cost t && not_empty f

-- the faults of the expressions in the list at `home`, which must be the increased function
abbrev pub increased_inside_faults : ℕ → ℕ → Forms → List Fault
increased_inside_faults inc home none = fault Shape home ∷ []
increased_inside_faults inc home (word s e t f) = increased_word_faults inc s t (word_kind t) ++ faults_if (has_terms t f) (fault Arity home) []
increased_inside_faults inc home (group s e i f) = fault Shape s ∷ []

-- the faults of the first expression after the word `increase` at offset `inc`, which must be the increased function
abbrev pub increased_faults : ℕ → Forms → List Fault
increased_faults inc none = []
increased_faults inc (word s e t f) = increased_word_faults inc s t (word_kind t)
increased_faults inc (group s e i f) = increased_inside_faults inc s i

-- the faults of the expressions after the word `increase` at offset `inc`, in the list at `home`
abbrev pub increase_faults : Scope → ℕ → ℕ → Forms → List Fault
increase_faults scope home inc none = fault Shape home ∷ []
increase_faults scope home inc f = increased_faults inc f ++ amount_faults scope home (behind f)

abbrev pub group_faults : Scope → ℕ → ℕ → List ℕ → Forms → Beginning → List Fault → List Fault
group_faults scope home hs t f Conjunction parts = parts
group_faults scope home hs t f Negation parts = negated_faults InEffect scope home hs f
group_faults scope home hs t f Increasing parts = increase_faults scope home hs f
group_faults scope home hs t f Unread parts = fault Unsupported hs ∷ []
group_faults scope home hs t f Atom parts = lifted_faults scope.predicates scope home hs t f
group_faults scope home hs t f other parts = fault Shape hs ∷ []

-- the faults of expressions that must all be effects
abbrev pub effects_faults : Scope → Forms → List Fault
effects_faults scope none = []
effects_faults scope (word s e t f) = fault Shape s ∷ effects_faults scope f
effects_faults scope (group s e none f) = effects_faults scope f
effects_faults scope (group s e (group hs he h i) f) = fault Shape hs ∷ effects_faults scope f
effects_faults scope (group s e (word hs he t i) f) =
    group_faults scope s hs t i (beginning InEffect t) (effects_faults scope i) ++ effects_faults scope f
