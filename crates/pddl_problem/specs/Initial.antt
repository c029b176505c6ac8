-- The section of the initial state, atoms and values of functions: its meaning and its faults.
use Rattle.std.specs.Prelude.{ℕ, ◌+◌, ◌==◌, ◌&&◌, not, Bool, true, false, if◌then◌else◌, List, [], ◌∷◌, ◌++◌, map, find, Option, Some, None, is_some, option_to_list, codes}
use Rattle.std.specs.Option.{option_map, option_map_or}
use Rattle.sexp.specs.Forms.{Forms, none, word, group, behind}
use Rattle.pddl_names.specs.Names.{same_text}
use Rattle.pddl_task.specs.Atoms.{Atom, same_atom}
use Rattle.pddl_task.specs.Lifted.{Lifted}
use Rattle.pddl_task.specs.Planning.{FunctionValue, ground_atom}
use Rattle.pddl_syntax.specs.declared.word.WordKind.{WordKind}
use Rattle.pddl_syntax.specs.declared.word.WordKind.TheVariants.{Name}
use Rattle.pddl_syntax.specs.declared.number.Number.{Number}
use Rattle.pddl_syntax.specs.declared.number.Number.TheVariants.{Whole, Fraction, OutOfRange, NoNumber}
use Rattle.pddl_syntax.specs.declared.fault.Fault.{Fault}
use Rattle.pddl_syntax.specs.declared.fault.FaultKind.TheVariants.{Shape, Unsupported, Arity, TwiceDeclared, NotWhole, CostRange, Limit}
use Rattle.pddl_syntax.specs.declared.fault.LimitedTable.TheVariants.{Init}
use Rattle.pddl_syntax.specs.Faults.{fault, faults_if}
use Rattle.pddl_syntax.specs.Words.{word_kind}
use Rattle.pddl_syntax.specs.Numbers.{number_of}
use Rattle.pddl_syntax.specs.Sections.{more_faults}
use Rattle.pddl_terms.specs.declared.beginning.Beginning.{Beginning}
use Rattle.pddl_terms.specs.declared.beginning.Beginning.TheVariants.{Negation, Unread, NoName}
use Rattle.pddl_terms.specs.declared.beginning.Setting.TheVariants.{InInitial}
use Rattle.pddl_terms.specs.Terms.{Scope, lifted, lifted_faults, is_total_cost, not_empty}
use Rattle.pddl_terms.specs.Beginnings.{beginning}
use Rattle.pddl_effect.specs.Conditions.{negated_faults}
use Rattle.pddl_problem.specs.declared.initial.ItemKind.{ItemKind}
use Rattle.pddl_problem.specs.declared.initial.ItemKind.TheVariants.{TrueAtom, Value, Negated, NotRead, Nothing}
use Rattle.pddl_problem.specs.Limits.{max_items}

-- ---- the meaning

-- the ground atom of a head whose terms are objects
abbrev pub atom_of : Option Lifted → Option Atom
atom_of a = option_map (ground_atom []) a

-- whether the last expression is a list, or `otherwise` if there is none
abbrev pub ends_in_list : Bool → Forms → Bool
ends_in_list otherwise none = otherwise
ends_in_list otherwise (word s e t f) = ends_in_list false f
ends_in_list otherwise (group s e i f) = ends_in_list true f

-- the number, if it is whole and in range
abbrev pub whole : Number → Option ℕ
whole (Whole n) = Some n
whole Fraction = None
whole OutOfRange = None
whole NoNumber = None

-- the first expression as a whole number
abbrev pub first_number : Forms → Option ℕ
first_number none = None
first_number (word s e t f) = whole (number_of t)
first_number (group s e i f) = None

-- a whole number that no expression follows
abbrev pub number_alone : Forms → Option ℕ
number_alone none = None
number_alone (word s e t f) = if not_empty f then None else first_number (word s e t f)
number_alone (group s e i f) = None

-- a value, if both its function and its number can be read
abbrev pub value_by : Option Atom → Option ℕ → Option FunctionValue
value_by (Some p) (Some n) = Some (record { function = p; value = n })
value_by (Some p) None = None
value_by None n = None

-- a function with its terms; the total cost has no initial value
abbrev pub function_by_kind : Scope → List ℕ → Forms → WordKind → Option Atom
function_by_kind scope t i Name = if is_total_cost t then None else atom_of (lifted scope.functions scope t i)
function_by_kind scope t i kind = None

-- the expressions in a list as a function with its terms
abbrev pub function_inside : Scope → Forms → Option Atom
function_inside scope none = None
function_inside scope (word s e t f) = function_by_kind scope t f (word_kind t)
function_inside scope (group s e i f) = None

-- the first expression as a function with its terms
abbrev pub first_function : Scope → Forms → Option Atom
first_function scope none = None
first_function scope (word s e t f) = function_by_kind scope t none (word_kind t)
first_function scope (group s e i f) = function_inside scope i

-- the value of a function, from the expressions after the word `=`
abbrev pub stated : Scope → Forms → Option FunctionValue
stated scope f = value_by (first_function scope f) (number_alone (behind f))

-- ---- the kind of an item, by its head and the rest

-- Heads that no setting supports are not supported here either, and `and` is an ordinary predicate. A timed literal is
-- not supported.
abbrev pub item_kind_by : List ℕ → Forms → Beginning → ItemKind
item_kind_by t i Negation = Negated
item_kind_by t i Unread = NotRead
item_kind_by t i NoName = Nothing
item_kind_by t i other =
    if same_text t (codes "=") then Value
    else (if same_text t (codes "at") && ends_in_list false i then NotRead else TrueAtom)

-- the kind of an item, by its head and the rest
abbrev pub item_kind : List ℕ → Forms → ItemKind
item_kind t i = item_kind_by t i (beginning InInitial t)

-- the atom, and in the next definition the value, of an item of this kind
abbrev pub item_atom : Scope → List ℕ → Forms → ItemKind → Option Atom
item_atom scope t i TrueAtom = atom_of (lifted scope.predicates scope t i)
item_atom scope t i other = None

abbrev pub item_value : Scope → Forms → ItemKind → Option FunctionValue
item_value scope i Value = stated scope i
item_value scope i other = None

-- the atom, and in the next definition the value, of an item, from the expressions in its list
abbrev pub atom_inside : Scope → Forms → Option Atom
atom_inside scope none = None
atom_inside scope (word s e t f) = item_atom scope t f (item_kind t f)
atom_inside scope (group s e i f) = None

abbrev pub value_inside : Scope → Forms → Option FunctionValue
value_inside scope none = None
value_inside scope (word s e t f) = item_value scope f (item_kind t f)
value_inside scope (group s e i f) = None

-- the atoms of the items, in the order of the text
abbrev pub initial_atoms : Scope → Forms → List Atom
initial_atoms scope none = []
initial_atoms scope (word s e t f) = initial_atoms scope f
initial_atoms scope (group s e i f) = option_to_list (atom_inside scope i) ++ initial_atoms scope f

-- the value of the function at these objects, if it is among the values
abbrev pub value_among : List FunctionValue → Atom → Option FunctionValue
value_among values p = find (λ v. same_atom p v.function) values

-- the values with one more, unless its function has a value at these objects
abbrev pub with_value : List FunctionValue → Option FunctionValue → List FunctionValue
with_value values None = values
with_value values (Some v) = if is_some (value_among values v.function) then values else values ++ v ∷ []

-- the values that the items state, added to others; the first one for a function and its objects counts
abbrev pub stated_values : Scope → List FunctionValue → Forms → List FunctionValue
stated_values scope values none = values
stated_values scope values (word s e t f) = stated_values scope values f
stated_values scope values (group s e i f) = stated_values scope (with_value values (value_inside scope i)) f

-- the values of a map
abbrev pub values_of : List (Atom × ℕ) → List FunctionValue
values_of entries = map (λ e. record { function = e.0; value = e.1 }) entries

-- ---- the faults

-- the fault of a word in the position of a number
abbrev pub number_word_faults : ℕ → Number → List Fault
number_word_faults s (Whole n) = []
number_word_faults s Fraction = fault NotWhole s ∷ []
number_word_faults s OutOfRange = fault CostRange s ∷ []
number_word_faults s NoNumber = fault Shape s ∷ []

-- the fault of the first expression, which must be a number
abbrev pub first_number_faults : Forms → List Fault
first_number_faults none = []
first_number_faults (word s e t f) = number_word_faults s (number_of t)
first_number_faults (group s e i f) = fault Shape s ∷ []

-- the faults of the expressions in the list at `home`, which must be exactly one number
abbrev pub number_faults : ℕ → Forms → List Fault
number_faults home none = fault Shape home ∷ []
number_faults home (word s e t f) = first_number_faults (word s e t f) ++ more_faults f
number_faults home (group s e i f) = first_number_faults (group s e i f) ++ more_faults f

-- a whole number above 0
abbrev pub positive : Number → Bool
positive (Whole n) = not (n == 0)
positive Fraction = false
positive OutOfRange = false
positive NoNumber = false

-- the first expression is a whole number above 0
abbrev pub is_positive : Forms → Bool
is_positive none = false
is_positive (word s e t f) = positive (number_of t)
is_positive (group s e i f) = false

-- the faults of a function's word at offset `s` with its terms, in the list at `home`; `f` follows it
abbrev pub function_faults : Scope → ℕ → ℕ → List ℕ → Forms → Forms → WordKind → List Fault
function_faults scope home s t i f Name =
    if is_total_cost t then faults_if (not_empty i) (fault Arity home) (faults_if (is_positive f) (fault Unsupported s) [])
    else lifted_faults scope.functions scope home s t i
function_faults scope home s t i f kind = fault Shape s ∷ []

-- the faults of the expressions in the list at `home`, which must be a function with its terms; `f` follows the list
abbrev pub function_inside_faults : Scope → ℕ → Forms → Forms → List Fault
function_inside_faults scope home f none = fault Shape home ∷ []
function_inside_faults scope home f (word hs he t i) = function_faults scope home hs t i f (word_kind t)
function_inside_faults scope home f (group hs he h i) = fault Shape hs ∷ []

-- the faults of the first expression, which must be a function with its terms; the others follow it
abbrev pub first_function_faults : Scope → Forms → List Fault
first_function_faults scope none = []
first_function_faults scope (word s e t f) = function_faults scope s s t none f (word_kind t)
first_function_faults scope (group s e i f) = function_inside_faults scope s f i

-- the faults of `(= function number)`, in the list at `home`, from the expressions after its word `=`
abbrev pub value_faults : Scope → ℕ → Forms → List Fault
value_faults scope home none = fault Shape home ∷ []
value_faults scope home (word s e t f) = first_function_faults scope (word s e t f) ++ number_faults home f
value_faults scope home (group s e i f) = first_function_faults scope (group s e i f) ++ number_faults home f

-- the faults of an item of this kind at `home`, whose head is at offset `hs`
abbrev pub item_faults : Scope → ℕ → ℕ → List ℕ → Forms → ItemKind → List Fault
item_faults scope home hs t i Negated = negated_faults InInitial scope home hs i
item_faults scope home hs t i NotRead = fault Unsupported hs ∷ []
item_faults scope home hs t i Nothing = fault Shape hs ∷ []
item_faults scope home hs t i Value = value_faults scope home i
item_faults scope home hs t i TrueAtom = lifted_faults scope.predicates scope home hs t i

-- the faults of the expressions in the item at `home`
abbrev pub inside_faults : Scope → ℕ → Forms → List Fault
inside_faults scope home none = fault Shape home ∷ []
inside_faults scope home (word hs he t i) = item_faults scope home hs t i (item_kind t i)
inside_faults scope home (group hs he h i) = fault Shape hs ∷ []

-- the function has another value at these objects among the values
abbrev pub is_restated : List FunctionValue → Option FunctionValue → Bool
is_restated values None = false
is_restated values (Some v) = option_map_or (λ w. not (w.value == v.value)) (value_among values v.function) false

-- the fault of the item at offset `s` if it follows 1,000,000 others, followed by other faults
abbrev pub past_limit : ℕ → ℕ → List Fault → List Fault
past_limit n s fs = faults_if (n == max_items) (fault (Limit Init) s) fs

-- the faults of items that follow `n` others, which state these values
abbrev pub initial_faults : Scope → ℕ → List FunctionValue → Forms → List Fault
initial_faults scope n values none = []
initial_faults scope n values (word s e t f) = fault Shape s ∷ past_limit n s (initial_faults scope (n + 1) values f)
initial_faults scope n values (group s e i f) =
    inside_faults scope s i
    ++ faults_if (is_restated values (value_inside scope i)) (fault TwiceDeclared s)
    (past_limit n s (initial_faults scope (n + 1) (with_value values (value_inside scope i)) f))
