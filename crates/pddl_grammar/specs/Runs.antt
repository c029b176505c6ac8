-- Typed lists as runs: names, followed by a hyphen and their type.
use Rattle.std.specs.Prelude.{◌≡◌, ◌≢◌, ℕ, Bool, true, false, List, [], ◌∷◌, ◌++◌, map, Some, codes}
use Rattle.std.specs.List.{AllByRecursion, flat_map}
use Rattle.sexp.specs.Forms.{Forms, none, word}
use Rattle.pddl_syntax.specs.declared.word.WordKind.TheVariants.{Name, Variable}
use Rattle.pddl_syntax.specs.Words.{word_kind}
use Rattle.pddl_syntax.specs.Typed.{Declared}

-- a word of a text: the byte offsets of its start and of its end, and its bytes
pub record Placed : Type 0 where
  pub start : ℕ
  pub stop : ℕ
  pub text : List ℕ

-- one or more names, the offsets of a hyphen, and the type of all these names
pub record TypedRun : Type 0 where
  pub first : Placed
  pub others : List Placed
  pub hyphen_start : ℕ
  pub hyphen_stop : ℕ
  pub type : Placed

-- runs with types, followed by names without a type
pub record TypedList : Type 0 where
  pub runs : List TypedRun
  pub last : List Placed

-- the names of a run
abbrev pub names_of : TypedRun → List Placed
names_of r = r.first ∷ r.others

-- ---- its expressions

-- the words, followed by other expressions
abbrev pub words_before : List Placed → Forms → Forms
words_before [] f = f
words_before (w ∷ ws) f = word w.start w.stop w.text (words_before ws f)

-- the hyphen and the type of a run, followed by other expressions
abbrev pub type_before : TypedRun → Forms → Forms
type_before r f = word r.hyphen_start r.hyphen_stop (codes "-") (word r.type.start r.type.stop r.type.text f)

-- the runs, followed by other expressions
abbrev pub runs_before : List TypedRun → Forms → Forms
runs_before [] f = f
runs_before (r ∷ rs) f = words_before (names_of r) (type_before r (runs_before rs f))

-- the expressions of a typed list
abbrev pub forms_of : TypedList → Forms
forms_of l = runs_before l.runs (words_before l.last none)

-- ---- the allowed lists

-- a variable, in a list of variables, or a name
abbrev pub IsEntry : Bool → Placed → Type 0
IsEntry true w = word_kind w.text ≡ Variable
IsEntry false w = word_kind w.text ≡ Name

-- the name of a known type, and not the word `either`
pub record IsTypeName (known : List ℕ → Bool) (w : Placed) : Type 0 where
  pub name : word_kind w.text ≡ Name
  pub single : w.text ≢ codes "either"
  pub there : known w.text ≡ true

pub record IsTypedRun (variables : Bool) (known : List ℕ → Bool) (r : TypedRun) : Type 0 where
  pub names : AllByRecursion (IsEntry variables) (names_of r)
  pub type : IsTypeName known r.type

pub record IsTypedList (variables : Bool) (known : List ℕ → Bool) (l : TypedList) : Type 0 where
  pub runs : AllByRecursion (IsTypedRun variables known) l.runs
  pub last : AllByRecursion (IsEntry variables) l.last

-- ---- the declarations

-- the name with this type
abbrev pub of_type : List ℕ → Placed → Declared
of_type type w = record { name = w.text; at = w.start; parent = Some type }

-- the names of the run, each with the run's type
abbrev pub declared_by : TypedRun → List Declared
declared_by r = map (of_type r.type.text) (names_of r)

-- the names in order, each with its run's type, and those without a type with `object`
abbrev pub declarations : TypedList → List Declared
declarations l = flat_map declared_by l.runs ++ map (of_type (codes "object")) l.last
