-- Typed lists: names or variables in runs, each followed by a type.
use Rattle.std.specs.Prelude.{ℕ, Bool, true, false, ◌||◌, if◌then◌else◌, List, [], ◌∷◌, ◌++◌, map, Option, Some, None, codes}
use Rattle.std.specs.List.{flat_map}
use Rattle.std.specs.Option.{option_map}
use Rattle.std.specs.String.{string_bytes}
use Rattle.sexp.specs.Forms.{Forms, none, word, group}
use Rattle.pddl_syntax.specs.declared.word.WordKind.{WordKind}
use Rattle.pddl_syntax.specs.declared.word.WordKind.TheVariants.{Dash, Name, Variable}
use Rattle.pddl_syntax.specs.declared.fault.Fault.{Fault}
use Rattle.pddl_syntax.specs.declared.fault.FaultKind.TheVariants.{Shape, Unsupported, UnknownName}
use Rattle.pddl_syntax.specs.declared.typed.Item.{Item}
use Rattle.pddl_syntax.specs.declared.typed.Item.TheVariants.{Entry, Hyphen, Wrong}
use Rattle.pddl_syntax.specs.declared.typed.Named.{Named}
use Rattle.pddl_syntax.specs.declared.typed.Run.{Run}
use Rattle.pddl_syntax.specs.declared.typed.Typed.{Typed}
use Rattle.pddl_syntax.specs.declared.typed.Types.{Types}
use Rattle.pddl_syntax.specs.Faults.{fault}
use Rattle.pddl_names.specs.Names.{same_text, is_there}
use Rattle.pddl_syntax.specs.Words.{word_kind}

-- a name with its byte offset, and its type if that can be read
pub record Declared : Type 0 where
  pub name : List ℕ
  pub at : ℕ
  pub parent : Option (List ℕ)

-- ---- the words

abbrev pub item_of_kind : Bool → WordKind → Item
item_of_kind variables Dash = Hyphen
item_of_kind false Name = Entry
item_of_kind true Variable = Entry
item_of_kind variables kind = Wrong

abbrev pub item_of : Bool → List ℕ → Item
item_of variables t = item_of_kind variables (word_kind t)

abbrev pub is_either : List ℕ → Bool
is_either t = same_text t (codes "either")

-- ---- the meaning

abbrev pub type_of_word : List ℕ → WordKind → Option (List ℕ)
type_of_word t Name = if is_either t then None else Some t
type_of_word t kind = None

-- the type that the first expression names, if it can be read
abbrev pub type_at : Forms → Option (List ℕ)
type_at none = None
type_at (word s e t f) = type_of_word t (word_kind t)
type_at (group s e i f) = None

-- the type after the next hyphen, or `object` if there is none
abbrev pub type_after_item : Item → Option (List ℕ) → Option (List ℕ) → Option (List ℕ)
type_after_item Hyphen here later = here
type_after_item Entry here later = later
type_after_item Wrong here later = later

abbrev pub type_after : Bool → Forms → Option (List ℕ)
type_after v none = Some (codes "object")
type_after v (word s e t f) = type_after_item (item_of v t) (type_at f) (type_after v f)
type_after v (group s e i f) = type_after v f

abbrev pub declared_item : Item → Declared → List Declared → List Declared → List Declared
declared_item Hyphen d behind later = behind
declared_item Entry d behind later = d ∷ later
declared_item Wrong d behind later = later

-- the declarations of a list if a name comes next, and if a type comes next
abbrev mutual
  pub declared : Bool → Forms → List Declared
  declared v none = []
  declared v (word s e t f) = declared_item (item_of v t) (record { name = t; at = s; parent = type_after v f }) (declared_behind v f) (declared v f)
  declared v (group s e i f) = declared v f

  pub declared_behind : Bool → Forms → List Declared
  declared_behind v none = []
  declared_behind v (word s e t f) = declared v f
  declared_behind v (group s e i f) = declared v f

-- ---- the faults

abbrev pub type_word_faults : (List ℕ → Bool) → List ℕ → ℕ → WordKind → List Fault
type_word_faults known t s Name =
    if is_either t then fault Unsupported s ∷ [] else (if known t then [] else fault UnknownName s ∷ [])
type_word_faults known t s kind = fault Shape s ∷ []

-- the byte offset of `either`, if it is the first expression
abbrev pub either_at : Forms → Option ℕ
either_at none = None
either_at (word s e t f) = if is_either t then Some s else None
either_at (group s e i f) = None

abbrev pub either_faults : ℕ → Option ℕ → List Fault
either_faults at None = fault Shape at ∷ []
either_faults at (Some s) = fault Unsupported s ∷ []

-- the fault of a list in the position of a type
abbrev pub type_group_faults : ℕ → Forms → List Fault
type_group_faults at inner = either_faults at (either_at inner)

abbrev pub item_faults : Item → Bool → ℕ → List Fault → List Fault → List Fault → List Fault
item_faults Hyphen empty s behind later same = (if empty then fault Shape s ∷ [] else []) ++ behind
item_faults Entry empty s behind later same = later
item_faults Wrong empty s behind later same = fault Shape s ∷ same

-- The faults of a list if a name comes next, in a run that is empty so far or not (`empty`), and if a type comes next.
-- A missing type is a fault at the list, which is at `home`.
abbrev mutual
  pub typed_faults : Bool → (List ℕ → Bool) → ℕ → Bool → Forms → List Fault
  typed_faults v known home empty none = []
  typed_faults v known home empty (word s e t f) =
      item_faults (item_of v t) empty s (type_faults v known home f) (typed_faults v known home false f) (typed_faults v known home empty f)
  typed_faults v known home empty (group s e i f) = fault Shape s ∷ typed_faults v known home empty f

  pub type_faults : Bool → (List ℕ → Bool) → ℕ → Forms → List Fault
  type_faults v known home none = fault Shape home ∷ []
  type_faults v known home (word s e t f) = type_word_faults known t s (word_kind t) ++ typed_faults v known home true f
  type_faults v known home (group s e i f) = type_group_faults s i ++ typed_faults v known home true f

-- ---- the runs of the code

abbrev pub with_type : Option (List ℕ) → Named → Declared
with_type p n = record { name = string_bytes n.name; at = n.at; parent = p }

abbrev pub parent_text : Run → Option (List ℕ)
parent_text r = option_map string_bytes r.parent

abbrev pub spread_run : Run → List Declared
spread_run r = map (with_type (parent_text r)) r.names.items

abbrev pub spread : List Run → List Declared
spread rs = flat_map spread_run rs

-- the declarations read so far, followed by those still to be read
abbrev pub reading : Bool → List Run → List Named → Bool → Forms → List Declared
reading v runs names false f = spread runs ++ (map (with_type (type_after v f)) names ++ declared v f)
reading v runs names true f = spread runs ++ (map (with_type (type_at f)) names ++ declared_behind v f)

abbrev pub is_empty : List Named → Bool
is_empty [] = true
is_empty (n ∷ ns) = false

abbrev pub complaints : Bool → (List ℕ → Bool) → ℕ → List Named → Bool → Forms → List Fault
complaints v known home names false f = typed_faults v known home (is_empty names) f
complaints v known home names true f = type_faults v known home f

abbrev pub reading_of : Bool → Typed → Forms → List Declared
reading_of v r f = reading v r.runs.items r.names.items r.wants_type f

abbrev pub complaints_of : Bool → (List ℕ → Bool) → ℕ → Typed → Forms → List Fault
complaints_of v known home r f = complaints v known home r.names.items r.wants_type f

-- the type is declared, or any type is allowed
abbrev pub is_known : Bool → Types → List ℕ → Bool
is_known any types t = any || is_there types.names t
