-- Typed lists of one shape: what they declare, and their faults.
use Rattle.std.proofs.Common.{◌≡◌, ℕ, ◌+◌, Bool, true, false, List, [], ◌∷◌, map, refl, ap, ap₂, ◌∙◌, nat_le}
use Rattle.std.specs.Prelude.{Option, Some, None}
use Rattle.sexp.specs.Forms.{Forms, none, word, group}
use Rattle.pddl_names.specs.Names.{is_there, with_name}
use Rattle.pddl_syntax.specs.declared.word.WordKind.{WordKind}
use Rattle.pddl_syntax.specs.declared.word.WordKind.TheVariants.{Name}
use Rattle.pddl_syntax.specs.declared.typed.Item.{Item}
use Rattle.pddl_syntax.specs.declared.typed.Item.TheVariants.{Entry, Hyphen, Wrong}
use Rattle.pddl_syntax.specs.declared.fault.Fault.{Fault}
use Rattle.pddl_syntax.specs.declared.fault.FaultKind.TheVariants.{TwiceDeclared, Limit}
use Rattle.pddl_syntax.specs.declared.fault.LimitedTable.TheVariants.{Arguments}
use Rattle.pddl_syntax.specs.Faults.{fault}
use Rattle.pddl_syntax.specs.Words.{word_kind}
use Rattle.pddl_syntax.specs.Typed.{Declared, item_of, is_either, type_at, type_after_item, type_after, declared_item, declared, declared_behind, type_word_faults, either_at, either_faults, type_group_faults, item_faults, typed_faults, type_faults}
use Rattle.pddl_syntax.specs.Parameters.{names_with, type_number, variable_faults, parameters_faults, parameter_names, parameter_types}
use Rattle.pddl_syntax.specs.Limits.{max_arguments}
use Rattle.pddl_layout.specs.Shapes.{erased}
use Rattle.pddl_layout.proofs.Alike.{Alike, faulty, clear, both, chosen, tested}

-- ---- what they declare

-- the declaration at place 0
abbrev pub unplaced : Declared → Declared
unplaced d = record { name = d.name; at = 0; parent = d.parent }

type_at_erased : (f : Forms) → type_at (erased f) ≡ type_at f
type_at_erased none = refl
type_at_erased (word s e t f) = refl
type_at_erased (group s e i f) = refl

type_after_erased : (v : Bool) (f : Forms) → type_after v (erased f) ≡ type_after v f
type_after_erased v none = refl
type_after_erased v (word s e t f) = ap₂ (type_after_item (item_of v t)) (type_at_erased f) (type_after_erased v f)
type_after_erased v (group s e i f) = type_after_erased v f

item_erased : (i : Item) (t : List ℕ) (s : ℕ) (p q : Option (List ℕ)) (behind later behind2 later2 : List Declared) → q ≡ p → behind2 ≡ map unplaced behind → later2 ≡ map unplaced later
    → declared_item i (record { name = t; at = 0; parent = q }) behind2 later2 ≡ map unplaced (declared_item i (record { name = t; at = s; parent = p }) behind later)
item_erased Hyphen t s p q behind later behind2 later2 e b l = b
item_erased Entry t s p q behind later behind2 later2 e b l = ap₂ (λ (o : Option (List ℕ)) (ds : List Declared). record { name = t; at = 0; parent = o } ∷ ds) e l
item_erased Wrong t s p q behind later behind2 later2 e b l = l

mutual
  pub declared_erased : (v : Bool) (f : Forms) → declared v (erased f) ≡ map unplaced (declared v f)
  declared_erased v none = refl
  declared_erased v (word s e t f) =
      item_erased (item_of v t) t s (type_after v f) (type_after v (erased f)) (declared_behind v f) (declared v f) (declared_behind v (erased f)) (declared v (erased f))
      (type_after_erased v f) (declared_behind_erased v f) (declared_erased v f)
  declared_erased v (group s e i f) = declared_erased v f

  declared_behind_erased : (v : Bool) (f : Forms) → declared_behind v (erased f) ≡ map unplaced (declared_behind v f)
  declared_behind_erased v none = refl
  declared_behind_erased v (word s e t f) = declared_erased v f
  declared_behind_erased v (group s e i f) = declared_erased v f

-- ---- their faults

type_word_alike : (known : List ℕ → Bool) (t : List ℕ) (s z : ℕ) (k : WordKind) → Alike (type_word_faults known t s k) (type_word_faults known t z k)
type_word_alike known t s z Name = chosen (is_either t) faulty (chosen (known t) clear faulty)
type_word_alike known t s z kind = faulty

either_alike : (s z : ℕ) (o p : Option ℕ) → Alike (either_faults s o) (either_faults z p)
either_alike s z None None = faulty
either_alike s z None (Some a) = faulty
either_alike s z (Some a) None = faulty
either_alike s z (Some a) (Some b) = faulty

pub type_group_alike : (s z : ℕ) (i j : Forms) → Alike (type_group_faults s i) (type_group_faults z j)
type_group_alike s z i j = either_alike s z (either_at i) (either_at j)

empty_alike : (empty : Bool) (s z : ℕ) {a b : List Fault} → Alike a b → Alike (item_faults Hyphen empty s a [] []) (item_faults Hyphen empty z b [] [])
empty_alike true s z h = faulty
empty_alike false s z h = h

item_alike : (i : Item) (empty : Bool) (s z : ℕ) {behind later same behind2 later2 same2 : List Fault} → Alike behind behind2 → Alike later later2 → Alike same same2
    → Alike (item_faults i empty s behind later same) (item_faults i empty z behind2 later2 same2)
item_alike Hyphen empty s z b l h = empty_alike empty s z b
item_alike Entry empty s z b l h = l
item_alike Wrong empty s z b l h = faulty

mutual
  pub typed_alike : (v : Bool) (known : List ℕ → Bool) (h k : ℕ) (empty : Bool) (f : Forms) → Alike (typed_faults v known h empty f) (typed_faults v known k empty (erased f))
  typed_alike v known h k empty none = clear
  typed_alike v known h k empty (word s e t f) =
      item_alike (item_of v t) empty s 0 (type_alike v known h k f) (typed_alike v known h k false f) (typed_alike v known h k empty f)
  typed_alike v known h k empty (group s e i f) = faulty

  type_alike : (v : Bool) (known : List ℕ → Bool) (h k : ℕ) (f : Forms) → Alike (type_faults v known h f) (type_faults v known k (erased f))
  type_alike v known h k none = faulty
  type_alike v known h k (word s e t f) = both (type_word_alike known t s 0 (word_kind t)) (typed_alike v known h k true f)
  type_alike v known h k (group s e i f) = both (type_group_alike s 0 i (erased i)) (typed_alike v known h k true f)

-- ---- parameters

names_unplaced : (names : List (List ℕ)) (ds : List Declared) → names_with names (map unplaced ds) ≡ names_with names ds
names_unplaced names [] = refl
names_unplaced names (d ∷ ds) = names_unplaced (with_name names d.name) ds

pub parameter_names_erased : (f : Forms) → parameter_names (erased f) ≡ parameter_names f
parameter_names_erased f = ap (names_with []) (declared_erased true f) ∙ names_unplaced [] (declared true f)

types_unplaced : (types : List (List ℕ)) (ds : List Declared) → map (type_number types) (map unplaced ds) ≡ map (type_number types) ds
types_unplaced types [] = refl
types_unplaced types (d ∷ ds) = ap (λ (ns : List ℕ). type_number types d ∷ ns) (types_unplaced types ds)

pub parameter_types_erased : (types : List (List ℕ)) (f : Forms) → parameter_types types (erased f) ≡ parameter_types types f
parameter_types_erased types f = ap (map (type_number types)) (declared_erased true f) ∙ types_unplaced types (declared true f)

variables_alike : (names : List (List ℕ)) (n : ℕ) (ds : List Declared) → Alike (variable_faults names n ds) (variable_faults names n (map unplaced ds))
variables_alike names n [] = clear
variables_alike names n (d ∷ ds) =
    tested (is_there names d.name) (fault TwiceDeclared d.at) (fault TwiceDeclared 0)
    (tested (nat_le max_arguments n) (fault (Limit Arguments) d.at) (fault (Limit Arguments) 0) (variables_alike (with_name names d.name) (n + 1) ds))

pub parameters_alike : (known : List ℕ → Bool) (h k : ℕ) (f : Forms) → Alike (parameters_faults known h f) (parameters_faults known k (erased f))
parameters_alike known h k f = rw (declared_erased true f) (both (typed_alike true known h k true f) (variables_alike [] 0 (declared true f)))
