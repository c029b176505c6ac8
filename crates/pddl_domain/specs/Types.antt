-- The section of the types: its meaning and its faults.
use Rattle.std.specs.Prelude.{ℕ, ◌==◌, Bool, true, false, not, if◌then◌else◌, List, [], ◌∷◌, ◌++◌, map, length, find, Option, Some, None, unwrap_or, codes}
use Rattle.std.specs.List.{range_with_len}
use Rattle.std.specs.Option.{option_map, option_map_or}
use Rattle.sexp.specs.Forms.{Forms}
use Rattle.pddl_names.specs.Names.{number_of, with_name}
use Rattle.pddl_syntax.specs.declared.fault.Fault.{Fault}
use Rattle.pddl_syntax.specs.declared.fault.FaultKind.TheVariants.{TwiceDeclared, TypeCycle}
use Rattle.pddl_syntax.specs.Faults.{fault, faults_if}
use Rattle.pddl_syntax.specs.Typed.{Declared, declared, typed_faults}
use Rattle.pddl_domain.specs.declared.types.Subtype.{Subtype}
use Rattle.pddl_domain.specs.Cycles.{lies_on_cycle}

-- ---- the meaning

-- the names with that of the supertype, if it can be read
abbrev pub with_parent : List (List ℕ) → Option (List ℕ) → List (List ℕ)
with_parent names None = names
with_parent names (Some t) = with_name names t

-- the names with those of the declared types and of their supertypes
abbrev pub all_types : List (List ℕ) → List Declared → List (List ℕ)
all_types names [] = names
all_types names (d ∷ ds) = all_types (with_parent (with_name names d.name) d.parent) ds

-- the names of the types, `object` first
abbrev pub type_names : List Declared → List (List ℕ)
type_names ds = all_types (codes "object" ∷ []) ds

-- a declaration by numbers
abbrev pub numbered : List (List ℕ) → Declared → Subtype
numbered names d = record { name = number_of names d.name; at = d.at; parent = option_map (number_of names) d.parent }

-- the declarations of a section, by numbers
abbrev pub subtypes : List Declared → List Subtype
subtypes ds = map (numbered (type_names ds)) ds

-- the first declaration of a type, if it has one
abbrev pub first_of_name : List Subtype → ℕ → Option Subtype
first_of_name ds n = find (λ d. d.name == n) ds

-- the supertype in the first declaration of a type, or `object` if there is none
abbrev pub first_parent : Option Subtype → ℕ
first_parent first = option_map_or (λ d. unwrap_or d.parent 0) first 0

-- the supertype of a type
abbrev pub parent_of : List Subtype → ℕ → ℕ
parent_of ds n = first_parent (first_of_name ds n)

-- the supertype of each of `count` types
abbrev pub parents : List Subtype → ℕ → List ℕ
parents ds count = map (parent_of ds) (range_with_len 0 count)

-- the supertype of each type
abbrev pub supertypes : List Declared → List ℕ
supertypes ds = parents (subtypes ds) (length (type_names ds))

-- ---- the faults

-- both numbers are present, and they differ
abbrev pub differs : Option ℕ → Option ℕ → Bool
differs (Some a) (Some b) = not (a == b)
differs (Some a) None = false
differs None other = false

-- a declaration with another supertype than the first one
abbrev pub is_twice : Option Subtype → Subtype → Bool
is_twice first d = option_map_or (λ e. differs e.parent d.parent) first false

-- `object` lies on a cycle if it is declared with another supertype
abbrev pub is_cyclic : (ℕ → Bool) → Subtype → Bool
is_cyclic on_cycle d = if d.name == 0 then differs (Some 0) d.parent else on_cycle d.name

-- the faults of declarations, by the first declaration of each type and the types on cycles
abbrev pub subtype_faults : (ℕ → Option Subtype) → (ℕ → Bool) → List Subtype → List Fault
subtype_faults first on_cycle [] = []
subtype_faults first on_cycle (d ∷ ds) =
    faults_if (is_twice (first d.name) d) (fault TwiceDeclared d.at)
    (faults_if (is_cyclic on_cycle d) (fault TypeCycle d.at) (subtype_faults first on_cycle ds))

-- the faults of the section at `home`
abbrev pub types_faults : ℕ → Forms → List Fault
types_faults home f =
    typed_faults false (λ t. true) home true f
    ++ (let ds = declared false f in subtype_faults (first_of_name (subtypes ds)) (lies_on_cycle (supertypes ds)) (subtypes ds))
