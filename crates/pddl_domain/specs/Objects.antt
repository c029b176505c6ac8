-- The sections of the objects, first a domain's constants and then a problem's objects: their meaning and their faults.
use Rattle.std.specs.Prelude.{◌≡◌, ℕ, ◌<◌, ◌&&◌, not, nat_le, Bool, true, false, if◌then◌else◌, List, [], ◌∷◌, ◌++◌, length, slice_get, Option, Some, None, option_and_then}
use Rattle.std.specs.List.{All}
use Rattle.std.specs.Option.{option_map, option_map_or, IfSome}
use Rattle.sexp.specs.Forms.{Forms}
use Rattle.pddl_names.specs.Names.{same_text, place_of, number_of, is_there, with_name}
use Rattle.pddl_syntax.specs.declared.fault.Fault.{Fault}
use Rattle.pddl_syntax.specs.declared.fault.FaultKind.TheVariants.{TwiceDeclared, Limit}
use Rattle.pddl_syntax.specs.declared.fault.LimitedTable.TheVariants.{Objects as TooManyObjects}
use Rattle.pddl_syntax.specs.Faults.{fault, faults_if}
use Rattle.pddl_syntax.specs.Typed.{Declared, declared, typed_faults}
use Rattle.pddl_domain.specs.Types.{with_parent}
use Rattle.pddl_domain.specs.Limits.{max_objects}

-- The names of the objects, the number of each one's type at its first declaration, the names of the types that follow
-- objects, and for each object the number of its type's name among these, if it can be read.
pub record Objects : Type 0 where
  pub names : List (List ℕ)
  pub types : List ℕ
  pub texts : List (List ℕ)
  pub firsts : List (Option ℕ)

-- an empty table of objects
abbrev pub no_objects : Objects
no_objects = record { names = []; types = []; texts = []; firsts = [] }

-- the objects with one more, with the numbers of its type and of that type's name, unless one with this name is
-- declared
abbrev pub with_entry : Objects → List ℕ → ℕ → Option ℕ → Objects
with_entry o t type text =
    if is_there o.names t then o
    else record { names = with_name o.names t; types = o.types ++ type ∷ []; texts = o.texts; firsts = o.firsts ++ text ∷ [] }

-- the objects with the name of this type among the texts
abbrev pub with_text : Objects → Option (List ℕ) → Objects
with_text o p = record { names = o.names; types = o.types; texts = with_parent o.texts p; firsts = o.firsts }

-- the number of the type with this name, or that of `object` if the type cannot be read
abbrev pub number_of_type : List (List ℕ) → Option (List ℕ) → ℕ
number_of_type types p = option_map_or (number_of types) p 0

-- the objects with that of the declaration
abbrev pub with_object : List (List ℕ) → Objects → Declared → Objects
with_object types o d =
    with_entry (with_text o d.parent) d.name (number_of_type types d.parent) (option_map (number_of (with_parent o.texts d.parent)) d.parent)

-- the objects with those of the declarations
abbrev pub objects_with : List (List ℕ) → Objects → List Declared → Objects
objects_with types o [] = o
objects_with types o (d ∷ ds) = objects_with types (with_object types o d) ds

-- the number in `texts` of the type at the first declaration of this name
abbrev pub first_text : Objects → List ℕ → Option ℕ
first_text o t = option_and_then (λ n. option_and_then (λ text. text) (slice_get o.firsts n)) (place_of o.names t)

-- the name of the type at the first declaration of this name
abbrev pub first_type : Objects → List ℕ → Option (List ℕ)
first_type o t = option_and_then (slice_get o.texts) (first_text o t)

-- both texts are present, and they differ
abbrev pub differs_text : Option (List ℕ) → Option (List ℕ) → Bool
differs_text (Some a) (Some b) = not (same_text a b)
differs_text (Some a) None = false
differs_text None other = false

-- each first type that can be read is one of the texts
abbrev pub AreTexts : List (List ℕ) → List (Option ℕ) → Type 0
AreTexts texts firsts = All (λ first. IfSome first (λ n. n < length texts)) firsts

-- the faults of a declaration that follows those of the objects, followed by other faults; the name of its type is one
-- of the texts
abbrev pub declaration_faults : Objects → Declared → List Fault → List Fault
declaration_faults o d rest =
    faults_if (differs_text (first_type o d.name) d.parent) (fault TwiceDeclared d.at)
    (faults_if (not (is_there o.names d.name) && nat_le max_objects (length o.names)) (fault (Limit TooManyObjects) d.at) rest)

-- the faults of declarations that follow those of the objects
abbrev pub object_faults : List (List ℕ) → Objects → List Declared → List Fault
object_faults types o [] = []
object_faults types o (d ∷ ds) = declaration_faults (with_text o d.parent) d (object_faults types (with_object types o d) ds)

-- the faults of the section of objects at `home`, which follows the declarations of the objects
abbrev pub objects_faults : List (List ℕ) → Objects → ℕ → Forms → List Fault
objects_faults types o home f = typed_faults false (is_there types) home true f ++ object_faults types o (declared false f)

-- the number of a type's name, which is one of the texts, or none if the type cannot be read
abbrev pub IsTextOf : List (List ℕ) → Option (List ℕ) → Option ℕ → Type 0
IsTextOf texts None number = number ≡ None
IsTextOf texts (Some t) number = (is_there texts t ≡ true) × (number ≡ Some (number_of texts t))
