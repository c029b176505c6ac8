-- A domain's types, constants, predicates and functions in sections of one shape, and their faults.
use Rattle.std.proofs.Common.{◌≡◌, ℕ, ◌+◌, ◌==◌, ◌&&◌, not, nat_le, Bool, true, false, cond, List, [], ◌∷◌, map, length, codes, refl, sym, ap, ap₂, ◌∙◌, if◌then◌else◌}
use Rattle.std.specs.Prelude.{Option, Some, None}
use Rattle.std.specs.Option.{option_map}
use Rattle.std.specs.List.{range_with_len}
use Rattle.std.proofs.lemmas.List.{length-map}
use Rattle.sexp.specs.Forms.{Forms, none, word, group}
use Rattle.pddl_names.specs.Names.{same_text, is_there}
use Rattle.pddl_syntax.specs.declared.word.WordKind.{WordKind}
use Rattle.pddl_syntax.specs.declared.word.WordKind.TheVariants.{Dash, Name}
use Rattle.pddl_syntax.specs.declared.fault.Fault.{Fault}
use Rattle.pddl_syntax.specs.declared.fault.FaultKind.TheVariants.{Shape, Unsupported, TwiceDeclared, TypeCycle, Limit}
use Rattle.pddl_syntax.specs.declared.fault.LimitedTable.{LimitedTable}
use Rattle.pddl_syntax.specs.declared.fault.LimitedTable.TheVariants.{Predicates, Functions, Objects as TooManyObjects}
use Rattle.pddl_syntax.specs.Faults.{fault}
use Rattle.pddl_syntax.specs.Words.{word_kind}
use Rattle.pddl_syntax.specs.Heads.{Heads, with_head}
use Rattle.pddl_syntax.specs.Typed.{Declared, declared}
use Rattle.pddl_domain.specs.declared.types.Subtype.{Subtype}
use Rattle.pddl_domain.specs.Cycles.{lies_on_cycle}
use Rattle.pddl_domain.specs.Types.{with_parent, all_types, type_names, numbered, subtypes, first_of_name, first_parent, parent_of, parents, supertypes, is_twice, is_cyclic, subtype_faults, types_faults}
use Rattle.pddl_domain.specs.Objects.{Objects, with_text, with_object, objects_with, first_type, differs_text, object_faults, objects_faults}
use Rattle.pddl_domain.specs.DeclaredHeads.{with_item, past_limit, item_faults, is_equals, predicate_heads, predicates_faults, by_hyphen, function_heads, heads_behind, word_faults, functions_faults, faults_behind}
use Rattle.pddl_domain.specs.Limits.{max_heads, max_objects}
use Rattle.pddl_names.specs.Names.{with_name}
use Rattle.pddl_layout.specs.Shapes.{erased}
use Rattle.pddl_layout.proofs.Alike.{Alike, faulty, clear, both, chosen, tested, tested_both}
use Rattle.pddl_layout.proofs.TypedShapes.{unplaced, declared_erased, type_group_alike, typed_alike, parameters_alike}

-- ---- types

all_unplaced : (names : List (List ℕ)) (ds : List Declared) → all_types names (map unplaced ds) ≡ all_types names ds
all_unplaced names [] = refl
all_unplaced names (d ∷ ds) = all_unplaced (with_parent (with_name names d.name) d.parent) ds

names_unplaced : (ds : List Declared) → type_names (map unplaced ds) ≡ type_names ds
names_unplaced ds = all_unplaced (codes "object" ∷ []) ds

pub type_names_erased : (f : Forms) → type_names (declared false (erased f)) ≡ type_names (declared false f)
type_names_erased f = ap type_names (declared_erased false f) ∙ names_unplaced (declared false f)

-- the declaration by numbers at place 0
abbrev still : Subtype → Subtype
still d = record { name = d.name; at = 0; parent = d.parent }

numbered_still : (names : List (List ℕ)) (ds : List Declared) → map (numbered names) (map unplaced ds) ≡ map still (map (numbered names) ds)
numbered_still names [] = refl
numbered_still names (d ∷ ds) = ap (λ (ss : List Subtype). still (numbered names d) ∷ ss) (numbered_still names ds)

subtypes_still : (ds : List Declared) → subtypes (map unplaced ds) ≡ map still (subtypes ds)
subtypes_still ds = ap (λ (names : List (List ℕ)). map (numbered names) (map unplaced ds)) (names_unplaced ds) ∙ numbered_still (type_names ds) ds

first_still : (ds : List Subtype) (n : ℕ) → first_of_name (map still ds) n ≡ option_map still (first_of_name ds n)
first_still [] n = refl
first_still (d ∷ ds) n = by (d.name == n) (first_still ds n) where
  by : (b : Bool) → first_of_name (map still ds) n ≡ option_map still (first_of_name ds n)
      → cond b (Some (still d)) (first_of_name (map still ds) n) ≡ option_map still (cond b (Some d) (first_of_name ds n))
  by true rest = refl
  by false rest = rest

first_parent_still : (o : Option Subtype) → first_parent (option_map still o) ≡ first_parent o
first_parent_still None = refl
first_parent_still (Some d) = refl

parent_still : (ds : List Subtype) (n : ℕ) → parent_of (map still ds) n ≡ parent_of ds n
parent_still ds n = ap first_parent (first_still ds n) ∙ first_parent_still (first_of_name ds n)

each_parent_still : (ds : List Subtype) (ns : List ℕ) → map (parent_of (map still ds)) ns ≡ map (parent_of ds) ns
each_parent_still ds [] = refl
each_parent_still ds (n ∷ ns) = ap₂ (λ (p : ℕ) (ps : List ℕ). p ∷ ps) (parent_still ds n) (each_parent_still ds ns)

supertypes_unplaced : (ds : List Declared) → supertypes (map unplaced ds) ≡ supertypes ds
supertypes_unplaced ds =
    ap₂ (λ (ss : List Subtype) (names : List (List ℕ)). parents ss (length names)) (subtypes_still ds) (names_unplaced ds)
    ∙ each_parent_still (subtypes ds) (range_with_len 0 (length (type_names ds)))

pub supertypes_erased : (f : Forms) → supertypes (declared false (erased f)) ≡ supertypes (declared false f)
supertypes_erased f = ap supertypes (declared_erased false f) ∙ supertypes_unplaced (declared false f)

twice_still : (o : Option Subtype) (d : Subtype) → is_twice o d ≡ is_twice (option_map still o) (still d)
twice_still None d = refl
twice_still (Some e) d = refl

subtype_alike : (first first2 : ℕ → Option Subtype) (on_cycle : ℕ → Bool) (ds : List Subtype) → ((n : ℕ) → first2 n ≡ option_map still (first n))
    → Alike (subtype_faults first on_cycle ds) (subtype_faults first2 on_cycle (map still ds))
subtype_alike first first2 on_cycle [] h = clear
subtype_alike first first2 on_cycle (d ∷ ds) h =
    tested_both (is_twice (first d.name) d) (is_twice (first2 d.name) (still d)) (fault TwiceDeclared d.at) (fault TwiceDeclared 0)
    (twice_still (first d.name) d ∙ ap (λ (o : Option Subtype). is_twice o (still d)) (sym (h d.name)))
    (tested (is_cyclic on_cycle d) (fault TypeCycle d.at) (fault TypeCycle 0) (subtype_alike first first2 on_cycle ds h))

-- the faults of declarations
abbrev declared_faults : List Declared → List Fault
declared_faults ds = subtype_faults (first_of_name (subtypes ds)) (lies_on_cycle (supertypes ds)) (subtypes ds)

subtypes_alike : (ds : List Declared) → Alike (declared_faults ds) (declared_faults (map unplaced ds))
subtypes_alike ds = rw (supertypes_unplaced ds, subtypes_still ds)
    (subtype_alike (first_of_name (subtypes ds)) (first_of_name (map still (subtypes ds))) (lies_on_cycle (supertypes ds)) (subtypes ds) (first_still (subtypes ds)))

pub types_alike : (h k : ℕ) (f : Forms) → Alike (types_faults h f) (types_faults k (erased f))
types_alike h k f = rw (declared_erased false f) (both (typed_alike false (λ t. true) h k true f) (subtypes_alike (declared false f)))

-- ---- objects

objects_unplaced : (types : List (List ℕ)) (o : Objects) (ds : List Declared) → objects_with types o (map unplaced ds) ≡ objects_with types o ds
objects_unplaced types o [] = refl
objects_unplaced types o (d ∷ ds) = objects_unplaced types (with_object types o d) ds

pub objects_erased : (types : List (List ℕ)) (o : Objects) (f : Forms) → objects_with types o (declared false (erased f)) ≡ objects_with types o (declared false f)
objects_erased types o f = ap (objects_with types o) (declared_erased false f) ∙ objects_unplaced types o (declared false f)

object_alike : (types : List (List ℕ)) (o : Objects) (ds : List Declared) → Alike (object_faults types o ds) (object_faults types o (map unplaced ds))
object_alike types o [] = clear
object_alike types o (d ∷ ds) =
    let p = with_text o d.parent in
    tested (differs_text (first_type p d.name) d.parent) (fault TwiceDeclared d.at) (fault TwiceDeclared 0)
    (tested (not (is_there p.names d.name) && nat_le max_objects (length p.names)) (fault (Limit TooManyObjects) d.at) (fault (Limit TooManyObjects) 0) (object_alike types (with_object types o d) ds))

pub objects_alike : (types : List (List ℕ)) (o : Objects) (h k : ℕ) (f : Forms) → Alike (objects_faults types o h f) (objects_faults types o k (erased f))
objects_alike types o h k f = rw (declared_erased false f) (both (typed_alike false (is_there types) h k true f) (object_alike types o (declared false f)))

-- ---- items of predicates and of functions

length_erased : (v : Bool) (f : Forms) → length (declared v (erased f)) ≡ length (declared v f)
length_erased v f = ap length (declared_erased v f) ∙ length-map (declared v f) unplaced

item_erased : (k : WordKind) (heads : Heads) (t : List ℕ) (f : Forms) → with_item k heads t (erased f) ≡ with_item k heads t f
item_erased Name heads t f = ap (with_head heads t) (length_erased true f)
item_erased kind heads t f = refl

past_alike : (table : LimitedTable) (n s z : ℕ) {a b : List Fault} → Alike a b → Alike (past_limit table n s a) (past_limit table n z b)
past_alike table n s z h = tested (nat_le max_heads n) (fault (Limit table) s) (fault (Limit table) z) h

item_alike : (known : List ℕ → Bool) (table : LimitedTable) (heads : Heads) (n s hs z hz : ℕ) (k : WordKind) (t : List ℕ) (f : Forms)
    → Alike (item_faults known table heads n s hs k t f) (item_faults known table heads n z hz k t (erased f))
item_alike known table heads n s hs z hz Name t f = past_alike table n s z (tested (is_there heads.names t) (fault TwiceDeclared hs) (fault TwiceDeclared hz) (parameters_alike known s z f))
item_alike known table heads n s hs z hz kind t f = past_alike table n s z faulty

-- ---- predicates

pub predicate_heads_erased : (heads : Heads) (f : Forms) → predicate_heads heads (erased f) ≡ predicate_heads heads f
predicate_heads_erased heads none = refl
predicate_heads_erased heads (word s e t f) = predicate_heads_erased heads f
predicate_heads_erased heads (group s e none f) = predicate_heads_erased heads f
predicate_heads_erased heads (group s e (group hs he h i) f) = predicate_heads_erased heads f
predicate_heads_erased heads (group s e (word hs he t i) f) =
    ap (λ (x : Heads). predicate_heads (if is_equals t then heads else x) (erased f)) (item_erased (word_kind t) heads t i)
    ∙ predicate_heads_erased (if is_equals t then heads else with_item (word_kind t) heads t i) f

pub predicates_alike : (known : List ℕ → Bool) (heads : Heads) (n : ℕ) (f : Forms) → Alike (predicates_faults known heads n f) (predicates_faults known heads n (erased f))
predicates_alike known heads n none = clear
predicates_alike known heads n (word s e t f) = faulty
predicates_alike known heads n (group s e none f) = faulty
predicates_alike known heads n (group s e (group hs he h i) f) = past_alike Predicates n s 0 faulty
predicates_alike known heads n (group s e (word hs he t i) f) =
    rw (item_erased (word_kind t) heads t i)
    (chosen (is_equals t) (predicates_alike known heads n f)
    (both (item_alike known Predicates heads n s hs 0 0 (word_kind t) t i) (predicates_alike known (with_item (word_kind t) heads t i) (n + 1) f)))

-- ---- functions

mutual
  pub function_heads_erased : (heads : Heads) (f : Forms) → function_heads heads (erased f) ≡ function_heads heads f
  function_heads_erased heads none = refl
  function_heads_erased heads (word s e t f) = ap₂ (by_hyphen (word_kind t)) (heads_behind_erased heads f) (function_heads_erased heads f)
  function_heads_erased heads (group s e none f) = function_heads_erased heads f
  function_heads_erased heads (group s e (group hs he h i) f) = function_heads_erased heads f
  function_heads_erased heads (group s e (word hs he t i) f) =
      ap (λ (x : Heads). function_heads x (erased f)) (item_erased (word_kind t) heads t i) ∙ function_heads_erased (with_item (word_kind t) heads t i) f

  heads_behind_erased : (heads : Heads) (f : Forms) → heads_behind heads (erased f) ≡ heads_behind heads f
  heads_behind_erased heads none = refl
  heads_behind_erased heads (word s e t f) = function_heads_erased heads f
  heads_behind_erased heads (group s e i f) = function_heads_erased heads f

word_alike : (s z : ℕ) (k : WordKind) (empty : Bool) {a b c d : List Fault} → Alike a c → Alike b d → Alike (word_faults s k empty a b) (word_faults z k empty c d)
word_alike s z Dash empty h k = tested empty (fault Shape s) (fault Shape z) h
word_alike s z kind empty h k = faulty

mutual
  pub functions_alike : (known : List ℕ → Bool) (h k : ℕ) (empty : Bool) (heads : Heads) (n : ℕ) (f : Forms)
      → Alike (functions_faults known h empty heads n f) (functions_faults known k empty heads n (erased f))
  functions_alike known h k empty heads n none = clear
  functions_alike known h k empty heads n (word s e t f) = word_alike s 0 (word_kind t) empty (behind_alike known h k heads n f) (functions_alike known h k empty heads n f)
  functions_alike known h k empty heads n (group s e none f) = faulty
  functions_alike known h k empty heads n (group s e (group hs he head i) f) = past_alike Functions n s 0 faulty
  functions_alike known h k empty heads n (group s e (word hs he t i) f) =
      rw (item_erased (word_kind t) heads t i)
      (both (item_alike known Functions heads n s hs 0 0 (word_kind t) t i) (functions_alike known h k false (with_item (word_kind t) heads t i) (n + 1) f))

  behind_alike : (known : List ℕ → Bool) (h k : ℕ) (heads : Heads) (n : ℕ) (f : Forms) → Alike (faults_behind known h heads n f) (faults_behind known k heads n (erased f))
  behind_alike known h k heads n none = faulty
  behind_alike known h k heads n (word s e t f) = tested (not (same_text t (codes "number"))) (fault Unsupported s) (fault Unsupported 0) (functions_alike known h k true heads n f)
  behind_alike known h k heads n (group s e i f) = both (type_group_alike s 0 i (erased i)) (functions_alike known h k true heads n f)
