-- Steps through the declarations of types.
use Rattle.std.proofs.Common.{◌≡◌, ◌<◌, ◌≤◌, ◌+◌, ◌-◌, take, ℕ, Bool, true, false, cond, eqb, List, [], ◌∷◌, ◌++◌, length, map, drop, get_or, refl, sym, ap, subst, ◌∙◌, arith, append_assoc}
use Rattle.std.specs.Prelude.{Option, Some, None, unwrap_or, codes}
use Rattle.std.specs.List.{All, AllByRecursion, range_with_len}
use Rattle.std.specs.Option.{option_map, IfSome}
use Rattle.std.specs.String.{string_bytes}
use Rattle.std.proofs.lemmas.List.{take_rest, take_more}
use Rattle.std.proofs.lemmas.List.Elements.{All-from_recursion, recursion_from_All, All-same}
use Rattle.std.proofs.lemmas.List.FromFn.{length-map-range_with_len, get_or-map-range_with_len}
use Rattle.pddl_names.specs.Names.{is_there, number_of, with_name}
use Rattle.pddl_names.proofs.NameLists.{with_name-there, number_of-there, is_there-with_name_kept, is_there-with_name_itself}
use Rattle.pddl_syntax.specs.declared.fault.Fault.{Fault}
use Rattle.pddl_syntax.specs.declared.fault.FaultKind.TheVariants.{TwiceDeclared, TypeCycle}
use Rattle.pddl_syntax.specs.Faults.{fault, faults_if}
use Rattle.pddl_syntax.specs.declared.typed.Named.{Named}
use Rattle.pddl_syntax.specs.declared.typed.Run.{Run}
use Rattle.pddl_syntax.specs.Typed.{Declared, spread, spread_run, with_type}
use Rattle.pddl_syntax.specs.Parameters.{names_with}
use Rattle.pddl_syntax.proofs.ParameterSteps.{spread_at, listed_at}
use Rattle.pddl_domain.specs.declared.types.Subtype.{Subtype}
use Rattle.pddl_domain.specs.Types.{with_parent, all_types, type_names, numbered, first_of_name, first_parent, parent_of, parents, is_twice, is_cyclic, subtype_faults}

-- ---- the names

-- the supertype is there, where one can be read
abbrev HasParent : List (List ℕ) → Option (List ℕ) → Type 0
HasParent names None = Unit {0}
HasParent names (Some t) = is_there names t ≡ true

has_parent : (names : List (List ℕ)) (p : Option (List ℕ)) → HasParent (with_parent names p) p
has_parent names None = tt
has_parent names (Some t) = is_there-with_name_itself names t

parent_kept : (names : List (List ℕ)) (s : List ℕ) (p : Option (List ℕ)) → HasParent names p → HasParent (with_name names s) p
parent_kept names s None h = tt
parent_kept names s (Some t) h = is_there-with_name_kept names s t h

pub with_parent-there : (names : List (List ℕ)) (p : Option (List ℕ)) → HasParent names p → with_parent names p ≡ names
with_parent-there names None h = refl
with_parent-there names (Some t) h = with_name-there names t h

-- a supertype is there once it was added
pub with_parent-twice : (names : List (List ℕ)) (p : Option (List ℕ)) → with_parent (with_parent names p) p ≡ with_parent names p
with_parent-twice names p = with_parent-there (with_parent names p) p (has_parent names p)

only_names : (p : Option (List ℕ)) (ns : List Named) (names : List (List ℕ)) → HasParent names p → all_types names (map (with_type p) ns) ≡ names_with names (map (with_type p) ns)
only_names p [] names h = refl
only_names p (n ∷ ns) names h =
    let kept = parent_kept names (string_bytes n.name) p h in
    ap (λ (k : List (List ℕ)). all_types k (map (with_type p) ns)) (with_parent-there (with_name names (string_bytes n.name)) p kept)
    ∙ only_names p ns (with_name names (string_bytes n.name)) kept

-- the types of a run: its first name, its supertype, and the other names
pub types_of_run : (p : Option (List ℕ)) (n : Named) (ns : List Named) (names : List (List ℕ))
    → all_types names (map (with_type p) (n ∷ ns)) ≡ names_with (with_parent (with_name names (string_bytes n.name)) p) (map (with_type p) ns)
types_of_run p n ns names =
    only_names p ns (with_parent (with_name names (string_bytes n.name)) p) (has_parent (with_name names (string_bytes n.name)) p)

all_types-append : (names : List (List ℕ)) (ds es : List Declared) → all_types names (ds ++ es) ≡ all_types (all_types names ds) es
all_types-append names [] es = refl
all_types-append names (d ∷ ds) es = all_types-append (with_parent (with_name names d.name) d.parent) ds es

pub types_run : (names new : List (List ℕ)) (rs : List Run) (i : ℕ) (r : Run) → i < length rs → r ≡ get_or rs i r → new ≡ all_types names (spread_run r)
    → all_types new (spread (drop (i + 1) rs)) ≡ all_types names (spread (drop i rs))
types_run names new rs i r lt is e =
    ap (λ (k : List (List ℕ)). all_types k (spread (drop (i + 1) rs))) e
    ∙ sym (all_types-append names (spread_run r) (spread (drop (i + 1) rs)))
    ∙ sym (ap (all_types names) (spread_at rs i r lt is))

-- ---- the numbers

map_append : {A B : Type 0} (f : A → B) (xs ys : List A) → map f (xs ++ ys) ≡ map f xs ++ map f ys
map_append f [] ys = refl
map_append f (x ∷ xs) ys = ap (λ (zs : List _). f x ∷ zs) (map_append f xs ys)

-- one more item of a list that is mapped from its start
pub mapped_more : {A B : Type 0} (f : A → B) (xs : List A) (i : ℕ) (d : A) (old new : List B) → i < length xs → old ≡ map f (take i xs) → new ≡ old ++ f (get_or xs i d) ∷ []
    → new ≡ map f (take (i + 1) xs)
mapped_more f xs i d old new lt e grown =
    grown ∙ ap (λ (ys : List _). ys ++ f (get_or xs i d) ∷ []) e ∙ sym (map_append f (take i xs) (get_or xs i d ∷ []))
    ∙ sym (ap (map f) (take_more xs i d lt))

pub numbers_run : (names : List (List ℕ)) (old new : List Subtype) (rs : List Run) (i : ℕ) (r : Run) → i < length rs → r ≡ get_or rs i r → new ≡ old ++ map (numbered names) (spread_run r)
    → new ++ map (numbered names) (spread (drop (i + 1) rs)) ≡ old ++ map (numbered names) (spread (drop i rs))
numbers_run names old new rs i r lt is e =
    let rest = spread (drop (i + 1) rs) in
    ap (λ (xs : List Subtype). xs ++ map (numbered names) rest) e
    ∙ append_assoc old (map (numbered names) (spread_run r)) (map (numbered names) rest)
    ∙ ap (λ (xs : List Subtype). old ++ xs) (sym (map_append (numbered names) (spread_run r) rest))
    ∙ ap (λ (ds : List Declared). old ++ map (numbered names) ds) (sym (spread_at rs i r lt is))

-- a declaration's numbers are of this many types
pub record IsWithin (count : ℕ) (d : Subtype) : Type 0 where
  pub name : d.name < count
  pub parent : IfSome d.parent (λ p. p < count)

there_with_parent : (names : List (List ℕ)) (p : Option (List ℕ)) (t : List ℕ) → is_there names t ≡ true → is_there (with_parent names p) t ≡ true
there_with_parent names None t h = h
there_with_parent names (Some s) t h = is_there-with_name_kept names s t h

there_stays : (names : List (List ℕ)) (ds : List Declared) (t : List ℕ) → is_there names t ≡ true → is_there (all_types names ds) t ≡ true
there_stays names [] t h = h
there_stays names (d ∷ ds) t h =
    there_stays (with_parent (with_name names d.name) d.parent) ds t
    (there_with_parent (with_name names d.name) d.parent t (is_there-with_name_kept names d.name t h))

parent_stays : (names : List (List ℕ)) (ds : List Declared) (p : Option (List ℕ)) → HasParent names p → HasParent (all_types names ds) p
parent_stays names ds None h = tt
parent_stays names ds (Some t) h = there_stays names ds t h

parent_within : (names : List (List ℕ)) (p : Option (List ℕ)) → HasParent names p → IfSome (option_map (number_of names) p) (λ n. n < length names)
parent_within names None h = tt
parent_within names (Some t) h = number_of-there names t h

within_by : (all names : List (List ℕ)) (ds : List Declared) → all_types names ds ≡ all → AllByRecursion (IsWithin (length all)) (map (numbered all) ds)
within_by all names [] e = tt
within_by all names (d ∷ ds) e =
    let next = with_parent (with_name names d.name) d.parent in
    let named : is_there all d.name ≡ true = subst (λ (k : List (List ℕ)). is_there k d.name ≡ true) e
    (there_stays next ds d.name (there_with_parent (with_name names d.name) d.parent d.name (is_there-with_name_itself names d.name))) in
    let has : HasParent all d.parent = subst (λ (k : List (List ℕ)). HasParent k d.parent) e (parent_stays next ds d.parent (has_parent (with_name names d.name) d.parent)) in
    (record { name = number_of-there all d.name named; parent = parent_within all d.parent has }, within_by all next ds e)

weaker_by : (P Q : Subtype → Type 0) → ((d : Subtype) → P d → Q d) → (ds : List Subtype) → AllByRecursion P ds → AllByRecursion Q ds
weaker_by P Q f [] h = tt
weaker_by P Q f (d ∷ ds) h = (f d h.0, weaker_by P Q f ds h.1)

each_within : (Q : ℕ → Subtype → Type 0) → ((m : ℕ) (d : Subtype) → IsWithin m d → Q m d) → (names : List (List ℕ)) (ds : List Declared) (xs : List Subtype) (n : ℕ)
    → names ≡ type_names ds → xs ≡ map (numbered names) ds → n ≡ length names → All (Q n) xs
each_within Q f names ds xs n named is n_is =
    let all : AllByRecursion (IsWithin (length names)) (map (numbered names) ds) = within_by names (codes "object" ∷ []) ds (sym named) in
    subst (λ (m : ℕ). All (Q m) xs) (sym n_is)
    (All-same (Q (length names)) xs (map (numbered names) ds) is
    (All-from_recursion (Q (length names)) (map (numbered names) ds) (weaker_by (IsWithin (length names)) (Q (length names)) (f (length names)) (map (numbered names) ds) all)))

-- the numbers of declarations are of the types that they name
pub names_within : (names : List (List ℕ)) (ds : List Declared) (xs : List Subtype) (n : ℕ)
    → names ≡ type_names ds → xs ≡ map (numbered names) ds → n ≡ length names → All (λ (d : Subtype). d.name < n) xs
names_within = each_within (λ (m : ℕ) (d : Subtype). d.name < m) (λ m d h. h.name)

pub supertypes_within : (names : List (List ℕ)) (ds : List Declared) (xs : List Subtype) (n : ℕ)
    → names ≡ type_names ds → xs ≡ map (numbered names) ds → n ≡ length names → All (λ (d : Subtype). IfSome d.parent (λ p. p < n)) xs
supertypes_within = each_within (λ (m : ℕ) (d : Subtype). IfSome d.parent (λ p. p < m)) (λ m d h. h.parent)

-- ---- the supertypes

first_parent-within : (count : ℕ) → 0 < count → (n : ℕ) (ds : List Subtype) → AllByRecursion (λ (d : Subtype). IfSome d.parent (λ p. p < count)) ds → parent_of ds n < count
first_parent-within count some n [] h = some
first_parent-within count some n (d ∷ ds) h = by (eqb d.name n) (first_parent-within count some n ds h.1)
  where
    own : (p : Option ℕ) → IfSome p (λ k. k < count) → unwrap_or p 0 < count
    own None within = some
    own (Some k) within = within

    by : (b : Bool) → parent_of ds n < count → first_parent (cond b (Some d) (first_of_name ds n)) < count
    by true later = own d.parent h.0
    by false later = later

pub parents_within : (count : ℕ) (ds : List Subtype) → All (λ (d : Subtype). IfSome d.parent (λ p. p < count)) ds → (xs : List ℕ) → xs ≡ parents ds count → All (λ (s : ℕ). s < length xs) xs
parents_within count ds h xs is k d lt =
    let long : length xs ≡ count = ap length is ∙ length-map-range_with_len (parent_of ds) 0 count in
    let short : k < count = omega (arith, long, lt) in
    let at : get_or xs k d ≡ parent_of ds k = ap (λ (ys : List ℕ). get_or ys k d) is ∙ get_or-map-range_with_len (parent_of ds) 0 count k k d short (omega arith) in
    omega (arith, at, long, first_parent-within count (omega (arith, short)) k ds (recursion_from_All (λ (e : Subtype). IfSome e.parent (λ p. p < count)) ds h))

pub parents_are : (ds : List Subtype) (count : ℕ) (firsts : List (Option Subtype)) → firsts ≡ map (first_of_name ds) (range_with_len 0 count) → map first_parent firsts ≡ parents ds count
parents_are ds count firsts is = ap (map first_parent) is ∙ each (range_with_len 0 count)
  where
    each : (ns : List ℕ) → map first_parent (map (first_of_name ds) ns) ≡ map (parent_of ds) ns
    each [] = refl
    each (n ∷ ns) = ap (λ (xs : List ℕ). parent_of ds n ∷ xs) (each ns)

-- ---- the faults

-- they depend on the first declaration and the cycles of the declared types alone
same_faults : (first other : ℕ → Option Subtype) (on_cycle other_cycle : ℕ → Bool) (ds : List Subtype)
    → AllByRecursion (λ (d : Subtype). (first d.name ≡ other d.name) × (on_cycle d.name ≡ other_cycle d.name)) ds
    → subtype_faults first on_cycle ds ≡ subtype_faults other other_cycle ds
same_faults first other on_cycle other_cycle [] h = refl
same_faults first other on_cycle other_cycle (d ∷ ds) h =
    ap (λ (f : Option Subtype). faults_if (is_twice f d) (fault TwiceDeclared d.at) (faults_if (is_cyclic on_cycle d) (fault TypeCycle d.at) (subtype_faults first on_cycle ds))) h.0.0
    ∙ ap (λ (b : Bool). faults_if (is_twice (other d.name) d) (fault TwiceDeclared d.at) (faults_if (cyclic b) (fault TypeCycle d.at) (subtype_faults first on_cycle ds))) h.0.1
    ∙ ap (λ (fs : List Fault). faults_if (is_twice (other d.name) d) (fault TwiceDeclared d.at) (faults_if (is_cyclic other_cycle d) (fault TypeCycle d.at) fs))
    (same_faults first other on_cycle other_cycle ds h.1)
  where
    cyclic : Bool → Bool
    cyclic b = is_cyclic (λ n. b) d

pub table_faults : (count : ℕ) (ds : List Subtype) → All (λ (d : Subtype). d.name < count) ds → (first : ℕ → Option Subtype) (on_cycle : ℕ → Bool)
    → (firsts : List (Option Subtype)) → firsts ≡ map first (range_with_len 0 count) → (marks : List Bool) → marks ≡ map on_cycle (range_with_len 0 count)
    → subtype_faults (λ n. get_or firsts n None) (λ n. get_or marks n false) ds ≡ subtype_faults first on_cycle ds
table_faults count ds h first on_cycle firsts firsts_are marks marks_are =
    same_faults (λ n. get_or firsts n None) first (λ n. get_or marks n false) on_cycle ds (each ds (recursion_from_All (λ (d : Subtype). d.name < count) ds h))
  where
    each : (es : List Subtype) → AllByRecursion (λ (d : Subtype). d.name < count) es
        → AllByRecursion (λ (d : Subtype). (get_or firsts d.name None ≡ first d.name) × (get_or marks d.name false ≡ on_cycle d.name)) es
    each [] g = tt
    each (d ∷ es) g = (
      (
        ap (λ (xs : List (Option Subtype)). get_or xs d.name None) firsts_are ∙ get_or-map-range_with_len first 0 count d.name d.name None g.0 (omega arith),
        ap (λ (xs : List Bool). get_or xs d.name false) marks_are ∙ get_or-map-range_with_len on_cycle 0 count d.name d.name false g.0 (omega arith),
      ),
      each es g.1,
    )

-- the first name of a list and the slice behind it
pub first_and_others : (ns : List Named) (n : Named) → 1 ≤ length ns → n ≡ get_or ns 0 n → ns ≡ n ∷ take (length ns - 1) (drop 1 ns)
first_and_others ns n some is =
    listed_at ns 0 n (omega (arith, some)) is ∙ ap (λ (xs : List Named). n ∷ xs) (sym (take_rest ns 1))
