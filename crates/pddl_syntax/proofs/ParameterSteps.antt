-- Steps through runs of declarations.
use Rattle.std.proofs.Common.{◌≡◌, ◌<◌, ◌+◌, suc, ℕ, List, [], ◌∷◌, ◌++◌, length, drop, map, get_or, refl, sym, ap, ◌∙◌, arith, append_assoc}
use Rattle.std.proofs.Math.Seq.{drop-cons}
use Rattle.std.specs.Prelude.{Option}
use Rattle.std.specs.Option.{option_map_or}
use Rattle.std.specs.String.{string_bytes}
use Rattle.pddl_names.specs.Names.{with_name, number_of}
use Rattle.pddl_syntax.specs.declared.fault.Fault.{Fault}
use Rattle.pddl_syntax.specs.Faults.{first_of}
use Rattle.pddl_syntax.specs.declared.typed.Named.{Named}
use Rattle.pddl_syntax.specs.declared.typed.Run.{Run}
use Rattle.pddl_syntax.specs.Typed.{Declared, spread, spread_run, with_type, parent_text}
use Rattle.pddl_syntax.specs.Parameters.{names_with, type_number, run_type, variable_faults}

-- the list from a place on
pub listed_at : {A : Type 0} (xs : List A) (i : ℕ) (x : A) → i < length xs → x ≡ get_or xs i x → drop i xs ≡ x ∷ drop (i + 1) xs
listed_at xs i x lt is =
    drop-cons xs i x lt ∙ ap (λ (u : _). u ∷ drop (suc i) xs) (sym is) ∙ ap (λ (k : ℕ). x ∷ drop k xs) (let e : suc i ≡ i + 1 = omega arith in e)

-- what the runs from a place on declare
pub spread_at : (rs : List Run) (i : ℕ) (r : Run) → i < length rs → r ≡ get_or rs i r → spread (drop i rs) ≡ spread_run r ++ spread (drop (i + 1) rs)
spread_at rs i r lt is = ap spread (listed_at rs i r lt is)

pub names_with_append : (names : List (List ℕ)) (ds es : List Declared) → names_with names (ds ++ es) ≡ names_with (names_with names ds) es
names_with_append names [] es = refl
names_with_append names (d ∷ ds) es = names_with_append (with_name names d.name) ds es

-- each declaration of a run has the run's type
pub run_types : (types : List (List ℕ)) (p : Option (List ℕ)) (ns : List Named)
    → map (λ (d : Declared). option_map_or (number_of types) p 0) (map (with_type p) ns) ≡ map (type_number types) (map (with_type p) ns)
run_types types p [] = refl
run_types types p (n ∷ ns) = ap (λ (xs : List ℕ). option_map_or (number_of types) p 0 ∷ xs) (run_types types p ns)

map_append : {A B : Type 0} (f : A → B) (xs ys : List A) → map f (xs ++ ys) ≡ map f xs ++ map f ys
map_append f [] ys = refl
map_append f (x ∷ xs) ys = ap (λ (zs : List _). f x ∷ zs) (map_append f xs ys)

-- a run's names are added
pub names_run : (names new : List (List ℕ)) (rs : List Run) (i : ℕ) (r : Run) → i < length rs → r ≡ get_or rs i r → new ≡ names_with names (spread_run r)
    → names_with new (spread (drop (i + 1) rs)) ≡ names_with names (spread (drop i rs))
names_run names new rs i r lt is e =
    ap (λ (k : List (List ℕ)). names_with k (spread (drop (i + 1) rs))) e
    ∙ sym (names_with_append names (spread_run r) (spread (drop (i + 1) rs)))
    ∙ sym (ap (names_with names) (spread_at rs i r lt is))

-- a run's types are added
pub types_run : (types : List (List ℕ)) (old new : List ℕ) (rs : List Run) (i : ℕ) (r : Run) (n : ℕ) → i < length rs → r ≡ get_or rs i r → n ≡ run_type types r
    → new ≡ old ++ map (λ (d : Declared). n) (spread_run r)
    → new ++ map (type_number types) (spread (drop (i + 1) rs)) ≡ old ++ map (type_number types) (spread (drop i rs))
types_run types old new rs i r n lt is n_is e =
    let rest = spread (drop (i + 1) rs) in
    ap (λ (xs : List ℕ). xs ++ map (type_number types) rest) (
    e ∙ ap (λ (k : ℕ). old ++ map (λ (d : Declared). k) (spread_run r)) n_is
    ∙ ap (λ (xs : List ℕ). old ++ xs) (run_types types (parent_text r) r.names.items))
    ∙ append_assoc old (map (type_number types) (spread_run r)) (map (type_number types) rest)
    ∙ ap (λ (xs : List ℕ). old ++ xs) (sym (map_append (type_number types) (spread_run r) rest))
    ∙ ap (λ (ds : List Declared). old ++ map (type_number types) ds) (sym (spread_at rs i r lt is))

-- a run's variables are looked at
pub variables_run : (first new_first : Option Fault) (names new_names : List (List ℕ)) (count new_count : ℕ) (rs : List Run) (i : ℕ) (r : Run) → i < length rs → r ≡ get_or rs i r
    → ((rest : List Declared) → first_of first (variable_faults names count (spread_run r ++ rest)) ≡ first_of new_first (variable_faults new_names new_count rest))
    → first_of new_first (variable_faults new_names new_count (spread (drop (i + 1) rs))) ≡ first_of first (variable_faults names count (spread (drop i rs)))
variables_run first new_first names new_names count new_count rs i r lt is step =
    sym (ap (λ (ds : List Declared). first_of first (variable_faults names count ds)) (spread_at rs i r lt is) ∙ step (spread (drop (i + 1) rs)))

-- ---- one name of a run

-- the declarations of the names from a place on
pub run_at : (p : Option (List ℕ)) (ns ms : List Named) (i : ℕ) (n : Named) → ms ≡ ns → i < length ms → n ≡ get_or ms i n
    → map (with_type p) (drop i ns) ≡ with_type p n ∷ map (with_type p) (drop (i + 1) ns)
run_at p ns ms i n same lt is =
    ap (λ (xs : List Named). map (with_type p) (drop i xs)) (sym same)
    ∙ ap (map (with_type p)) (listed_at ms i n lt is)
    ∙ ap (λ (xs : List Named). with_type p n ∷ map (with_type p) (drop (i + 1) xs)) same

pub name_added : (p : Option (List ℕ)) (names new : List (List ℕ)) (ns ms : List Named) (i : ℕ) (n : Named) → ms ≡ ns → i < length ms → n ≡ get_or ms i n → new ≡ with_name names (string_bytes n.name)
    → names_with new (map (with_type p) (drop (i + 1) ns)) ≡ names_with names (map (with_type p) (drop i ns))
name_added p names new ns ms i n same lt is e =
    ap (λ (k : List (List ℕ)). names_with k (map (with_type p) (drop (i + 1) ns))) e
    ∙ sym (ap (names_with names) (run_at p ns ms i n same lt is))

pub type_added : (p : Option (List ℕ)) (k : ℕ) (old new : List ℕ) (ns ms : List Named) (i : ℕ) (n : Named) → ms ≡ ns → i < length ms → n ≡ get_or ms i n → new ≡ old ++ k ∷ []
    → new ++ map (λ (d : Declared). k) (map (with_type p) (drop (i + 1) ns)) ≡ old ++ map (λ (d : Declared). k) (map (with_type p) (drop i ns))
type_added p k old new ns ms i n same lt is e =
    let rest = map (λ (d : Declared). k) (map (with_type p) (drop (i + 1) ns)) in
    ap (λ (xs : List ℕ). xs ++ rest) e
    ∙ append_assoc old (k ∷ []) rest
    ∙ sym (ap (λ (ds : List Declared). old ++ map (λ (d : Declared). k) ds) (run_at p ns ms i n same lt is))

pub variable_added : (p : Option (List ℕ)) (first new_first : Option Fault) (names new_names : List (List ℕ)) (count new_count : ℕ) (ns ms : List Named) (i : ℕ) (n : Named) (rest : List Declared)
    → ms ≡ ns → i < length ms → n ≡ get_or ms i n
    → ((q : Option (List ℕ)) (later : List Declared) → first_of first (variable_faults names count (with_type q n ∷ later)) ≡ first_of new_first (variable_faults new_names new_count later))
    → first_of new_first (variable_faults new_names new_count (map (with_type p) (drop (i + 1) ns) ++ rest)) ≡ first_of first (variable_faults names count (map (with_type p) (drop i ns) ++ rest))
variable_added p first new_first names new_names count new_count ns ms i n rest same lt is step =
    sym (ap (λ (ds : List Declared). first_of first (variable_faults names count (ds ++ rest))) (run_at p ns ms i n same lt is)
    ∙ step p (map (with_type p) (drop (i + 1) ns) ++ rest))
