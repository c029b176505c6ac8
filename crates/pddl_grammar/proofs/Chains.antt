-- A type is below another in the table of supertypes exactly where a chain of declarations leads to it.
use Rattle.std.proofs.Common.{◌≡◌, ◌<◌, ◌≤◌, ◌+◌, ◌-◌, ◌==◌, zero, suc, ℕ, Bool, true, false, not, nat_le, cond, ◌||◌, inl, inr, List, [], ◌∷◌, ◌++◌, length, map, get_or, codes, refl, sym, ap, subst, ◌∙◌, arith, if◌then◌else◌}
use Rattle.std.specs.Prelude.{Option, Some, None, unwrap_or, slice_get}
use Rattle.std.specs.List.{All, AllByRecursion, flat_map}
use Rattle.std.specs.Option.{option_map, option_map_or, IfSome}
use Rattle.std.proofs.lemmas.Bool.{eqb-true, eq-eqb, false≢true, leb-true, leb-false}
use Rattle.std.proofs.lemmas.List.Elements.{recursion_from_All}
use Rattle.std.proofs.lemmas.List.FromFn.{length-map-range_with_len, get_or-map-range_with_len}
use Rattle.sexp.specs.Forms.{Forms}
use Rattle.pddl_names.specs.Names.{is_there, number_of, with_name}
use Rattle.pddl_names.proofs.NameLists.{same_name, is_there-number, number_of-there, is_there-with_name_kept, number_of-with_name_kept}
use Rattle.pddl_task.specs.Planning.{PlanningTask, is_below, is_of_type}
use Rattle.pddl_syntax.specs.declared.fault.FaultKind.TheVariants.{TwiceDeclared, TypeCycle}
use Rattle.pddl_syntax.specs.Faults.{fault, faults_if}
use Rattle.pddl_syntax.specs.Typed.{Declared, declared, typed_faults}
use Rattle.pddl_domain.specs.declared.types.Subtype.{Subtype}
use Rattle.pddl_domain.specs.Types.{with_parent, all_types, type_names, numbered, subtypes, first_of_name, first_parent, parent_of, supertypes, differs, is_twice, is_cyclic, subtype_faults, types_faults}
use Rattle.pddl_domain.specs.Cycles.{ancestor, lies_on_cycle}
use Rattle.pddl_domain.proofs.Ancestors.{ancestor-add, ancestor-within, lies, ends_lie}
use Rattle.pddl_domain.proofs.TypeSteps.{names_within, supertypes_within, parents_within}
use Rattle.pddl_grammar.specs.Runs.{Placed, TypedRun, names_of, of_type, declared_by, declarations}
use Rattle.pddl_grammar.specs.Chains.{IsSupertype, Leads, IsBelow}
use Rattle.pddl_grammar.proofs.Runs.{parts_empty, runs_declared, faultless_runs}

-- ---- each declaration gives a supertype

abbrev HasType : Declared → Type 0
HasType d = (t : List ℕ) × (d.parent ≡ Some t)

names_typed : (t : List ℕ) (ws : List Placed) → AllByRecursion HasType (map (of_type t) ws)
names_typed t [] = tt
names_typed t (w ∷ ws) = ((t, refl), names_typed t ws)

both_typed : (ds es : List Declared) → AllByRecursion HasType ds → AllByRecursion HasType es → AllByRecursion HasType (ds ++ es)
both_typed [] es h k = k
both_typed (d ∷ ds) es h k = (h.0, both_typed ds es h.1 k)

runs_typed : (rs : List TypedRun) → AllByRecursion HasType (flat_map declared_by rs)
runs_typed [] = tt
runs_typed (r ∷ rs) = both_typed (declared_by r) (flat_map declared_by rs) (names_typed r.type.text (names_of r)) (runs_typed rs)

all_typed : (known : List ℕ → Bool) (home : ℕ) (f : Forms) → typed_faults false known home true f ≡ [] → AllByRecursion HasType (declared false f)
all_typed known home f h =
    let runs = faultless_runs false known home f h in
    let e : declared false f ≡ declarations runs.0 = ap (declared false) runs.2 ∙ runs_declared false known runs.0 runs.1 in
    subst (λ (ds : List Declared). AllByRecursion HasType ds) (sym e)
    (both_typed (flat_map declared_by runs.0.runs) (map (of_type (codes "object")) runs.0.last) (runs_typed runs.0.runs) (names_typed (codes "object") runs.0.last))

-- ---- what has no fault

record IsClean (first : ℕ → Option Subtype) (on_cycle : ℕ → Bool) (e : Subtype) : Type 0 where
  once : is_twice (first e.name) e ≡ false
  apart : is_cyclic on_cycle e ≡ false

all_clean : (first : ℕ → Option Subtype) (on_cycle : ℕ → Bool) (xs : List Subtype) → subtype_faults first on_cycle xs ≡ [] → AllByRecursion (IsClean first on_cycle) xs
all_clean first on_cycle [] h = tt
all_clean first on_cycle (x ∷ xs) h = by (is_twice (first x.name) x) (is_cyclic on_cycle x) refl refl h (all_clean first on_cycle xs)
  where
    by : (a b : Bool) → is_twice (first x.name) x ≡ a → is_cyclic on_cycle x ≡ b
        → faults_if a (fault TwiceDeclared x.at) (faults_if b (fault TypeCycle x.at) (subtype_faults first on_cycle xs)) ≡ []
        → (subtype_faults first on_cycle xs ≡ [] → AllByRecursion (IsClean first on_cycle) xs) → AllByRecursion (IsClean first on_cycle) (x ∷ xs)
    by true b p q k later = absurd cc
    by false true p q k later = absurd cc
    by false false p q k later = (record { once = p; apart = q }, later k)

-- ---- the first declaration of a type

found_has : (P : Subtype → Type 0) (n : ℕ) (xs : List Subtype) → AllByRecursion P xs → (e : Subtype) → first_of_name xs n ≡ Some e → P e × (e.name ≡ n)
found_has P n [] h e is = absurd cc
found_has P n (x ∷ xs) h e is = by (x.name == n) refl is (found_has P n xs h.1 e)
  where
    by : (b : Bool) → (x.name == n) ≡ b → cond b (Some x) (first_of_name xs n) ≡ Some e → (first_of_name xs n ≡ Some e → P e × (e.name ≡ n)) → P e × (e.name ≡ n)
    by true t k later = let same : x ≡ e = cc in (subst P same h.0, sym (ap (λ (d : Subtype). d.name) same) ∙ eqb-true x.name n t)
    by false t k later = later k

first_there : (names : List (List ℕ)) (ds : List Declared) (a c : List ℕ) → IsSupertype ds a c → (e : Subtype) × (first_of_name (map (numbered names) ds) (number_of names a) ≡ Some e)
first_there names [] a c h = absurd h
first_there names (d ∷ ds) a c (inl h) = (
  numbered names d,
  ap (λ (b : Bool). cond b (Some (numbered names d)) (first_of_name (map (numbered names) ds) (number_of names a)))
      (eq-eqb (number_of names d.name) (number_of names a) (ap (number_of names) h.name_is)),
)
first_there names (d ∷ ds) a c (inr h) = by (number_of names d.name == number_of names a) refl (first_there names ds a c h)
  where
    by : (b : Bool) → (number_of names d.name == number_of names a) ≡ b → (e : Subtype) × (first_of_name (map (numbered names) ds) (number_of names a) ≡ Some e)
        → (e : Subtype) × (first_of_name (map (numbered names) (d ∷ ds)) (number_of names a) ≡ Some e)
    by true t later = (numbered names d, ap (λ (b : Bool). cond b (Some (numbered names d)) (first_of_name (map (numbered names) ds) (number_of names a))) t)
    by false t later = (later.0, ap (λ (b : Bool). cond b (Some (numbered names d)) (first_of_name (map (numbered names) ds) (number_of names a))) t ∙ later.1)

-- another declaration of the type gives no other supertype
agrees : (names : List (List ℕ)) (first : ℕ → Option Subtype) (on_cycle : ℕ → Bool) (ds : List Declared) (a c : List ℕ) → AllByRecursion (IsClean first on_cycle) (map (numbered names) ds)
    → IsSupertype ds a c → option_map_or (λ (e : Subtype). differs e.parent (Some (number_of names c))) (first (number_of names a)) false ≡ false
agrees names first on_cycle [] a c clean h = absurd h
agrees names first on_cycle (d ∷ ds) a c clean (inl h) =
    ap (λ (n : List ℕ). option_map_or (λ (e : Subtype). differs e.parent (Some (number_of names c))) (first (number_of names n)) false) (sym h.name_is)
    ∙ ap (λ (p : Option (List ℕ)). option_map_or (λ (e : Subtype). differs e.parent (option_map (number_of names) p)) (first (number_of names d.name)) false) (sym h.parent_is)
    ∙ clean.0.once
agrees names first on_cycle (d ∷ ds) a c clean (inr h) = agrees names first on_cycle ds a c clean.1 h

-- ---- where a number of a declaration comes from

record From (whole : List Declared) (names : List (List ℕ)) (e : Subtype) : Type 0 where
  type : List ℕ
  above : List ℕ
  stated : IsSupertype whole type above
  name_is : e.name ≡ number_of names type
  parent_is : e.parent ≡ Some (number_of names above)
  type_there : is_there names type ≡ true
  above_there : is_there names above ≡ true

from_all : (whole : List Declared) (names : List (List ℕ)) (ds : List Declared) → ((a c : List ℕ) → IsSupertype ds a c → IsSupertype whole a c) → AllByRecursion HasType ds
    → AllByRecursion (λ (e : Subtype). e.name < length names) (map (numbered names) ds) → AllByRecursion (λ (e : Subtype). IfSome e.parent (λ p. p < length names)) (map (numbered names) ds)
    → AllByRecursion (From whole names) (map (numbered names) ds)
from_all whole names [] embed typed low high = tt
from_all whole names (d ∷ ds) embed typed low high = (
  record {
    type = d.name;
    above = typed.0.0;
    stated = embed d.name typed.0.0 (inl (record { name_is = refl; parent_is = typed.0.1 }));
    name_is = refl;
    parent_is = ap (option_map (number_of names)) typed.0.1;
    type_there = is_there-number names d.name low.0;
    above_there = is_there-number names typed.0.0
        (subst (λ (p : Option (List ℕ)). IfSome (option_map (number_of names) p) (λ n. n < length names)) typed.0.1 high.0);
  },
  from_all whole names ds (λ a c h. embed a c (inr h)) typed.1 low.1 high.1,
)

type_of_supertype : (names : List (List ℕ)) (ds : List Declared) (a c : List ℕ) → AllByRecursion (λ (e : Subtype). e.name < length names) (map (numbered names) ds) → IsSupertype ds a c → number_of names a < length names
type_of_supertype names [] a c low h = absurd h
type_of_supertype names (d ∷ ds) a c low (inl h) = subst (λ (t : List ℕ). number_of names t < length names) h.name_is low.0
type_of_supertype names (d ∷ ds) a c low (inr h) = type_of_supertype names ds a c low.1 h

-- ---- `object`

kept_by_parent : (names : List (List ℕ)) (p : Option (List ℕ)) (t : List ℕ) → is_there names t ≡ true → (is_there (with_parent names p) t ≡ true) × (number_of (with_parent names p) t ≡ number_of names t)
kept_by_parent names None t h = (h, refl)
kept_by_parent names (Some s) t h = (is_there-with_name_kept names s t h, number_of-with_name_kept names s t h)

kept_by_all : (names : List (List ℕ)) (ds : List Declared) (t : List ℕ) → is_there names t ≡ true → number_of (all_types names ds) t ≡ number_of names t
kept_by_all names [] t h = refl
kept_by_all names (d ∷ ds) t h =
    let named = is_there-with_name_kept names d.name t h in
    let both = kept_by_parent (with_name names d.name) d.parent t named in
    kept_by_all (with_parent (with_name names d.name) d.parent) ds t both.0 ∙ both.1 ∙ number_of-with_name_kept names d.name t h

there_in_all : (names : List (List ℕ)) (ds : List Declared) (t : List ℕ) → is_there names t ≡ true → is_there (all_types names ds) t ≡ true
there_in_all names [] t h = h
there_in_all names (d ∷ ds) t h =
    there_in_all (with_parent (with_name names d.name) d.parent) ds t (kept_by_parent (with_name names d.name) d.parent t (is_there-with_name_kept names d.name t h)).0

object_first : (ds : List Declared) → number_of (type_names ds) (codes "object") ≡ 0
object_first ds = kept_by_all (codes "object" ∷ []) ds (codes "object") refl

-- ---- tests and numbers

differs_not : (p q : ℕ) → differs (Some p) (Some q) ≡ false → p ≡ q
differs_not p q h = by (p == q) refl h where
  by : (b : Bool) → (p == q) ≡ b → not b ≡ false → p ≡ q
  by true e k = eqb-true p q e
  by false e k = absurd cc

or_true : (a b : Bool) → b ≡ true → (a || b) ≡ true
or_true true b e = refl
or_true false b e = e

below_by : (f : List ℕ) (y n : ℕ) (k x : ℕ) → k ≤ n → ancestor f k x ≡ y → is_below f x y n ≡ true
below_by f y zero zero x le e = eq-eqb x y e
below_by f y zero (suc k) x le e = absurd (omega (arith, le))
below_by f y (suc n) zero x le e = ap (λ (b : Bool). b || is_below f (get_or f x 0) y n) (eq-eqb x y e)
below_by f y (suc n) (suc k) x le e = or_true (x == y) (is_below f (get_or f x 0) y n) (below_by f y n k (get_or f x 0) (omega (arith, le)) e)

-- ---- a section without a fault

module _ (ds : List Declared) (typed : AllByRecursion HasType ds) (faultless : subtype_faults (first_of_name (subtypes ds)) (lies_on_cycle (supertypes ds)) (subtypes ds) ≡ []) where
  abbrev names : List (List ℕ)
  names = type_names ds

  abbrev table : List ℕ
  table = supertypes ds

  clean : AllByRecursion (IsClean (first_of_name (subtypes ds)) (lies_on_cycle table)) (subtypes ds)
  clean = all_clean (first_of_name (subtypes ds)) (lies_on_cycle table) (subtypes ds) faultless

  low : AllByRecursion (λ (e : Subtype). e.name < length names) (subtypes ds)
  low = recursion_from_All (λ (e : Subtype). e.name < length names) (subtypes ds) (names_within names ds (subtypes ds) (length names) refl refl refl)

  origins : AllByRecursion (From ds names) (subtypes ds)
  origins =
      from_all ds names ds (λ a c h. h) typed low
      (recursion_from_All (λ (e : Subtype). IfSome e.parent (λ p. p < length names)) (subtypes ds) (supertypes_within names ds (subtypes ds) (length names) refl refl refl))

  long : length table ≡ length names
  long = length-map-range_with_len (parent_of (subtypes ds)) 0 (length names)

  within : All (λ (s : ℕ). s < length table) table
  within = parents_within (length names) (subtypes ds) (supertypes_within names ds (subtypes ds) (length names) refl refl refl) table refl

  at : (n : ℕ) → n < length names → get_or table n 0 ≡ parent_of (subtypes ds) n
  at n lt = get_or-map-range_with_len (parent_of (subtypes ds)) 0 (length names) n n 0 lt (omega arith)

  object_number : number_of names (codes "object") ≡ 0
  object_number = object_first ds

  -- a declared supertype is the one in the table
  step_up : (a c : List ℕ) → IsSupertype ds a c → get_or table (number_of names a) 0 ≡ number_of names c
  step_up a c h =
      let first = first_there names ds a c h in
      let from = found_has (From ds names) (number_of names a) (subtypes ds) origins first.0 first.1 in
      let agree : option_map_or (λ (e : Subtype). differs e.parent (Some (number_of names c))) (first_of_name (subtypes ds) (number_of names a)) false ≡ false =
      agrees names (first_of_name (subtypes ds)) (lies_on_cycle table) ds a c clean h in
      let same : differs (Some (number_of names from.0.above)) (Some (number_of names c)) ≡ false =
      ap (λ (p : Option ℕ). differs p (Some (number_of names c))) (sym from.0.parent_is)
      ∙ ap (λ (o : Option Subtype). option_map_or (λ (e : Subtype). differs e.parent (Some (number_of names c))) o false) (sym first.1)
      ∙ agree in
      at (number_of names a) (type_of_supertype names ds a c low h)
      ∙ ap first_parent first.1
      ∙ ap (λ (p : Option ℕ). unwrap_or p 0) from.0.parent_is
      ∙ differs_not (number_of names from.0.above) (number_of names c) same

  leads_up : (a : List ℕ) (chain : List (List ℕ)) (b : List ℕ) → Leads ds a chain b → ancestor table (length chain) (number_of names a) ≡ number_of names b
  leads_up a [] b h = ap (number_of names) h
  leads_up a (c ∷ chain) b h = ap (ancestor table (length chain)) (step_up a c h.0) ∙ leads_up c chain b h.1

  -- ---- `object` is its own supertype, and above all

  cyclic_root : (e : Subtype) → e.name ≡ 0 → is_cyclic (lies_on_cycle table) e ≡ false → unwrap_or e.parent 0 ≡ 0
  cyclic_root e is h =
      let away : differs (Some 0) e.parent ≡ false =
      ap (λ (b : Bool). if b then differs (Some 0) e.parent else lies_on_cycle table e.name) (sym (eq-eqb e.name 0 is)) ∙ h in
      by e.parent refl away
    where
      by : (p : Option ℕ) → e.parent ≡ p → differs (Some 0) p ≡ false → unwrap_or p 0 ≡ 0
      by None q k = refl
      by (Some n) q k = sym (differs_not 0 n k)

  object_there : is_there names (codes "object") ≡ true
  object_there = there_in_all (codes "object" ∷ []) ds (codes "object") refl

  some : 0 < length names
  some = let lt = number_of-there names (codes "object") object_there in omega (arith, lt, object_number)

  root : get_or table 0 0 ≡ 0
  root = at 0 some ∙ by (first_of_name (subtypes ds) 0) refl
    where
      by : (o : Option Subtype) → first_of_name (subtypes ds) 0 ≡ o → first_parent o ≡ 0
      by None q = refl
      by (Some e) q = let found = found_has (IsClean (first_of_name (subtypes ds)) (lies_on_cycle table)) 0 (subtypes ds) clean e q in cyclic_root e found.1 found.0.apart

  stays : (steps : ℕ) → ancestor table steps 0 ≡ 0
  stays zero = refl
  stays (suc steps) = ap (ancestor table steps) root ∙ stays steps

  stays_below : (y n : ℕ) → is_below table 0 y n ≡ true → y ≡ 0
  stays_below y zero h = sym (eqb-true 0 y h)
  stays_below y (suc n) h = by (0 == y) refl h (λ k. stays_below y n (ap (λ (x : ℕ). is_below table x y n) (sym root) ∙ k))
    where
      by : (b : Bool) → (0 == y) ≡ b → (b || is_below table (get_or table 0 0) y n) ≡ true → (is_below table (get_or table 0 0) y n ≡ true → y ≡ 0) → y ≡ 0
      by true e k later = sym (eqb-true 0 y e)
      by false e k later = later k

  -- only `object` is on a cycle
  cyclic_is_root : (m : ℕ) → m < length names → lies_on_cycle table m ≡ true → m ≡ 0
  cyclic_is_root m lt on = by (first_of_name (subtypes ds) m) refl
    where
      around : get_or table m 0 ≡ 0 → (k : ℕ) → 1 ≤ k → ancestor table k m ≡ m → m ≡ 0
      around up zero one e = absurd (omega (arith, one))
      around up (suc k) one e = sym e ∙ ap (ancestor table k) up ∙ stays k

      own : (e : Subtype) → e.name ≡ m → (b : Bool) → (e.name == 0) ≡ b → (if b then differs (Some 0) e.parent else lies_on_cycle table e.name) ≡ false → m ≡ 0
      own e is true t k = sym is ∙ eqb-true e.name 0 t
      own e is false t k = absurd (false≢true (sym k ∙ ap (lies_on_cycle table) is ∙ on))

      by : (o : Option Subtype) → first_of_name (subtypes ds) m ≡ o → m ≡ 0
      by None q = let c = lies table within m on in around (at m lt ∙ ap first_parent q) c.0 c.1 c.2
      by (Some e) q =
          let found = found_has (IsClean (first_of_name (subtypes ds)) (lies_on_cycle table)) m (subtypes ds) clean e q in
          own e found.1 (e.name == 0) refl found.0.apart

  top : (x : ℕ) → x < length names → ancestor table (length table) x ≡ 0
  top x lt =
      let end : ancestor table (length table) x < length table = ancestor-within table within (length table) x (omega (arith, long, lt)) in
      cyclic_is_root (ancestor table (length table) x) (omega (arith, long, end)) (ends_lie table within (length table) x (omega arith) (omega (arith, long, lt)))

  -- ---- both directions

  reaches : (a b : List ℕ) → number_of names a < length names → (k : ℕ) → ancestor table k (number_of names a) ≡ number_of names b → is_below table (number_of names a) (number_of names b) (length table) ≡ true
  reaches a b lt k e = by (nat_le k (length table)) refl
    where
      far : length table ≤ k → ancestor table (length table) (number_of names a) ≡ number_of names b
      far le =
          top (number_of names a) lt
          ∙ sym (stays (k - length table))
          ∙ ap (ancestor table (k - length table)) (sym (top (number_of names a) lt))
          ∙ sym (ancestor-add table (length table) (k - length table) (number_of names a))
          ∙ ap (λ (j : ℕ). ancestor table j (number_of names a)) (let same : length table + (k - length table) ≡ k = omega (arith, le) in same)
          ∙ e

      by : (t : Bool) → nat_le k (length table) ≡ t → is_below table (number_of names a) (number_of names b) (length table) ≡ true
      by true t = below_by table (number_of names b) (length table) k (number_of names a) (leb-true k (length table) t) e
      by false t =
          let past : length table < k = leb-false k (length table) t in
          below_by table (number_of names b) (length table) (length table) (number_of names a) (omega arith) (far (omega (arith, past)))

  pub chain_found : (a b : List ℕ) → is_there names a ≡ true → IsBelow ds a b → is_below table (number_of names a) (number_of names b) (length table) ≡ true
  chain_found a b there (inl is) =
      reaches a b (number_of-there names a there) (length table) (top (number_of names a) (number_of-there names a there) ∙ sym object_number ∙ ap (number_of names) (sym is))
  chain_found a b there (inr c) = reaches a b (number_of-there names a there) (length c.0) (leads_up a c.0 b c.1)

  one_more : (a c b : List ℕ) → IsSupertype ds a c → IsBelow ds c b → IsBelow ds a b
  one_more a c b h (inl is) = inl is
  one_more a c b h (inr k) = inr (c ∷ k.0, (h, k.1))

  pub found_chain : (n : ℕ) (a b : List ℕ) → is_there names a ≡ true → is_there names b ≡ true → is_below table (number_of names a) (number_of names b) n ≡ true → IsBelow ds a b
  found_chain zero a b p q h = inr ([], same_name names a b p q (eqb-true (number_of names a) (number_of names b) h))
  found_chain (suc n) a b p q h = by (number_of names a == number_of names b) refl h (higher (λ c there k. found_chain n c b there q k) (first_of_name (subtypes ds) (number_of names a)) refl)
    where
      higher : ((c : List ℕ) → is_there names c ≡ true → is_below table (number_of names c) (number_of names b) n ≡ true → IsBelow ds c b)
          → (o : Option Subtype) → first_of_name (subtypes ds) (number_of names a) ≡ o → is_below table (get_or table (number_of names a) 0) (number_of names b) n ≡ true → IsBelow ds a b
      higher later None e k =
          let up : get_or table (number_of names a) 0 ≡ 0 = at (number_of names a) (number_of-there names a p) ∙ ap first_parent e in
          let zero_is : number_of names b ≡ 0 = stays_below (number_of names b) n (ap (λ (x : ℕ). is_below table x (number_of names b) n) (sym up) ∙ k) in
          inl (same_name names b (codes "object") q object_there (zero_is ∙ sym object_number))
      higher later (Some s) e k =
          let from = found_has (From ds names) (number_of names a) (subtypes ds) origins s e in
          let is : from.0.type ≡ a = same_name names from.0.type a from.0.type_there p (sym from.0.name_is ∙ from.1) in
          let stated : IsSupertype ds a from.0.above = subst (λ (t : List ℕ). IsSupertype ds t from.0.above) is from.0.stated in
          one_more a from.0.above b stated (later from.0.above from.0.above_there (ap (λ (x : ℕ). is_below table x (number_of names b) n) (sym (step_up a from.0.above stated)) ∙ k))

      by : (t : Bool) → (number_of names a == number_of names b) ≡ t → (t || is_below table (get_or table (number_of names a) 0) (number_of names b) n) ≡ true
          → (is_below table (get_or table (number_of names a) 0) (number_of names b) n ≡ true → IsBelow ds a b) → IsBelow ds a b
      by true t k later = inr ([], same_name names a b p q (eqb-true (number_of names a) (number_of names b) t))
      by false t k later = later k

-- ---- objects

-- whether the object is of the type, by its own type
type_test : (task : PlanningTask) (above : List ℕ) (type own object : ℕ) → task.supertypes ≡ above → slice_get task.object_types object ≡ Some own
    → is_of_type task type object ≡ is_below above own type (length above)
type_test task above type own object is at =
    ap (λ (o : Option ℕ). option_map_or (λ (k : ℕ). is_below task.supertypes k type (length task.supertypes)) o false) at
    ∙ ap (λ (ss : List ℕ). is_below ss own type (length ss)) is

module _ (home : ℕ) (f : Forms) (clear : types_faults home f ≡ []) where
  section : (typed_faults false (λ (t : List ℕ). true) home true f ≡ []) × (subtype_faults (first_of_name (subtypes (declared false f))) (lies_on_cycle (supertypes (declared false f))) (subtypes (declared false f)) ≡ [])
  section =
      parts_empty (typed_faults false (λ (t : List ℕ). true) home true f)
      (subtype_faults (first_of_name (subtypes (declared false f))) (lies_on_cycle (supertypes (declared false f))) (subtypes (declared false f))) clear

  typed_all : AllByRecursion HasType (declared false f)
  typed_all = all_typed (λ (t : List ℕ). true) home f section.0

  pub below_fits : (task : PlanningTask) (object : ℕ) (own type : List ℕ) → task.supertypes ≡ supertypes (declared false f) → slice_get task.object_types object ≡ Some (number_of (type_names (declared false f)) own)
      → is_there (type_names (declared false f)) own ≡ true → IsBelow (declared false f) own type → is_of_type task (number_of (type_names (declared false f)) type) object ≡ true
  below_fits task object own type is at there h =
      type_test task (supertypes (declared false f)) (number_of (type_names (declared false f)) type) (number_of (type_names (declared false f)) own) object is at
      ∙ chain_found (declared false f) typed_all section.1 own type there h

  pub fits_below : (task : PlanningTask) (object : ℕ) (own type : List ℕ) → task.supertypes ≡ supertypes (declared false f) → slice_get task.object_types object ≡ Some (number_of (type_names (declared false f)) own)
      → is_there (type_names (declared false f)) own ≡ true → is_there (type_names (declared false f)) type ≡ true → is_of_type task (number_of (type_names (declared false f)) type) object ≡ true → IsBelow (declared false f) own type
  fits_below task object own type is at there other h =
      found_chain (declared false f) typed_all section.1 (length (supertypes (declared false f))) own type there other
      (sym (type_test task (supertypes (declared false f)) (number_of (type_names (declared false f)) type) (number_of (type_names (declared false f)) own) object is at) ∙ h)
