-- The initial values that slots give, and the limits on variables.
use Rattle.std.proofs.Common.{◌≡◌, ◌≢◌, ℕ, zero, suc, ◌+◌, Bool, true, false, ◌||◌, cond, ◌⊎◌, List, [], ◌∷◌, ◌++◌, length, set, map, Option, Some, None, Result, Ok, Err, refl, sym, ap, ◌∙◌, arith, inl, inr, eqb, ltb, All}
use Rattle.std.specs.Prelude.{slice_get, IsErrAnd, IfErr, codes}
use Rattle.std.specs.List.{list_any, position_or_len}
use Rattle.std.specs.Option.{option_map}
use Rattle.std.proofs.lemmas.Bool.{eqb-true, eq-eqb, ltb-true, lt-ltb, false_from_ne_true}
use Rattle.std.proofs.lemmas.List.{length-map, length-append}
use Rattle.std.proofs.lemmas.List.Elements.{All-head, All-tail}
use Rattle.fdr.specs.declared.task.TaskLimit.{TaskLimit}
use Rattle.fdr.specs.declared.task.TaskLimit.TheVariants.{Variables, Values, Operators}
use Rattle.fdr.specs.Tasks.{IsPastLimit, has_long_range}
use Rattle.pddl_task.specs.Atoms.{Atom, contains, at_most_one}
use Rattle.pddl_task.specs.Planning.{PlanningTask, Vocabulary, Action}
use Rattle.pddl_task.proofs.Lists.{Mem, bool_same, mem_get, position_none}
use Rattle.pddl_task.proofs.AtomLaws.{contains_mem, mem_contains}
use Rattle.translate_theory.specs.Names.{atom_text, none_name}
use Rattle.translate_theory.specs.Translations.{Variable, value_in, value_names_of, translation}
use Rattle.translate_theory.specs.Variables.{PlacedVariable, IsPlaced, variable_at, variables_at}
use Rattle.translate_assembly.specs.declared.assembly.AssemblyFault.{AssemblyFault}
use Rattle.translate_assembly.specs.declared.assembly.AssemblyFault.TheVariants.{Limit}
use Rattle.translate_assembly.specs.declared.slot.Slot.{Slot}
use Rattle.translate_assembly.specs.Slots.{Lookup, with_slot, values_of}
use Rattle.translate_assembly.specs.Limits.{is_long, IsPastLimitAt}
use Rattle.translate_assembly.proofs.SlotLaws.{IsLookup}
use Rattle.translate_assembly.proofs.PlaceLaws.{atoms_length}
use Rattle.translate_assembly.proofs.LayerLaws.{place_of_one}

get_set : (xs : List ℕ) (i x : ℕ) → slice_get (set xs i x) i ≡ option_map (λ y. x) (slice_get xs i)
get_set [] i x = refl
get_set (y ∷ xs) zero x = refl
get_set (y ∷ xs) (suc i) x = get_set xs i x

get_other : (xs : List ℕ) (i k x : ℕ) → i ≢ k → slice_get (set xs i x) k ≡ slice_get xs k
get_other [] i k x n = refl
get_other (y ∷ xs) zero zero x n = absurd (n refl)
get_other (y ∷ xs) zero (suc k) x n = refl
get_other (y ∷ xs) (suc i) zero x n = refl
get_other (y ∷ xs) (suc i) (suc k) x n = get_other xs i k x (λ e. n (ap suc e))

-- which places there are does not change
still_there : (xs : List ℕ) (o : Option Slot) (k c : ℕ) → option_map (λ y. c) (slice_get (with_slot xs o) k) ≡ option_map (λ y. c) (slice_get xs k)
still_there xs None k c = refl
still_there xs (Some s) k c = go xs s.variable k
  where
    go : (xs : List ℕ) (i k : ℕ) → option_map (λ y. c) (slice_get (set xs i s.value) k) ≡ option_map (λ y. c) (slice_get xs k)
    go [] i k = refl
    go (y ∷ xs) zero zero = refl
    go (y ∷ xs) zero (suc k) = refl
    go (y ∷ xs) (suc i) zero = refl
    go (y ∷ xs) (suc i) (suc k) = go xs i k

module _ (slots : Lookup) where
  -- the value is that of an atom, or no atom is in the variable and the value stays
  abbrev Valued : List ℕ → List Atom → ℕ → Type 0
  Valued values ps k =
      record { p : Atom; s : Slot; there : Mem p ps; gives : slots p ≡ Some s; here : s.variable ≡ k; value : slice_get (values_of slots values ps) k ≡ option_map (λ y. s.value) (slice_get values k) }
      ⊎ record { none : (p : Atom) (s : Slot) → Mem p ps → slots p ≡ Some s → s.variable ≢ k; value : slice_get (values_of slots values ps) k ≡ slice_get values k }

  valued : (ps : List Atom) (values : List ℕ) (k : ℕ) → Valued values ps k
  valued [] values k = inr (record { none = λ p s m. absurd m; value = refl })
  valued (p ∷ ps) values k = go (slots p) refl (valued ps (with_slot values (slots p)) k)
    where
      go : (o : Option Slot) → slots p ≡ o → Valued (with_slot values (slots p)) ps k → Valued values (p ∷ ps) k
      go o e (inl w) = inl (record { p = w.p; s = w.s; there = inr w.there; gives = w.gives; here = w.here; value = w.value ∙ still_there values (slots p) k w.s.value })
      go None e (inr w) = inr (record { none = λ q s m h. none q s m h; value = w.value ∙ ap (λ (o : Option Slot). slice_get (with_slot values o) k) e })
        where
          none : (q : Atom) (s : Slot) → Mem q (p ∷ ps) → slots q ≡ Some s → s.variable ≢ k
          none q s (inl z) h = let y : slots p ≡ Some s = ap slots z ∙ h in cc
          none q s (inr m) h = w.none q s m h
      go (Some t) e (inr w) = by (eqb t.variable k) refl
        where
          by : (b : Bool) → eqb t.variable k ≡ b → Valued values (p ∷ ps) k
          by true q =
              let same = eqb-true t.variable k q in
              inl (record {
                p = p;
                s = t;
                there = inl refl;
                gives = e;
                here = same;
                value = w.value ∙ ap (λ (o : Option Slot). slice_get (with_slot values o) k) e ∙ ap (slice_get (set values t.variable t.value)) (sym same)
                    ∙ get_set values t.variable t.value ∙ ap (λ (n : ℕ). option_map (λ y. t.value) (slice_get values n)) same;
              })
          by false q =
              let differ : t.variable ≢ k = λ z. cc (eq-eqb t.variable k z, q) in
              inr (record {
                none = λ q s m h. none differ q s m h;
                value = w.value ∙ ap (λ (o : Option Slot). slice_get (with_slot values o) k) e ∙ get_other values t.variable k t.value differ;
              })
            where
              none : t.variable ≢ k → (q : Atom) (s : Slot) → Mem q (p ∷ ps) → slots q ≡ Some s → s.variable ≢ k
              none differ q s (inl z) h = let y : slots p ≡ Some s = ap slots z ∙ h in let same : t ≡ s = cc in rw (← same) differ
              none differ q s (inr m) h = w.none q s m h

same_lists : (xs ys : List ℕ) → ((k : ℕ) → slice_get xs k ≡ slice_get ys k) → xs ≡ ys
same_lists [] [] h = refl
same_lists [] (y ∷ ys) h = let e = h zero in cc
same_lists (x ∷ xs) [] h = let e = h zero in cc
same_lists (x ∷ xs) (y ∷ ys) h =
    let e : Some x ≡ Some y = h zero in
    let first : x ≡ y = cc e in
    let rest = same_lists xs ys (λ k. h (suc k)) in
    λ i. first i ∷ rest i

get_map : {X : Type 0} (f : X → ℕ) (xs : List X) (k : ℕ) → slice_get (map f xs) k ≡ option_map f (slice_get xs k)
get_map f [] k = refl
get_map f (x ∷ xs) zero = refl
get_map f (x ∷ xs) (suc k) = get_map f xs k

-- the values are those of the set of the atoms
pub values_are : (vs : List Variable) (slots : Lookup) → IsLookup vs slots → (ps : List Atom) → ((v : Variable) → Mem v vs → at_most_one (contains ps) v.atoms ≡ true)
    → values_of slots (map (λ v. length v.atoms) vs) ps ≡ map (value_in (contains ps)) vs
values_are vs slots ok ps one =
    same_lists (values_of slots (map (λ v. length v.atoms) vs) ps) (map (value_in (contains ps)) vs)
    (λ k. go k (slice_get vs k) refl (valued slots ps (map (λ v. length v.atoms) vs) k) ∙ sym (get_map (value_in (contains ps)) vs k))
  where
    go : (k : ℕ) (o : Option Variable) → slice_get vs k ≡ o → Valued slots (map (λ v. length v.atoms) vs) ps k
        → slice_get (values_of slots (map (λ v. length v.atoms) vs) ps) k ≡ option_map (value_in (contains ps)) (slice_get vs k)
    go k None e (inl w) =
        let a = ok.sound w.p w.s w.gives in
        let at : slice_get vs k ≡ Some a.variable = ap (slice_get vs) (sym w.here) ∙ a.here in cc
    go k (Some v) e (inl w) =
        let a = ok.sound w.p w.s w.gives in
        let at : slice_get vs k ≡ Some a.variable = ap (slice_get vs) (sym w.here) ∙ a.here in
        let same : a.variable ≡ v = let q : Some a.variable ≡ Some v = sym at ∙ e in cc q in
        let place = place_of_one (contains ps) a.variable.atoms w.p (one a.variable (mem_get vs k a.variable at)) a.there (mem_contains ps w.p w.there) in
        let value : w.s.value ≡ position_or_len (contains ps) v.atoms = a.value ∙ sym place ∙ ap (λ (u : Variable). position_or_len (contains ps) u.atoms) same in
        w.value ∙ ap (option_map (λ y. w.s.value)) (get_map (λ v. length v.atoms) vs k ∙ ap (option_map (λ v. length v.atoms)) e)
        ∙ ap Some value ∙ sym (ap (option_map (value_in (contains ps))) e)
    go k None e (inr w) = w.value ∙ get_map (λ v. length v.atoms) vs k ∙ ap (option_map (λ v. length v.atoms)) e ∙ sym (ap (option_map (value_in (contains ps))) e)
    go k (Some v) e (inr w) =
        let none : position_or_len (contains ps) v.atoms ≡ length v.atoms = position_none (contains ps) v.atoms (λ q m. false_from_ne_true (contains ps q) (λ t.
        let s = ok.complete q k v e (mem_contains v.atoms q m) in w.none q s.0 (contains_mem ps q t) s.1 s.2)) in
        w.value ∙ get_map (λ v. length v.atoms) vs k ∙ ap (option_map (λ v. length v.atoms)) e ∙ ap Some (sym none) ∙ sym (ap (option_map (value_in (contains ps))) e)

-- placed variables and those of the atoms there

pub lengths_are : (atoms : List Atom) (variables : List PlacedVariable) → All (IsPlaced (length atoms)) variables
    → map (λ v. length v.places) variables ≡ map (λ v. length v.atoms) (variables_at atoms variables)
lengths_are atoms [] h = refl
lengths_are atoms (v ∷ variables) h =
    let first = sym (atoms_length atoms v.places (All-head (IsPlaced (length atoms)) v variables h).within) in
    let rest = lengths_are atoms variables (All-tail (IsPlaced (length atoms)) v variables h) in
    λ i. first i ∷ rest i

value_count : (names : Vocabulary) (v : Variable) → length (value_names_of names v) ≡ length v.atoms + cond v.has_none 1 0
value_count names v = go v.has_none
  where
    go : (b : Bool) → length (map (λ p. codes "Atom " ++ atom_text names p) v.atoms ++ cond b (none_name names v.atoms ∷ []) []) ≡ length v.atoms + cond b 1 0
    go true = simp (length-append, length-map)
    go false = simp (length-append, length-map)

long_is : (names : Vocabulary) (atoms : List Atom) (v : PlacedVariable) → IsPlaced (length atoms) v
    → is_long v ≡ ltb 65536 (length (value_names_of names (variable_at atoms v)))
long_is names atoms v placed =
    go v.has_none (length (value_names_of names (variable_at atoms v))) (value_count names (variable_at atoms v) ∙ ap (λ n. n + cond v.has_none 1 0) (atoms_length atoms v.places placed.within))
  where
    go : (b : Bool) (n : ℕ) → n ≡ length v.places + cond b 1 0 → ltb (cond b 65535 65536) (length v.places) ≡ ltb 65536 n
    go true n e = bool_same (ltb 65535 (length v.places)) (ltb 65536 n)
        (λ h. lt-ltb 65536 n (omega (arith, e, ltb-true 65535 (length v.places) h)))
        (λ h. lt-ltb 65535 (length v.places) (omega (arith, e, ltb-true 65536 n h)))
    go false n e = let q : n ≡ length v.places = omega (arith, e) in rw q refl

ranges_long : (names : Vocabulary) (atoms : List Atom) (variables : List PlacedVariable) → All (IsPlaced (length atoms)) variables
    → list_any is_long variables ≡ has_long_range (map (value_names_of names) (variables_at atoms variables))
ranges_long names atoms [] h = refl
ranges_long names atoms (v ∷ variables) h =
    let first = long_is names atoms v (All-head (IsPlaced (length atoms)) v variables h) in
    let rest = ranges_long names atoms variables (All-tail (IsPlaced (length atoms)) v variables h) in
    λ i. first i || rest i

pub past_limit : (task : PlanningTask) (atoms : List Atom) (actions : List Action) (variables : List PlacedVariable) → All (IsPlaced (length atoms)) variables
    → (l : TaskLimit) → IsPastLimitAt variables l → IsPastLimit (translation task (variables_at atoms variables) actions) l
past_limit task atoms actions variables placed Variables h =
    let e : length (map (value_names_of task.vocabulary) (variables_at atoms variables)) ≡ length variables = simp length-map in omega (arith, e, h)
past_limit task atoms actions variables placed Values h =
    let e : length (map (value_names_of task.vocabulary) (variables_at atoms variables)) ≡ length variables = simp length-map in
    (omega (arith, e, h.0), sym (ranges_long task.vocabulary atoms variables placed) ∙ h.1)
past_limit task atoms actions variables placed Operators h = absurd h

-- a fault that is a limit is this one
pub fault_tells : {T : Type 0} (r : Result T AssemblyFault) (f : TaskLimit) (P : TaskLimit → Type 0) → IsErrAnd r (λ e. e ≡ Limit f) → P f
    → (l : TaskLimit) → IfErr r (λ e. e ≡ Limit l → P l)
fault_tells (Ok x) f P h p l = tt
fault_tells (Err e) f P h p l = λ q. let both : Limit f ≡ Limit l = sym h ∙ q in let same : f ≡ l = cc both in rw (← same) p
