-- The slots of atoms, by their places and in the variables.
use Rattle.std.proofs.Common.{◌≡◌, ◌≢◌, ℕ, zero, suc, ◌+◌, ◌<◌, ◌≤◌, Bool, true, false, ◌||◌, cond, List, [], ◌∷◌, ◌++◌, length, get_or, take, map, Option, Some, None, refl, sym, ap, ◌∙◌, arith, eqb, All, length-take}
use Rattle.std.specs.Prelude.{slice_get, position, count_by, option_and_then, AllPairs}
use Rattle.std.specs.List.{list_all, list_any, position_or_len}
use Rattle.std.specs.Option.{option_or}
use Rattle.std.proofs.lemmas.Bool.{eqb-true, eq-eqb, or_parts, false_from_ne_true, lt-ltb, false≢true}
use Rattle.std.proofs.lemmas.List.{take_more}
use Rattle.std.proofs.lemmas.List.Elements.{All-head, All-tail}
use Rattle.std.proofs.lemmas.List.Quantifiers.{position-Some}
use Rattle.std.proofs.lemmas.List.Sums.{sum_by-cons}
use Rattle.std.proofs.lemmas.Option.{get_or_from_slice_get}
use Rattle.pddl_task.specs.Atoms.{Atom, same_atom, contains}
use Rattle.pddl_task.specs.Planning.{PlanningTask, Action}
use Rattle.pddl_task.proofs.Lists.{bool_same, mem_get, all_mem, all_at, any_from, position_below}
use Rattle.pddl_task.proofs.AtomLaws.{same_atom_true, same_atom_self, contains_mem}
use Rattle.mutex_index.specs.Groups.{is_constant}
use Rattle.mutex_index.specs.Places.{atoms_at}
use Rattle.mutex_index.proofs.IndexLaws.{get_of_within, one_place}
use Rattle.translate_theory.specs.Translations.{Variable, AreVariables}
use Rattle.translate_assembly.proofs.PlaceLaws.{atoms_length}
use Rattle.translate_theory.specs.Variables.{PlacedVariable, variables_at}
use Rattle.translate_assembly.specs.declared.slot.Slot.{Slot}
use Rattle.translate_assembly.specs.Slots.{Lookup, first_slot, slots_from, slot_of}

or_more : {X : Type 0} (a b c : Option X) → option_or (option_or a b) c ≡ option_or a (option_or b c)
or_more None b c = refl
or_more (Some x) b c = refl

or_none : {X : Type 0} (a : Option X) → option_or a None ≡ a
or_none None = refl
or_none (Some x) = refl

abbrev slot_at : ℕ → ℕ → ℕ → Slot
slot_at variable value count = record { variable = variable; value = value; count = count }

-- one more element, and one more variable

module _ {X : Type 0} (test : X → Bool) where
  first_append : (variable count value : ℕ) (xs : List X) (x : X)
      → first_slot test variable count value (xs ++ x ∷ [])
      ≡ option_or (first_slot test variable count value xs) (cond (test x) (Some (slot_at variable (value + length xs) count)) None)
  first_append variable count value [] x =
      let e : value ≡ value + 0 = omega arith in
      ap (λ v. cond (test x) (Some (slot_at variable v count)) None) e
  first_append variable count value (y ∷ xs) x = go (test y) (first_append variable count (value + 1) xs x)
    where
      go : (b : Bool)
          → first_slot test variable count (value + 1) (xs ++ x ∷ [])
          ≡ option_or (first_slot test variable count (value + 1) xs) (cond (test x) (Some (slot_at variable (value + 1 + length xs) count)) None)
          → cond b (Some (slot_at variable value count)) (first_slot test variable count (value + 1) (xs ++ x ∷ []))
          ≡ option_or (cond b (Some (slot_at variable value count)) (first_slot test variable count (value + 1) xs))
          (cond (test x) (Some (slot_at variable (value + suc (length xs)) count)) None)
      go true ih = refl
      go false ih =
          let e : value + 1 + length xs ≡ value + suc (length xs) = omega arith in
          ih ∙ ap (λ v. option_or (first_slot test variable count (value + 1) xs) (cond (test x) (Some (slot_at variable v count)) None)) e

  slots_append : (variable : ℕ) (xss : List (List X)) (xs : List X)
      → slots_from test variable (xss ++ xs ∷ []) ≡ option_or (slots_from test variable xss) (first_slot test (variable + length xss) (length xs) 0 xs)
  slots_append variable [] xs =
      let e : variable ≡ variable + 0 = omega arith in
      or_none (first_slot test variable (length xs) 0 xs) ∙ ap (λ n. first_slot test n (length xs) 0 xs) e
  slots_append variable (ys ∷ xss) xs =
      let e : variable + 1 + length xss ≡ variable + suc (length xss) = omega arith in
      ap (option_or (first_slot test variable (length ys) 0 ys))
      (slots_append (variable + 1) xss xs ∙ ap (λ n. option_or (slots_from test (variable + 1) xss) (first_slot test n (length xs) 0 xs)) e)
      ∙ sym (or_more (first_slot test variable (length ys) 0 ys) (slots_from test (variable + 1) xss) (first_slot test (variable + suc (length xss)) (length xs) 0 xs))

pub mark_more : (places : List ℕ) (i variable count q : ℕ) (old now after : Option Slot) → i < length places
    → now ≡ option_or old (first_slot (λ p. eqb p q) variable count 0 (take i places))
    → after ≡ option_or now (cond (eqb (get_or places i 0) q) (Some (record { variable = variable; value = i; count = count })) None)
    → after ≡ option_or old (first_slot (λ p. eqb p q) variable count 0 (take (i + 1) places))
mark_more places i variable count q old now after l e g =
    let test = (λ (p : ℕ). eqb p q) in
    let last = (λ (v : ℕ). cond (eqb (get_or places i 0) q) (Some (slot_at variable v count)) None) in
    let long : i ≡ 0 + length (take i places) = omega (arith, length-take i places) in
    g ∙ ap (λ (o : Option Slot). option_or o (last i)) e
    ∙ or_more old (first_slot test variable count 0 (take i places)) (last i)
    ∙ ap (λ (v : ℕ). option_or old (option_or (first_slot test variable count 0 (take i places)) (last v))) long
    ∙ ap (option_or old) (sym (first_append test variable count 0 (take i places) (get_or places i 0)))
    ∙ ap (λ (ps : List ℕ). option_or old (first_slot test variable count 0 ps)) (sym (take_more places i 0 l))

pub slots_more : (variables : List PlacedVariable) (v : PlacedVariable) (i q : ℕ) (now after : Option Slot) → i < length variables
    → v ≡ get_or variables i v
    → now ≡ slots_from (λ p. eqb p q) 0 (map (λ v. v.places) (take i variables))
    → after ≡ option_or now (first_slot (λ p. eqb p q) i (length v.places) 0 v.places)
    → after ≡ slots_from (λ p. eqb p q) 0 (map (λ v. v.places) (take (i + 1) variables))
slots_more variables v i q now after l is e g =
    let test = (λ (p : ℕ). eqb p q) in
    let lists = map (λ (v : PlacedVariable). v.places) (take i variables) in
    let long : i ≡ 0 + length lists = omega (arith, length-take i variables, length-map-places (take i variables)) in
    g ∙ ap (λ (o : Option Slot). option_or o (first_slot test i (length v.places) 0 v.places)) e
    ∙ ap (λ (n : ℕ). option_or (slots_from test 0 lists) (first_slot test n (length v.places) 0 v.places)) long
    ∙ sym (slots_append test 0 lists v.places)
    ∙ ap (slots_from test 0) (sym (mapped (take i variables) v) ∙ ap (map (λ (v : PlacedVariable). v.places)) (sym (take_more variables i v l ∙ ap (λ (w : PlacedVariable). take i variables ++ w ∷ []) (sym is))))
  where
    length-map-places : (vs : List PlacedVariable) → length (map (λ v. v.places) vs) ≡ length vs
    length-map-places [] = refl
    length-map-places (v ∷ vs) = ap suc (length-map-places vs)

    mapped : (vs : List PlacedVariable) (w : PlacedVariable) → map (λ v. v.places) (vs ++ w ∷ []) ≡ map (λ v. v.places) vs ++ w.places ∷ []
    mapped [] w = refl
    mapped (v ∷ vs) w = ap (λ l. v.places ∷ l) (mapped vs w)

-- slots by places are those of the atoms there

module _ (atoms : List Atom) where
  module _ (x : Atom) (test : ℕ → Bool) (tells : (r : ℕ) (y : Atom) → slice_get atoms r ≡ Some y → test r ≡ same_atom x y) where
    first_same : (variable count value : ℕ) (places : List ℕ) → All (λ p. p < length atoms) places
        → first_slot test variable count value places ≡ first_slot (same_atom x) variable count value (atoms_at atoms places)
    first_same variable count value [] h = refl
    first_same variable count value (p ∷ places) h =
        let w = get_of_within atoms p (All-head (λ p. p < length atoms) p places h) in
        let ih = first_same variable count (value + 1) places (All-tail (λ p. p < length atoms) p places h) in
        rw (w.1, tells p w.0 w.1, ih) refl

    slots_same : (variable : ℕ) (vs : List PlacedVariable) → All (λ v. All (λ p. p < length atoms) v.places) vs
        → slots_from test variable (map (λ v. v.places) vs) ≡ slots_from (same_atom x) variable (map (λ v. v.atoms) (variables_at atoms vs))
    slots_same variable [] h = refl
    slots_same variable (v ∷ vs) h =
        let within = All-head (λ v. All (λ p. p < length atoms) v.places) v vs h in
        let a = first_same variable (length v.places) 0 v.places within in
        let b = atoms_length atoms v.places within in
        let ih = slots_same (variable + 1) vs (All-tail (λ v. All (λ p. p < length atoms) v.places) v vs h) in
        rw (a, b, ih) refl

  none_from : (variable : ℕ) (places : List (List ℕ)) → slots_from (λ r. false) variable places ≡ None
  none_from variable [] = refl
  none_from variable (ps ∷ rest) = rw (none_first variable (length ps) 0 ps) (none_from (variable + 1) rest)
    where
      none_first : (variable count value : ℕ) (places : List ℕ) → first_slot (λ r. false) variable count value places ≡ None
      none_first variable count value [] = refl
      none_first variable count value (p ∷ places) = none_first variable count (value + 1) places

  pub look_up_is : AllPairs (λ p q. p ≢ q) atoms → (vs : List PlacedVariable) → All (λ v. All (λ p. p < length atoms) v.places) vs → (slots : List (Option Slot))
      → ((q : ℕ) → get_or slots q None ≡ slots_from (λ p. eqb p q) 0 (map (λ v. v.places) vs))
      → (x : Atom) → option_and_then (λ k. get_or slots k None) (position (same_atom x) atoms) ≡ slot_of (variables_at atoms vs) x
  look_up_is distinct vs placed slots is x = go (position (same_atom x) atoms) refl
    where
      go : (o : Option ℕ) → position (same_atom x) atoms ≡ o → option_and_then (λ k. get_or slots k None) o ≡ slot_of (variables_at atoms vs) x
      go None e =
          sym (none_from 0 (map (λ v. v.places) vs))
          ∙ slots_same x (λ r. false) (λ r y at. sym (false_from_ne_true (same_atom x y) (λ s. absent r y at s))) 0 vs placed
        where
          absent : (r : ℕ) (y : Atom) → slice_get atoms r ≡ Some y → same_atom x y ≡ true → ⊥
          absent r y at s =
              let same = same_atom_true x y s in
              let m = mem_get atoms r y at in
              missing atoms (any_from (same_atom x) atoms y m s) e
            where
              missing : (ys : List Atom) → list_any (same_atom x) ys ≡ true → position (same_atom x) ys ≡ None → ⊥
              missing ys h e =
                  let low = lt-ltb (position_or_len (same_atom x) ys) (length ys) (position_below (same_atom x) ys h) in
                  let found : position (same_atom x) ys ≡ Some (position_or_len (same_atom x) ys) = rw low refl in cc
      go (Some k) e =
          let w = position-Some (same_atom x) atoms k x e in
          let y = get_of_within atoms k w.0 in
          let here : get_or atoms k x ≡ y.0 = get_or_from_slice_get atoms k y.0 x y.1 in
          let same : x ≡ y.0 = same_atom_true x (get_or atoms k x) w.1 ∙ here in
          let at : slice_get atoms k ≡ Some x = y.1 ∙ ap Some (sym same) in
          is k ∙ slots_same x (λ r. eqb r k) (λ r z z_at. bool_same (eqb r k) (same_atom x z)
          (λ q. let both = eqb-true r k q in let one : x ≡ z = cc (ap (slice_get atoms) both) in rw one (same_atom_self z))
          (λ s. let both = same_atom_true x z s in eq-eqb r k (one_place atoms distinct r k x (z_at ∙ ap Some (sym both)) at))) 0 vs placed

-- what a slot says

pub record IsSlotOf (vs : List Variable) (p : Atom) (s : Slot) : Type 0 where
  pub variable : Variable
  pub here : slice_get vs s.variable ≡ Some variable
  pub there : contains variable.atoms p ≡ true
  pub value : s.value ≡ position_or_len (same_atom p) variable.atoms
  pub count : s.count ≡ length variable.atoms

-- slots are those of the variables, and each atom of a variable has one there
pub record IsLookup (vs : List Variable) (slots : Lookup) : Type 0 where
  pub sound : (p : Atom) (s : Slot) → slots p ≡ Some s → IsSlotOf vs p s
  pub complete : (p : Atom) (k : ℕ) (v : Variable) → slice_get vs k ≡ Some v → contains v.atoms p ≡ true
      → (s : Slot) × (slots p ≡ Some s) × (s.variable ≡ k)

module _ (p : Atom) where
  abbrev First : ℕ → ℕ → ℕ → List Atom → Slot → Type 0
  First variable count value xs s =
      (s.variable ≡ variable) × (s.count ≡ count) × (list_any (same_atom p) xs ≡ true) × (s.value ≡ value + position_or_len (same_atom p) xs)

  first_is : (variable count value : ℕ) (xs : List Atom) (s : Slot) → first_slot (same_atom p) variable count value xs ≡ Some s → First variable count value xs s
  first_is variable count value [] s e = cc e
  first_is variable count value (x ∷ xs) s e = go (same_atom p x) refl e (first_is variable count (value + 1) xs s)
    where
      go : (b : Bool) → same_atom p x ≡ b → cond b (Some (slot_at variable value count)) (first_slot (same_atom p) variable count (value + 1) xs) ≡ Some s
          → (first_slot (same_atom p) variable count (value + 1) xs ≡ Some s → First variable count (value + 1) xs s) → First variable count value (x ∷ xs) s
      go true q e ih =
          let same : slot_at variable value count ≡ s = cc e in
          let v : value ≡ s.value = ap (λ (t : Slot). t.value) same in
          rw q (sym (ap (λ (t : Slot). t.variable) same), sym (ap (λ (t : Slot). t.count) same), refl, omega (arith, v))
      go false q e ih = let w = ih e in rw q (w.0, w.1, w.2, omega (arith, w.3))

  first_some : (variable count value : ℕ) (xs : List Atom) → list_any (same_atom p) xs ≡ true
      → (s : Slot) × (first_slot (same_atom p) variable count value xs ≡ Some s) × (s.variable ≡ variable)
  first_some variable count value [] h = absurd (false≢true h)
  first_some variable count value (x ∷ xs) h = go (same_atom p x) h (first_some variable count (value + 1) xs)
    where
      go : (b : Bool) → (b || list_any (same_atom p) xs) ≡ true
          → (list_any (same_atom p) xs ≡ true → (s : Slot) × (first_slot (same_atom p) variable count (value + 1) xs ≡ Some s) × (s.variable ≡ variable))
          → (s : Slot) × (cond b (Some (slot_at variable value count)) (first_slot (same_atom p) variable count (value + 1) xs) ≡ Some s) × (s.variable ≡ variable)
      go true h ih = (slot_at variable value count, refl, refl)
      go false h ih = ih h

  first_none : (variable count value : ℕ) (xs : List Atom) → list_any (same_atom p) xs ≡ false → first_slot (same_atom p) variable count value xs ≡ None
  first_none variable count value [] h = refl
  first_none variable count value (x ∷ xs) h =
      let w = or_parts (same_atom p x) (list_any (same_atom p) xs) h in rw w.0 (first_none variable count (value + 1) xs w.1)

  sound_from : (vs : List Variable) (n : ℕ) (s : Slot) → slots_from (same_atom p) n (map (λ v. v.atoms) vs) ≡ Some s
      → (j : ℕ) × (s.variable ≡ n + j) × ((v : Variable) × (slice_get vs j ≡ Some v) × First s.variable (length v.atoms) 0 v.atoms s)
  sound_from [] n s e = cc e
  sound_from (v ∷ vs) n s e = go (first_slot (same_atom p) n (length v.atoms) 0 v.atoms) refl e (sound_from vs (n + 1) s)
    where
      go : (o : Option Slot) → first_slot (same_atom p) n (length v.atoms) 0 v.atoms ≡ o → option_or o (slots_from (same_atom p) (n + 1) (map (λ v. v.atoms) vs)) ≡ Some s
          → (slots_from (same_atom p) (n + 1) (map (λ v. v.atoms) vs) ≡ Some s
          → (j : ℕ) × (s.variable ≡ n + 1 + j) × ((w : Variable) × (slice_get vs j ≡ Some w) × First s.variable (length w.atoms) 0 w.atoms s))
          → (j : ℕ) × (s.variable ≡ n + j) × ((w : Variable) × (slice_get (v ∷ vs) j ≡ Some w) × First s.variable (length w.atoms) 0 w.atoms s)
      go None q e ih = let w = ih e in (suc w.0, omega (arith, w.1), w.2)
      go (Some t) q e ih =
          let w = first_is n (length v.atoms) 0 v.atoms s (q ∙ e) in
          (zero, omega (arith, w.0), (v, refl, (refl, w.1, w.2, w.3)))

  count_some : (vs : List Variable) (j : ℕ) (v : Variable) → slice_get vs j ≡ Some v → contains v.atoms p ≡ true → 1 ≤ count_by (λ v. contains v.atoms p) vs
  count_some [] j v e h = cc e
  count_some (u ∷ vs) zero v e h =
      let same : u ≡ v = cc e in
      let here : contains u.atoms p ≡ true = rw same h in
      let c = sum_by-cons (λ (v : Variable). cond (contains v.atoms p) 1 0) u vs in
      let d : count_by (λ v. contains v.atoms p) (u ∷ vs) ≡ 1 + count_by (λ v. contains v.atoms p) vs = c ∙ rw here refl in
      omega (arith, d)
  count_some (u ∷ vs) (suc j) v e h =
      let c = sum_by-cons (λ (v : Variable). cond (contains v.atoms p) 1 0) u vs in
      omega (arith, c, count_some vs j v e h)

  complete_from : (vs : List Variable) (n j : ℕ) (v : Variable) → slice_get vs j ≡ Some v → contains v.atoms p ≡ true → count_by (λ v. contains v.atoms p) vs ≤ 1
      → (s : Slot) × (slots_from (same_atom p) n (map (λ v. v.atoms) vs) ≡ Some s) × (s.variable ≡ n + j)
  complete_from [] n j v e h one = cc e
  complete_from (u ∷ vs) n zero v e h one =
      let same : u ≡ v = cc e in
      let here : contains u.atoms p ≡ true = rw same h in
      let w = first_some n (length u.atoms) 0 u.atoms here in
      (w.0, rw w.1 refl, omega (arith, w.2))
  complete_from (u ∷ vs) n (suc j) v e h one =
      let more = count_some vs j v e h in
      let c = sum_by-cons (λ (v : Variable). cond (contains v.atoms p) 1 0) u vs in
      let none : contains u.atoms p ≡ false = false_from_ne_true (contains u.atoms p) (λ t.
      let d : count_by (λ v. contains v.atoms p) (u ∷ vs) ≡ 1 + count_by (λ v. contains v.atoms p) vs = c ∙ rw t refl in omega (arith, d, more, one)) in
      let w = complete_from vs (n + 1) j v e h (omega (arith, c, one)) in
      (w.0, rw (first_none n (length u.atoms) 0 u.atoms none) w.1, omega (arith, w.2))

pub slots_tell : (task : PlanningTask) (atoms : List Atom) (actions : List Action) (vs : List Variable) → AreVariables task atoms actions vs
    → (slots : Lookup) → ((p : Atom) → slots p ≡ slot_of vs p) → IsLookup vs slots
slots_tell task atoms actions vs ok slots is = record {
  sound = λ p s e.
      let w = sound_from p vs 0 s (sym (is p) ∙ e) in
      let same : s.variable ≡ w.0 = omega (arith, w.1) in
      let at : slice_get vs s.variable ≡ Some w.2.0 = ap (slice_get vs) same ∙ w.2.1 in
      record { variable = w.2.0; here = at; there = w.2.2.2; value = omega (arith, w.2.2.3); count = w.2.2.1 };
  complete = λ p k v at there.
      let listed = all_at (contains atoms) v.atoms p (all_mem (λ (v : Variable). list_all (contains atoms) v.atoms ≡ true) vs v ok.listed (mem_get vs k v at)) (contains_mem v.atoms p there) in
      let covered = all_at (λ p. eqb (count_by (λ v. contains v.atoms p) vs) (cond (is_constant task actions p) 0 1)) atoms p ok.covered (contains_mem atoms p listed) in
      let exact = eqb-true (count_by (λ v. contains v.atoms p) vs) (cond (is_constant task actions p) 0 1) covered in
      let w = complete_from p vs 0 k v at there (at_most (is_constant task actions p) (count_by (λ v. contains v.atoms p) vs) exact) in
      (w.0, is p ∙ w.1, omega (arith, w.2));
}
  where
    at_most : (b : Bool) (n : ℕ) → n ≡ cond b 0 1 → n ≤ 1
    at_most true n e = omega (arith, e)
    at_most false n e = omega (arith, e)
