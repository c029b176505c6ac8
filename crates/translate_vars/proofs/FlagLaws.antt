-- Flags by the places of atoms, and what they tell of the atoms at some of these places.
use Rattle.std.proofs.Common.{◌≡◌, ℕ, suc, ◌+◌, ◌<◌, Bool, true, false, ◌&&◌, ◌||◌, cond, List, [], ◌∷◌, ◌++◌, length, get_or, map, take, Option, Some, None, refl, sym, ap, ◌∙◌, inl, inr, ⊎_elim, subst, arith}
use Rattle.std.specs.Prelude.{slice_get, count_by, nat_le, IfSome}
use Rattle.std.specs.List.{list_all, list_any, cons_option}
use Rattle.std.specs.List.Sorted.{IsStrictlyIncreasing}
use Rattle.std.proofs.lemmas.Bool.{or_cases, or_left, le-leb, leb-true}
use Rattle.std.proofs.lemmas.List.{map-append}
use Rattle.std.proofs.lemmas.List.Kept.{AllPairs-from_increasing}
use Rattle.std.proofs.lemmas.List.Folds.{list_any_more}
use Rattle.std.proofs.Math.Seq.{take-suc}
use Rattle.std.proofs.lemmas.Option.{get_or_from_slice_get, slice_get-map}
use Rattle.pddl_task.specs.Atoms.{Atom, State, Literal, same_atom, contains, at_most_one, wants}
use Rattle.pddl_task.proofs.Lists.{Mem, bool_same}
use Rattle.pddl_task.proofs.AtomLaws.{same_atom_true, one_of, one_from, contains_mem, mem_contains}
use Rattle.ground_atoms.specs.Order.{AreDistinct, with_atom}
use Rattle.index_rows.specs.Numbers.{has}
use Rattle.mutex_index.specs.Places.{atoms_at}
use Rattle.index_rows.proofs.NumberLaws.{has_mem, mem_has}
use Rattle.mutex_index.proofs.IndexLaws.{counted_one, one_counted, get_of_within, one_place}
use Rattle.translate_vars.specs.Flags.{flag_at, Tell}

-- ---- how flags are made

pub one_more_flag : (f : State) (atoms : List Atom) (k : ℕ) (b : Bool) (now after : List Bool) → k < length atoms → now ≡ map f (take k atoms)
    → IfSome (slice_get atoms k) (λ p. b ≡ f p) → after ≡ now ++ b ∷ [] → after ≡ map f (take (k + 1) atoms)
one_more_flag f atoms k b now after l e is g =
    let p = get_of_within atoms k l in
    let s : suc k ≡ k + 1 = omega arith in
    let here : b ≡ f (get_or atoms k p.0) = (rw p.1 at is) ∙ ap f (sym (get_or_from_slice_get atoms k p.0 p.0 p.1)) in
    g ∙ ap (λ (bs : List Bool). bs ++ b ∷ []) e ∙ ap (λ (c : Bool). map f (take k atoms) ++ c ∷ []) here
    ∙ sym (map-append f (take k atoms) (get_or atoms k p.0 ∷ [])) ∙ ap (map f) (sym (take-suc atoms k p.0 l) ∙ ap (λ n. take n atoms) s)

pub tell_map : (f g : State) (atoms : List Atom) (flags : List Bool) → flags ≡ map g atoms → ((p : Atom) → g p ≡ f p) → Tell atoms f flags
tell_map f g atoms flags e same = record {
  told = λ k p h.
      let there : slice_get flags k ≡ Some (g p) = ap (λ (bs : List Bool). slice_get bs k) e ∙ slice_get-map g atoms k ∙ ap (λ (o : Option Atom). Rattle.std.specs.Option.option_map g o) h in
      get_or_from_slice_get flags k (g p) false there ∙ same p;
}

-- one more atom among those of a list
pub contains_with : (atoms : List Atom) (q p : Atom) → contains (with_atom atoms q) p ≡ (contains atoms p || same_atom p q)
contains_with atoms q p = go (contains atoms q) refl
  where
    more : (xs : List Atom) → contains (xs ++ q ∷ []) p ≡ (contains xs p || same_atom p q)
    more [] = either (same_atom p q)
      where
        either : (b : Bool) → (b || false) ≡ b
        either true = refl
        either false = refl
    more (x ∷ xs) = rw (more xs) (go3 (same_atom p x) (contains xs p) (same_atom p q))
      where
        go3 : (a b c : Bool) → (a || (b || c)) ≡ ((a || b) || c)
        go3 true b c = refl
        go3 false b c = refl

    go : (b : Bool) → contains atoms q ≡ b → contains (cond b atoms (atoms ++ q ∷ [])) p ≡ (contains atoms p || same_atom p q)
    go false e = more atoms
    go true e = bool_same (contains atoms p) (contains atoms p || same_atom p q)
        (λ h. or_left (contains atoms p) (same_atom p q) h)
        (λ h. ⊎_elim (λ l. l) (λ r. rw (same_atom_true p q r) e) (or_cases (contains atoms p) (same_atom p q) h))

-- one more literal, which is wanted or not
pub one_more_wanted : (literals : List Literal) (i : ℕ) (l : Literal) (now after : List Atom) → i < length literals → l ≡ get_or literals i l
    → ((p : Atom) → contains now p ≡ wants (take i literals) p) → l.positive ≡ true → after ≡ with_atom now l.atom
    → (p : Atom) → contains after p ≡ wants (take (i + 1) literals) p
one_more_wanted literals i l now after low is e positive g p =
    let here : (l.positive && same_atom p l.atom) ≡ same_atom p l.atom = rw positive refl in
    ap (λ (xs : List Atom). contains xs p) g ∙ contains_with now l.atom p ∙ ap (λ (b : Bool). b || same_atom p l.atom) (e p)
    ∙ ap (λ (b : Bool). wants (take i literals) p || b) (sym here)
    ∙ ap (λ (m : Literal). wants (take i literals) p || (m.positive && same_atom p m.atom)) is
    ∙ sym (list_any_more (λ (m : Literal). m.positive && same_atom p m.atom) literals i l low)

pub one_more_negated : (literals : List Literal) (i : ℕ) (l : Literal) (now : List Atom) → i < length literals → l ≡ get_or literals i l
    → ((p : Atom) → contains now p ≡ wants (take i literals) p) → l.positive ≡ false
    → (p : Atom) → contains now p ≡ wants (take (i + 1) literals) p
one_more_negated literals i l now low is e negated p =
    let here : (l.positive && same_atom p l.atom) ≡ false = rw negated refl in
    let stays : (b : Bool) → b ≡ (b || false) = λ b. elim b as (λ (b : Bool). b ≡ (b || false)) [ true ↦ refl | false ↦ refl ] in
    e p ∙ stays (wants (take i literals) p)
    ∙ ap (λ (b : Bool). wants (take i literals) p || b) (sym here)
    ∙ ap (λ (m : Literal). wants (take i literals) p || (m.positive && same_atom p m.atom)) is
    ∙ sym (list_any_more (λ (m : Literal). m.positive && same_atom p m.atom) literals i l low)

-- ---- atoms at places

pub mem_at : (atoms : List Atom) (places : List ℕ) (p : ℕ) (x : Atom) → Mem p places → slice_get atoms p ≡ Some x → Mem x (atoms_at atoms places)
mem_at atoms [] p x m e = absurd m
mem_at atoms (q ∷ places) p x m e = go (slice_get atoms q) refl m (λ n. mem_at atoms places p x n e)
  where
    go : (o : Option Atom) → slice_get atoms q ≡ o → Mem p (q ∷ places) → (Mem p places → Mem x (atoms_at atoms places)) → Mem x (cons_option o (atoms_at atoms places))
    go None f (inl s) ih = let w : slice_get atoms q ≡ Some x = rw s e in cc
    go None f (inr n) ih = ih n
    go (Some y) f (inl s) ih = let w : slice_get atoms q ≡ Some x = rw s e in inl (cc)
    go (Some y) f (inr n) ih = inr (ih n)

pub at_mem : (atoms : List Atom) (places : List ℕ) (x : Atom) → Mem x (atoms_at atoms places) → (p : ℕ) × Mem p places × (slice_get atoms p ≡ Some x)
at_mem atoms [] x m = absurd m
at_mem atoms (q ∷ places) x m = go (slice_get atoms q) refl m (at_mem atoms places x)
  where
    go : (o : Option Atom) → slice_get atoms q ≡ o → Mem x (cons_option o (atoms_at atoms places)) → (Mem x (atoms_at atoms places) → (p : ℕ) × Mem p places × (slice_get atoms p ≡ Some x))
        → (p : ℕ) × Mem p (q ∷ places) × (slice_get atoms p ≡ Some x)
    go None f n ih = let w = ih n in (w.0, inr w.1, w.2)
    go (Some y) f (inl s) ih = (q, inl refl, f ∙ ap Some s)
    go (Some y) f (inr n) ih = let w = ih n in (w.0, inr w.1, w.2)

-- the atom of a place is among those at places where the place is
pub contains_at : (atoms : List Atom) → AreDistinct atoms → (places : List ℕ) (k : ℕ) (p : Atom) → slice_get atoms k ≡ Some p → contains (atoms_at atoms places) p ≡ has places k
contains_at atoms distinct places k p e = bool_same (contains (atoms_at atoms places) p) (has places k)
    (λ h. let w = at_mem atoms places p (contains_mem (atoms_at atoms places) p h) in
    let same : w.0 ≡ k = one_place atoms distinct w.0 k p w.2 e in
    mem_has places k (rw (← same) w.1))
    (λ h. mem_contains (atoms_at atoms places) p (mem_at atoms places k p (has_mem places k h) e))

module _ (atoms : List Atom) where
  pub length_at : (places : List ℕ) → ((p : ℕ) → Mem p places → p < length atoms) → length (atoms_at atoms places) ≡ length places
  length_at [] within = refl
  length_at (q ∷ places) within =
      let x = get_of_within atoms q (within q (inl refl)) in
      rw x.1 (ap suc (length_at places (λ p m. within p (inr m))))

  module _ (f : State) (flags : List Bool) (told : Tell atoms f flags) where
    pub any_told : (places : List ℕ) → ((p : ℕ) → Mem p places → p < length atoms) → list_any (flag_at flags) places ≡ list_any f (atoms_at atoms places)
    any_told [] within = refl
    any_told (q ∷ places) within =
        let x = get_of_within atoms q (within q (inl refl)) in
        let rest = any_told places (λ p m. within p (inr m)) in
        rw (x.1, told.told q x.0 x.1, rest) refl

    pub one_told : AreDistinct atoms → (places : List ℕ) → IsStrictlyIncreasing places → ((p : ℕ) → Mem p places → p < length atoms)
        → nat_le (count_by (flag_at flags) places) 1 ≡ at_most_one f (atoms_at atoms places)
    one_told distinct places rising within = bool_same
        (nat_le (count_by (flag_at flags) places) 1)
        (at_most_one f (atoms_at atoms places))
        (λ h. one_from f (atoms_at atoms places) (λ x y mx my tx ty.
        let v = at_mem atoms places x mx in
        let w = at_mem atoms places y my in
        let one : v.0 ≡ w.0 = counted_one (flag_at flags) places
        (leb-true (count_by (flag_at flags) places) 1 h)
        v.0 w.0 v.1 w.1 (told.told v.0 x v.2 ∙ tx) (told.told w.0 y w.2 ∙ ty) in
        let there : slice_get atoms w.0 ≡ Some x = subst (λ n. slice_get atoms n ≡ Some x) one v.2 in
        cc (there, w.2)))
        (λ h. le-leb (count_by (flag_at flags) places) 1
        (one_counted (flag_at flags) places (λ i j l m. AllPairs-from_increasing places rising i j 0 l m) (λ p q mp mq tp tq.
        let x = get_of_within atoms p (within p mp) in
        let y = get_of_within atoms q (within q mq) in
        let same : x.0 ≡ y.0 = one_of f (atoms_at atoms places) h x.0 y.0 (mem_at atoms places p x.0 mp x.1) (mem_at atoms places q y.0 mq y.1)
        (sym (told.told p x.0 x.1) ∙ tp) (sym (told.told q y.0 y.1) ∙ tq) in
        one_place atoms distinct p q y.0 (x.1 ∙ ap Some same) y.1)))
