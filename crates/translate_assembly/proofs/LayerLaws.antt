-- Values set in two layers, first those at which no atom is true and then those of atoms, are what the variables are given.
use Rattle.std.proofs.Common.{◌≡◌, ◌≢◌, ℕ, true, false, cond, List, [], length, Option, Some, None, refl, sym, ap, ◌∙◌, ⊎_elim}
use Rattle.std.specs.Prelude.{slice_get, option_and_then}
use Rattle.std.specs.List.{list_any, position_or_len}
use Rattle.std.proofs.lemmas.Bool.{false_from_ne_true}
use Rattle.fdr.specs.declared.fact.Fact.{Fact}
use Rattle.pddl_task.specs.Atoms.{Atom, State, same_atom, contains, at_most_one}
use Rattle.pddl_task.proofs.Lists.{Mem, bool_same, mem_get, any_at, any_from, same_position}
use Rattle.pddl_task.proofs.AtomLaws.{same_atom_true, same_atom_self, contains_mem, mem_contains, one_of}
use Rattle.translate_theory.specs.Translations.{Variable, facts}
use Rattle.translate_assembly.specs.declared.slot.Slot.{Slot}
use Rattle.translate_assembly.specs.Slots.{Lookup}
use Rattle.translate_assembly.specs.Facts.{are_from, value_at, assigned}
use Rattle.translate_assembly.specs.Operators.{own_fact, none_fact}
use Rattle.translate_assembly.proofs.SetLaws.{assigned_from, assigned_value}
use Rattle.translate_assembly.proofs.FactLaws.{are_facts}
use Rattle.translate_assembly.proofs.SlotLaws.{IsLookup}

-- where at most one atom of a variable passes, one that passes is at the first place that passes
pub place_of_one : (test : State) (atoms : List Atom) (p : Atom) → at_most_one test atoms ≡ true → contains atoms p ≡ true → test p ≡ true
    → position_or_len test atoms ≡ position_or_len (same_atom p) atoms
place_of_one test atoms p one there passes =
    same_position test (same_atom p) atoms
    (λ q m. bool_same (test q) (same_atom p q)
    (λ t. let same = one_of test atoms one q p m (contains_mem atoms p there) t passes in rw same (self p))
    (λ s. rw (← same_atom_true p q s) passes))
  where
    self : (p : Atom) → same_atom p p ≡ true
    self p = same_atom_self p

module _ (vs : List Variable) (slots : Lookup) (ok : IsLookup vs slots) (test : State) (other : Variable → State) where
  -- the atom's value, or the none value, or nothing
  abbrev pub layered : Variable → Option ℕ
  layered v =
      cond (list_any test v.atoms) (Some (position_or_len test v.atoms)) (cond (list_any (other v) v.atoms) (Some (length v.atoms)) None)

  -- the elements name the facts of the atoms that pass
  pub record Names {X : Type 0} (own : X → Option Fact) (xs : List X) : Type 0 where
    pub sound : (x : X) (f : Fact) → Mem x xs → own x ≡ Some f → (p : Atom) × (s : Slot) × (test p ≡ true) × (slots p ≡ Some s) × (f ≡ own_fact s)
    pub complete : (p : Atom) (s : Slot) → test p ≡ true → slots p ≡ Some s → (x : X) × Mem x xs × (own x ≡ Some (own_fact s))

  -- the elements name the none values of the variables with an atom that passes the other test
  pub record Leaves {Y : Type 0} (gone : Y → Option Fact) (ys : List Y) : Type 0 where
    pub sound : (y : Y) (f : Fact) → Mem y ys → gone y ≡ Some f
        → (p : Atom) × (s : Slot) × (slots p ≡ Some s) × (f ≡ none_fact s)
        × ((v : Variable) → slice_get vs s.variable ≡ Some v → contains v.atoms p ≡ true → s.count ≡ length v.atoms → list_any test v.atoms ≡ false → other v p ≡ true)
    pub complete : (p : Atom) (s : Slot) (v : Variable) → slots p ≡ Some s → slice_get vs s.variable ≡ Some v → other v p ≡ true
        → contains v.atoms p ≡ true → s.count ≡ length v.atoms → (y : Y) × Mem y ys × (gone y ≡ Some (none_fact s))

  module _ {X Y : Type 0} (own : X → Option Fact) (xs : List X) (gone : Y → Option Fact) (ys : List Y) (names : Names own xs) (leaves : Leaves gone ys)
      (one : (v : Variable) → Mem v vs → at_most_one test v.atoms ≡ true) where
    -- no element names the variable: then none of its atoms passes
    none_passes : (k : ℕ) (v : Variable) → slice_get vs k ≡ Some v
        → ((x : X) (f : Fact) → Mem x xs → own x ≡ Some f → f.variable ≢ k) → list_any test v.atoms ≡ false
    none_passes k v at none = false_from_ne_true (list_any test v.atoms) (λ h.
        let q = any_at test v.atoms h in
        let w = ok.complete q.0 k v at (mem_contains v.atoms q.0 q.1) in
        let x = names.complete q.0 w.0 q.2 w.1 in
        none x.0 (own_fact w.0) x.1 x.2 w.2)

    none_left : (k : ℕ) (v : Variable) → slice_get vs k ≡ Some v
        → ((y : Y) (f : Fact) → Mem y ys → gone y ≡ Some f → f.variable ≢ k) → list_any (other v) v.atoms ≡ false
    none_left k v at none = false_from_ne_true (list_any (other v) v.atoms) (λ h.
        let q = any_at (other v) v.atoms h in
        let there = mem_contains v.atoms q.0 q.1 in
        let w = ok.complete q.0 k v at there in
        let here : slice_get vs w.0.variable ≡ Some v = ap (slice_get vs) w.2 ∙ at in
        let slot = ok.sound q.0 w.0 w.1 in
        let same : slot.variable ≡ v = let e : Some slot.variable ≡ Some v = sym slot.here ∙ here in cc in
        let y = leaves.complete q.0 w.0 v w.1 here q.2 there (slot.count ∙ ap (λ (u : Variable). length u.atoms) same) in
        none y.0 (none_fact w.0) y.1 y.2 w.2)

    named_value : (k : ℕ) (x : X) (f : Fact) → Mem x xs → own x ≡ Some f → f.variable ≡ k → Some f.value ≡ option_and_then layered (slice_get vs k)
    named_value k x f m gives here =
        let w = names.sound x f m gives in
        let slot = ok.sound w.0 w.1 w.3 in
        let v = slot.variable in
        let at : slice_get vs k ≡ Some v = ap (slice_get vs) (sym here ∙ ap (λ (g : Fact). g.variable) w.4) ∙ slot.here in
        let mem = mem_get vs k v at in
        let some : list_any test v.atoms ≡ true = any_from test v.atoms w.0 (contains_mem v.atoms w.0 slot.there) w.2 in
        let value : f.value ≡ position_or_len test v.atoms = ap (λ (g : Fact). g.value) w.4 ∙ slot.value ∙ sym (place_of_one test v.atoms w.0 (one v mem) slot.there w.2) in
        ap Some value ∙ sym (ap (option_and_then layered) at ∙ rw some refl)

    left_value : (k : ℕ) (y : Y) (f : Fact) → Mem y ys → gone y ≡ Some f → f.variable ≡ k
        → ((x : X) (f : Fact) → Mem x xs → own x ≡ Some f → f.variable ≢ k) → Some f.value ≡ option_and_then layered (slice_get vs k)
    left_value k y f m gives here none =
        let w = leaves.sound y f m gives in
        let slot = ok.sound w.0 w.1 w.2 in
        let v = slot.variable in
        let at : slice_get vs k ≡ Some v = ap (slice_get vs) (sym here ∙ ap (λ (g : Fact). g.variable) w.3) ∙ slot.here in
        let free = none_passes k v at none in
        let passes = w.4 v slot.here slot.there slot.count free in
        let some : list_any (other v) v.atoms ≡ true = any_from (other v) v.atoms w.0 (contains_mem v.atoms w.0 slot.there) passes in
        let value : f.value ≡ length v.atoms = ap (λ (g : Fact). g.value) w.3 ∙ slot.count in
        ap Some value ∙ sym (ap (option_and_then layered) at ∙ rw (free, some) refl)

    free_value : (k : ℕ) → ((x : X) (f : Fact) → Mem x xs → own x ≡ Some f → f.variable ≢ k) → ((y : Y) (f : Fact) → Mem y ys → gone y ≡ Some f → f.variable ≢ k)
        → None ≡ option_and_then layered (slice_get vs k)
    free_value k none out = go (slice_get vs k) refl
      where
        go : (o : Option Variable) → slice_get vs k ≡ o → None ≡ option_and_then layered o
        go None e = refl
        go (Some v) e = rw (none_passes k v e none, none_left k v e out) refl

    pub layers : (k : ℕ) → value_at (assigned own (assigned gone [] ys) xs) k ≡ option_and_then layered (slice_get vs k)
    layers k =
        ⊎_elim
        (λ w. w.value ∙ named_value k w.x w.f w.there w.gives w.here)
        (λ w. w.value ∙ ⊎_elim
        (λ u. u.value ∙ left_value k u.x u.f u.there u.gives u.here w.none)
        (λ u. u.value ∙ free_value k w.none u.none)
        (assigned_value gone ys [] k))
        (assigned_value own xs (assigned gone [] ys) k)

    pub layers_from : are_from 0 (assigned own (assigned gone [] ys) xs) ≡ true
    layers_from = assigned_from own xs (assigned gone [] ys) (assigned_from gone ys [] refl)

    pub layers_facts : assigned own (assigned gone [] ys) xs ≡ facts layered vs
    layers_facts = are_facts layered vs (assigned own (assigned gone [] ys) xs) layers_from layers
