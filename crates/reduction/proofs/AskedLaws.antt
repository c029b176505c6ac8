-- Values that are apart, and effects that change a class: with more asked facts there are more of both.
use Rattle.std.proofs.Common.{◌≡◌, ℕ, ◌+◌, ◌<◌, true, false, List, get_or, zero-add, Option, Some, None, refl, sym, subst, ◌∙◌, arith, eqb, inl, inr, ⊎_elim}
use Rattle.std.specs.Prelude.{◌⊎◌, ◌&&◌, ◌||◌, not, Contains, IsSomeAnd, slice_get, slice_index}
use Rattle.std.specs.List.{list_any, range_with_len}
use Rattle.std.specs.Option.{option_map_or}
use Rattle.std.proofs.lemmas.Bool.{eqb-true, eqb-false, eq-eqb, ne_eqb, and_parts, and_from, or_left, or_right, or_cases, not-true, not_from_false, false≢true, cases_eq}
use Rattle.std.proofs.lemmas.List.FromFn.{length-range_with_len, get_or-range_with_len}
use Rattle.fdr.specs.declared.fact.Fact.{Fact}
use Rattle.fdr.specs.Tasks.{FiniteDomainTask, Operator, ranges, IsInRange}
use Rattle.abstraction.specs.Facts.{value_in}
use Rattle.reduction.specs.Facts.{Facts, fact, Includes}
use Rattle.reduction.specs.Asked.{are_apart, has_two_classes, changes_class, changes_classes, ChangesClass}
use Rattle.reduction.specs.Waiting.{waits_at, waits_at_any, WaitsFor, WaitsForAny}
use Rattle.reduction.proofs.Members.{any_at, any_from}

-- a number below a limit is in the list of these numbers
pub Contains-range : (n x : ℕ) → x < n → Contains (range_with_len 0 n) x
Contains-range n x l = (x, omega (arith, l, length-range_with_len 0 n), get_or-range_with_len 0 n x x l ∙ zero-add x)

pub apart_from : (asked : Facts) (v x y : ℕ) → (x ≡ y → ⊥) → (asked (fact v x) ≡ true) ⊎ (asked (fact v y) ≡ true) → are_apart asked v x y ≡ true
apart_from asked v x y ne h =
    and_from (not (eqb x y)) (asked (fact v x) || asked (fact v y)) (not_from_false (eqb x y) (ne_eqb x y ne))
    (⊎_elim
    (λ (a : asked (fact v x) ≡ true). or_left (asked (fact v x)) (asked (fact v y)) a)
    (λ (b : asked (fact v y) ≡ true). or_right (asked (fact v x)) (asked (fact v y)) b) h)

pub apart_parts : (asked : Facts) (v x y : ℕ) → are_apart asked v x y ≡ true → (x ≡ y → ⊥) × ((asked (fact v x) ≡ true) ⊎ (asked (fact v y) ≡ true))
apart_parts asked v x y h =
    let parts = and_parts (not (eqb x y)) (asked (fact v x) || asked (fact v y)) h in
    (eqb-false x y (not-true (eqb x y) parts.0), or_cases (asked (fact v x)) (asked (fact v y)) parts.1)

-- values that are not apart are equal, if one of them is asked for
pub same_if_asked : (asked : Facts) (v x y : ℕ) → are_apart asked v x y ≡ false → asked (fact v y) ≡ true → x ≡ y
same_if_asked asked v x y h a =
    ⊎_elim (λ (e : x ≡ y). e)
    (λ (ne : x ≡ y → ⊥). let apart : are_apart asked v x y ≡ true = apart_from asked v x y ne (inr a) in absurd (false≢true (sym h ∙ apart)))
    (cases_eq x y)

module _ (ranges : List ℕ) where
  two_from : (asked : Facts) (v x : ℕ) → x < slice_index ranges v → are_apart asked v 0 x ≡ true → has_two_classes ranges asked v ≡ true
  two_from asked v x l h = any_from (are_apart asked v 0) (range_with_len 0 (slice_index ranges v)) x (Contains-range (slice_index ranges v) x l) h

  -- a variable with two values, of which one is asked for, has two classes
  pub two_if_asked : (asked : Facts) (v x : ℕ) → x < slice_index ranges v → 1 < slice_index ranges v → asked (fact v x) ≡ true → has_two_classes ranges asked v ≡ true
  two_if_asked asked v x l two a =
      ⊎_elim
      (λ (e : x ≡ 0). two_from asked v 1 two (apart_from asked v 0 1 (λ (q : 0 ≡ 1). absurd (omega arith)) (inl (subst (λ (y : ℕ). asked (fact v y) ≡ true) e a))))
      (λ (ne : x ≡ 0 → ⊥). two_from asked v x l (apart_from asked v 0 x (λ (q : 0 ≡ x). ne (sym q)) (inr a)))
      (cases_eq x 0)

  below_of_range : (n x : ℕ) → Contains (range_with_len 0 n) x → x < n
  below_of_range n x h =
      let k : ℕ = h.0 in
      let l : k < n = omega (arith, h.1, length-range_with_len 0 n) in
      let at : get_or (range_with_len 0 n) k x ≡ 0 + k = get_or-range_with_len 0 n k x l in
      omega (arith, l, at, h.2)

  -- a variable with two classes has an asked value, and two values
  pub asked_if_two : (asked : Facts) (v : ℕ) → has_two_classes ranges asked v ≡ true →
      (1 < slice_index ranges v) × ((x : ℕ) × (x < slice_index ranges v) × (asked (fact v x) ≡ true))
  asked_if_two asked v h =
      let some = any_at (are_apart asked v 0) (range_with_len 0 (slice_index ranges v)) h in
      let y : ℕ = some.0 in
      let l : y < slice_index ranges v = below_of_range (slice_index ranges v) y some.1 in
      let parts = apart_parts asked v 0 y some.2 in
      let positive : 0 < y = ⊎_elim (λ (e : y ≡ 0). absurd (parts.0 (sym e))) (λ (ne : y ≡ 0 → ⊥). omega arith) (cases_eq y 0) in (
        omega arith,
        ⊎_elim (λ (a : asked (fact v 0) ≡ true). (0, omega arith, a)) (λ (b : asked (fact v y) ≡ true). (y, l, b)) parts.1,
      )

  -- ---- more asked facts

  module _ (asked more : Facts) (in' : Includes more asked) where
    apart_more : (v x y : ℕ) → are_apart asked v x y ≡ true → are_apart more v x y ≡ true
    apart_more v x y h =
        let parts = apart_parts asked v x y h in
        apart_from more v x y parts.0
        (⊎_elim (λ (a : asked (fact v x) ≡ true). inl (in' (fact v x) a)) (λ (b : asked (fact v y) ≡ true). inr (in' (fact v y) b)) parts.1)

    two_more : (v : ℕ) → has_two_classes ranges asked v ≡ true → has_two_classes ranges more v ≡ true
    two_more v h =
        let some = any_at (are_apart asked v 0) (range_with_len 0 (slice_index ranges v)) h in
        any_from (are_apart more v 0) (range_with_len 0 (slice_index ranges v)) some.0 some.1 (apart_more v 0 some.0 some.2)

    change_more : (precondition : List Fact) (e : Fact) → changes_class ranges asked precondition e ≡ true → changes_class ranges more precondition e ≡ true
    change_more precondition e h = go (value_in precondition e.variable) h
      where
        go : (r : Option ℕ) → option_map_or (λ x. are_apart asked e.variable x e.value) r (has_two_classes ranges asked e.variable) ≡ true →
            option_map_or (λ x. are_apart more e.variable x e.value) r (has_two_classes ranges more e.variable) ≡ true
        go None k = two_more e.variable k
        go (Some x) k = apart_more e.variable x e.value k

    pub changes_more : (op : Operator) → changes_classes ranges asked op ≡ true → changes_classes ranges more op ≡ true
    changes_more op h =
        let some = any_at (changes_class ranges asked op.precondition) op.effect h in
        any_from (changes_class ranges more op.precondition) op.effect some.0 some.1 (change_more op.precondition some.0 some.2)

  -- ---- waiting for a fact

  -- an effect that waits for a fact changes a class once the fact is asked for
  waits_change : (asked : Facts) (precondition : List Fact) (e f : Fact) → waits_at (value_in precondition e.variable) e f ≡ true → asked f ≡ true → changes_class ranges asked precondition e ≡ true
  waits_change asked precondition e f w a = go (value_in precondition e.variable) w
    where
      go : (r : Option ℕ) → waits_at r e f ≡ true → option_map_or (λ x. are_apart asked e.variable x e.value) r (has_two_classes ranges asked e.variable) ≡ true
      go None k = absurd (false≢true k)
      go (Some x) k =
          let parts = and_parts (not (eqb x e.value) && eqb e.variable f.variable) (eqb f.value x || eqb f.value e.value) k in
          let both = and_parts (not (eqb x e.value)) (eqb e.variable f.variable) parts.0 in
          let ne : x ≡ e.value → ⊥ = eqb-false x e.value (not-true (eqb x e.value) both.0) in
          let same : f.variable ≡ e.variable = sym (eqb-true e.variable f.variable both.1) in
          let here : asked (fact e.variable f.value) ≡ true = subst (λ (w : ℕ). asked (fact w f.value) ≡ true) same a in
          apart_from asked e.variable x e.value ne
          (⊎_elim
          (λ (q : eqb f.value x ≡ true). inl (subst (λ (y : ℕ). asked (fact e.variable y) ≡ true) (eqb-true f.value x q) here))
          (λ (q : eqb f.value e.value ≡ true). inr (subst (λ (y : ℕ). asked (fact e.variable y) ≡ true) (eqb-true f.value e.value q) here))
          (or_cases (eqb f.value x) (eqb f.value e.value) parts.1))

  waits_change_any : (asked : Facts) (precondition : List Fact) (e f : Fact) → waits_at_any (value_in precondition e.variable) e f.variable ≡ true → f.value < slice_index ranges f.variable →
      1 < slice_index ranges f.variable → asked f ≡ true → changes_class ranges asked precondition e ≡ true
  waits_change_any asked precondition e f w l two a = go (value_in precondition e.variable) w
    where
      go : (r : Option ℕ) → waits_at_any r e f.variable ≡ true → option_map_or (λ x. are_apart asked e.variable x e.value) r (has_two_classes ranges asked e.variable) ≡ true
      go None k =
          let same : f.variable ≡ e.variable = sym (eqb-true e.variable f.variable k) in
          subst (λ (w : ℕ). has_two_classes ranges asked w ≡ true) same (two_if_asked asked f.variable f.value l two a)
      go (Some x) k = absurd (false≢true k)

  -- an effect that changes a class waits for an asked fact, or for any on its variable
  change_waits : (asked : Facts) (precondition : List Fact) (e : Fact) → changes_class ranges asked precondition e ≡ true →
      ((f : Fact) × (asked f ≡ true) × (waits_at (value_in precondition e.variable) e f ≡ true))
      ⊎ ((f : Fact) × (asked f ≡ true) × (1 < slice_index ranges f.variable) × (waits_at_any (value_in precondition e.variable) e f.variable ≡ true))
  change_waits asked precondition e h = go (value_in precondition e.variable) h
    where
      go : (r : Option ℕ) → option_map_or (λ x. are_apart asked e.variable x e.value) r (has_two_classes ranges asked e.variable) ≡ true →
          ((f : Fact) × (asked f ≡ true) × (waits_at r e f ≡ true)) ⊎ ((f : Fact) × (asked f ≡ true) × (1 < slice_index ranges f.variable) × (waits_at_any r e f.variable ≡ true))
      go None k =
          let found = asked_if_two asked e.variable k in
          inr (fact e.variable found.1.0, found.1.2, found.0, eq-eqb e.variable e.variable refl)
      go (Some x) k =
          let parts = apart_parts asked e.variable x e.value k in
          let unequal : not (eqb x e.value) ≡ true = not_from_false (eqb x e.value) (ne_eqb x e.value parts.0) in
          let both : (not (eqb x e.value) && eqb e.variable e.variable) ≡ true = and_from (not (eqb x e.value)) (eqb e.variable e.variable) unequal (eq-eqb e.variable e.variable refl) in
          ⊎_elim
          (λ (a : asked (fact e.variable x) ≡ true).
          inl (fact e.variable x, a, and_from (not (eqb x e.value) && eqb e.variable e.variable) (eqb x x || eqb x e.value) both (or_left (eqb x x) (eqb x e.value) (eq-eqb x x refl))))
          (λ (b : asked (fact e.variable e.value) ≡ true).
          inl (fact e.variable e.value, b, and_from (not (eqb x e.value) && eqb e.variable e.variable) (eqb e.value x || eqb e.value e.value) both (or_right (eqb e.value x) (eqb e.value e.value) (eq-eqb e.value e.value refl))))
          parts.1

-- an operator that waits for a fact changes a class once the fact is asked for
pub waits_due : (task : FiniteDomainTask) (asked : Facts) (f : Fact) (o : ℕ) → asked f ≡ true → WaitsFor task f o → (more : Facts) → Includes more asked → ChangesClass task more o
waits_due task asked f o a w more in' = go (slice_get task.operators o) w
  where
    go : (r : Option Operator) → IsSomeAnd r (λ op. list_any (λ e. waits_at (value_in op.precondition e.variable) e f) op.effect ≡ true) → IsSomeAnd r (λ op. changes_classes (ranges task) more op ≡ true)
    go None h = absurd h
    go (Some op) h =
        let some = any_at (λ (e : Fact). waits_at (value_in op.precondition e.variable) e f) op.effect h in
        any_from (changes_class (ranges task) more op.precondition) op.effect some.0 some.1 (waits_change (ranges task) more op.precondition some.0 f some.2 (in' f a))

pub waits_any_due : (task : FiniteDomainTask) (asked : Facts) (f : Fact) (o : ℕ) → IsInRange (ranges task) f → 1 < slice_index (ranges task) f.variable → asked f ≡ true → WaitsForAny task f.variable o →
    (more : Facts) → Includes more asked → ChangesClass task more o
waits_any_due task asked f o range two a w more in' = go (slice_get task.operators o) w
  where
    go : (r : Option Operator) → IsSomeAnd r (λ op. list_any (λ e. waits_at_any (value_in op.precondition e.variable) e f.variable) op.effect ≡ true) → IsSomeAnd r (λ op. changes_classes (ranges task) more op ≡ true)
    go None h = absurd h
    go (Some op) h =
        let some = any_at (λ (e : Fact). waits_at_any (value_in op.precondition e.variable) e f.variable) op.effect h in
        any_from (changes_class (ranges task) more op.precondition) op.effect some.0 some.1 (waits_change_any (ranges task) more op.precondition some.0 f some.2 range.1 two (in' f a))

-- an operator that changes a class waits for an asked fact, or for any fact on the variable of one
pub changing_waits : (task : FiniteDomainTask) (asked : Facts) (o : ℕ) → ChangesClass task asked o →
    ((f : Fact) × (asked f ≡ true) × WaitsFor task f o) ⊎ ((f : Fact) × (asked f ≡ true) × (1 < slice_index (ranges task) f.variable) × WaitsForAny task f.variable o)
changing_waits task asked o h = go (slice_get task.operators o) h
  where
    go : (r : Option Operator) → IsSomeAnd r (λ op. changes_classes (ranges task) asked op ≡ true) →
        ((f : Fact) × (asked f ≡ true) × IsSomeAnd r (λ op. list_any (λ e. waits_at (value_in op.precondition e.variable) e f) op.effect ≡ true))
        ⊎ ((f : Fact) × (asked f ≡ true) × (1 < slice_index (ranges task) f.variable) × IsSomeAnd r (λ op. list_any (λ e. waits_at_any (value_in op.precondition e.variable) e f.variable) op.effect ≡ true))
    go None k = absurd k
    go (Some op) k =
        let some = any_at (changes_class (ranges task) asked op.precondition) op.effect k in
        let e : Fact = some.0 in
        ⊎_elim
        (λ (w : (f : Fact) × (asked f ≡ true) × (waits_at (value_in op.precondition e.variable) e f ≡ true)).
        inl (w.0, w.1, any_from (λ (d : Fact). waits_at (value_in op.precondition d.variable) d w.0) op.effect e some.1 w.2))
        (λ (w : (f : Fact) × (asked f ≡ true) × (1 < slice_index (ranges task) f.variable) × (waits_at_any (value_in op.precondition e.variable) e f.variable ≡ true)).
        inr (w.0, w.1, w.2, any_from (λ (d : Fact). waits_at_any (value_in op.precondition d.variable) d w.0.variable) op.effect e some.1 w.3))
        (change_waits (ranges task) asked op.precondition e some.2)
