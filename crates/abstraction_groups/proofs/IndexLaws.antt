-- The entries of one operator more, and the lists of the entries.
use Rattle.std.proofs.Common.{◌≡◌, ℕ, zero, suc, ◌+◌, ◌<◌, ◌≤◌, Bool, true, false, List, [], ◌∷◌, ◌++◌, length, get_or, refl, sym, ap, ◌∙◌, subst, arith, cond, eqb, Option, Some, None, ⊎_elim}
use Rattle.std.specs.Prelude.{◌↔◌, not, All, Contains, IsSomeAnd, slice_get, slice_index_or}
use Rattle.std.specs.List.Sorted.{IsStrictlyIncreasing}
use Rattle.std.proofs.lemmas.Bool.{cases_lt, eqb-true, and_parts, or_parts, false≢true}
use Rattle.std.proofs.lemmas.List.{append-nil, length-map}
use Rattle.std.proofs.lemmas.List.Elements.{All-nil, All-head, All-tail, All-append, All-map, All-contains_itself, Contains-append_left, Contains-append_right, Contains-append_cases, Contains-push, Contains-push_cases}
use Rattle.std.proofs.lemmas.List.FromFn.{length-map-range_with_len, get_or-map-range_with_len}
use Rattle.std.proofs.lemmas.Option.{slice_get_within}
use Rattle.keyed_lists.specs.declared.lists.Keyed.{Keyed}
use Rattle.keyed_lists.specs.Lists.{items_with, lists_by}
use Rattle.fdr.specs.declared.fact.Fact.{Fact}
use Rattle.keyed_lists.proofs.Counts.{items_append}
use Rattle.fdr.specs.Tasks.{FiniteDomainTask, Operator, ranges, IsAssignment, names_variable, are_distinct}
use Rattle.abstraction_groups.specs.Indexes.{HasEffectOn, AreOperatorsByEffect, entries_of, AreEffects}

-- the operator is listed once under each variable of its effect
none_listed : (o v : ℕ) (fs : List Fact) → names_variable fs v ≡ false → items_with v (entries_of o fs) ≡ []
none_listed o v [] e = refl
none_listed o v (f ∷ fs) e = let parts = or_parts (eqb f.variable v) (names_variable fs v) e in rw (parts.0) (none_listed o v fs parts.1)

once_listed : (o v : ℕ) (fs : List Fact) → are_distinct fs ≡ true → names_variable fs v ≡ true → items_with v (entries_of o fs) ≡ o ∷ []
once_listed o v [] d e = absurd (false≢true e)
once_listed o v (f ∷ fs) d e = go (eqb f.variable v) refl (λ m. once_listed o v fs (and_parts (not (names_variable fs f.variable)) (are_distinct fs) d).1 m) e
  where
    opposite : (b : Bool) → not b ≡ true → b ≡ false
    opposite true h = absurd (false≢true h)
    opposite false h = refl

    others : names_variable fs f.variable ≡ false
    others = opposite (names_variable fs f.variable) (and_parts (not (names_variable fs f.variable)) (are_distinct fs) d).0

    go : (b : Bool) → eqb f.variable v ≡ b → (names_variable fs v ≡ true → items_with v (entries_of o fs) ≡ o ∷ []) → names_variable (f ∷ fs) v ≡ true →
        cond b (o ∷ items_with v (entries_of o fs)) (items_with v (entries_of o fs)) ≡ o ∷ []
    go true q rest m =
        let same : f.variable ≡ v = eqb-true f.variable v q in
        ap (λ (xs : List ℕ). o ∷ xs) (none_listed o v fs (rw same at others))
    go false q rest m = let later : names_variable fs v ≡ true = rw q at m in rest later

-- a greater number behind strictly increasing ones
pub increasing_push : (xs : List ℕ) (v : ℕ) → IsStrictlyIncreasing xs → All (λ x. x < v) xs → IsStrictlyIncreasing (xs ++ v ∷ [])
increasing_push [] v h below k l = absurd (omega arith)
increasing_push (p ∷ []) v h below zero l = All-head (λ x. x < v) p [] below
increasing_push (p ∷ []) v h below (suc k) l = absurd (omega arith)
increasing_push (p ∷ q ∷ ps) v h below zero l = h zero (omega arith)
increasing_push (p ∷ q ∷ ps) v h below (suc k) l =
    let next : suc k + 1 ≡ suc (k + 1) = omega arith in
    let rest : IsStrictlyIncreasing (q ∷ ps) = λ j m. (let step : suc j + 1 ≡ suc (j + 1) = omega arith in rw step at (h (suc j) (omega arith))) in
    rw next (increasing_push (q ∷ ps) v rest (All-tail (λ x. x < v) p (q ∷ ps) below) k (omega arith))

pub effects_none : (task : FiniteDomainTask) → AreEffects task 0 []
effects_none task =
    record {
      keys = All-nil (λ (e : Keyed ℕ). e.key < length task.value_names);
      below = All-nil (λ (e : Keyed ℕ). e.item < 0);
      increasing = λ v k l. absurd (omega arith);
      operators = λ v o. (λ h. let l : h.0 < 0 = h.1 in absurd (omega arith), λ h. let l = h.0 in absurd (omega arith));
    }

module _ (task : FiniteDomainTask) (n : ℕ) (op : Operator) (at : slice_get task.operators n ≡ Some op) (is : IsAssignment (ranges task) op.effect)
    (entries : List (Keyed ℕ)) (are : AreEffects task n entries) where
  split : (v : ℕ) → items_with v (entries ++ entries_of n op.effect) ≡ items_with v entries ++ items_with v (entries_of n op.effect)
  split v = items_append v entries (entries_of n op.effect)

  with_one : (v : ℕ) → names_variable op.effect v ≡ true → items_with v (entries ++ entries_of n op.effect) ≡ items_with v entries ++ n ∷ []
  with_one v e = split v ∙ ap (λ (xs : List ℕ). items_with v entries ++ xs) (once_listed n v op.effect is.distinct e)

  with_none : (v : ℕ) → names_variable op.effect v ≡ false → items_with v (entries ++ entries_of n op.effect) ≡ items_with v entries
  with_none v e = split v ∙ ap (λ (xs : List ℕ). items_with v entries ++ xs) (none_listed n v op.effect e) ∙ append-nil (items_with v entries)

  lower : (v : ℕ) → All (λ o. o < n) (items_with v entries)
  lower v k d l = ((are.operators v (get_or (items_with v entries) k d)).0 (All-contains_itself (items_with v entries) k d l)).0

  rises : (v : ℕ) (b : Bool) → names_variable op.effect v ≡ b → IsStrictlyIncreasing (items_with v (entries ++ entries_of n op.effect))
  rises v true e = subst IsStrictlyIncreasing (sym (with_one v e)) (increasing_push (items_with v entries) n (are.increasing v) (lower v))
  rises v false e = subst IsStrictlyIncreasing (sym (with_none v e)) (are.increasing v)

  has : (v : ℕ) → names_variable op.effect v ≡ true → HasEffectOn task n v
  has v e = subst (λ (r : Option Operator). IsSomeAnd r (λ op. names_variable op.effect v ≡ true)) (sym at) e

  named : (v : ℕ) → HasEffectOn task n v → names_variable op.effect v ≡ true
  named v h = subst (λ (r : Option Operator). IsSomeAnd r (λ op. names_variable op.effect v ≡ true)) at h

  lists : (v o : ℕ) (b : Bool) → names_variable op.effect v ≡ b → Contains (items_with v (entries ++ entries_of n op.effect)) o ↔ ((o < n + 1) × HasEffectOn task o v)
  lists v o true e = subst (λ (xs : List ℕ). Contains xs o ↔ ((o < n + 1) × HasEffectOn task o v)) (sym (with_one v e)) (
    λ h.
        ⊎_elim
        (λ (q : Contains (items_with v entries) o). let r = (are.operators v o).0 q in (let l = r.0 in omega arith, r.1))
        (λ (q : n ≡ o). (omega arith, subst (λ (m : ℕ). HasEffectOn task m v) q (has v e)))
        (Contains-push_cases (items_with v entries) n o h),
    λ h.
        ⊎_elim
        (λ (q : o < n). Contains-append_left (items_with v entries) (n ∷ []) o ((are.operators v o).1 (q, h.1)))
        (λ (q : n ≤ o). let l = h.0 in let same : n ≡ o = omega arith in subst (λ (m : ℕ). Contains (items_with v entries ++ n ∷ []) m) same (Contains-push (items_with v entries) n))
        (cases_lt o n),
  )
  lists v o false e = subst (λ (xs : List ℕ). Contains xs o ↔ ((o < n + 1) × HasEffectOn task o v)) (sym (with_none v e)) (
    λ h. let r = (are.operators v o).0 h in (let l = r.0 in omega arith, r.1),
    λ h.
        ⊎_elim
        (λ (q : o < n). (are.operators v o).1 (q, h.1))
        (λ (q : n ≤ o). let l = h.0 in let same : o ≡ n = omega arith in absurd (false≢true (sym e ∙ named v (subst (λ (m : ℕ). HasEffectOn task m v) same h.1))))
        (cases_lt o n),
  )

  pub effects_more : AreEffects task (n + 1) (entries ++ entries_of n op.effect)
  effects_more =
      record {
        keys = All-append (λ (e : Keyed ℕ). e.key < length task.value_names) entries (entries_of n op.effect) are.keys
            (All-map (λ (e : Keyed ℕ). e.key < length task.value_names) (λ (f : Fact). record { key = f.variable; item = n }) op.effect
            (λ k d l. let known = (is.in_range k d l).0 in omega (arith, length-map task.value_names length)));
        below = All-append (λ (e : Keyed ℕ). e.item < n + 1) entries (entries_of n op.effect) (λ k d l. let low = are.below k d l in omega arith)
            (All-map (λ (e : Keyed ℕ). e.item < n + 1) (λ (f : Fact). record { key = f.variable; item = n }) op.effect (λ k d l. omega arith));
        increasing = λ v. rises v (names_variable op.effect v) refl;
        operators = λ v o. lists v o (names_variable op.effect v) refl;
      }

-- ---- the operators with effects on several variables

pub affecting_more : (task : FiniteDomainTask) (vs : List ℕ) (v : ℕ) (os more : List ℕ) →
    ((o : ℕ) → Contains os o ↔ ((w : ℕ) × Contains vs w × HasEffectOn task o w)) → ((o : ℕ) → Contains more o ↔ HasEffectOn task o v) →
    (o : ℕ) → Contains (os ++ more) o ↔ ((w : ℕ) × Contains (vs ++ v ∷ []) w × HasEffectOn task o w)
affecting_more task vs v os more before one o = (
  λ h.
      ⊎_elim
      (λ (q : Contains os o). let r = (before o).0 q in (r.0, Contains-append_left vs (v ∷ []) r.0 r.1, r.2))
      (λ (q : Contains more o). (v, Contains-push vs v, (one o).0 q))
      (Contains-append_cases os more o h),
  λ h.
      ⊎_elim
      (λ (q : Contains vs h.0). Contains-append_left os more o ((before o).1 (h.0, q, h.2)))
      (λ (q : v ≡ h.0). Contains-append_right os more o ((one o).1 (subst (λ (w : ℕ). HasEffectOn task o w) (sym q) h.2)))
      (Contains-push_cases vs v h.0 h.1),
)

pub affects_within : (task : FiniteDomainTask) (o v : ℕ) → HasEffectOn task o v → o < length task.operators
affects_within task o v h = go (slice_get task.operators o) refl h
  where
    go : (r : Option Operator) → slice_get task.operators o ≡ r → IsSomeAnd r (λ op. names_variable op.effect v ≡ true) → o < length task.operators
    go None e q = absurd q
    go (Some op) e q = slice_get_within task.operators o op e

pub index_told : (task : FiniteDomainTask) (entries : List (Keyed ℕ)) → AreEffects task (length task.operators) entries → AreOperatorsByEffect task (lists_by (length task.value_names) entries)
index_told task entries are =
    record {
      as_long = length-map-range_with_len (λ v. items_with v entries) 0 (length task.value_names);
      increasing = λ v l. subst IsStrictlyIncreasing (sym (at v l)) (are.increasing v);
      operators = λ v o l. subst (λ (xs : List ℕ). Contains xs o ↔ HasEffectOn task o v) (sym (at v l)) (
        λ h. ((are.operators v o).0 h).1,
        λ h. (are.operators v o).1 (affects_within task o v h, h),
      );
    }
  where
    at : (v : ℕ) → v < length (lists_by (length task.value_names) entries) → slice_index_or (lists_by (length task.value_names) entries) v [] ≡ items_with v entries
    at v l = get_or-map-range_with_len (λ v. items_with v entries) 0 (length task.value_names) v v [] (omega (arith, length-map-range_with_len (λ v. items_with v entries) 0 (length task.value_names))) (omega arith)
