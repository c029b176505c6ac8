-- Steps of loops.
use Rattle.std.proofs.Common.{◌≡◌, ℕ, zero, suc, ◌+◌, ◌<◌, ◌≤◌, Bool, true, false, List, [], ◌∷◌, ◌++◌, length, take, filter, get_or, replicate, add-one, Option, Some, None, refl, sym, ap, subst, ◌∙◌, arith, cond, eqb, inl, inr, ⊎_elim}
use Rattle.std.specs.Prelude.{◌⊎◌, All, Contains, slice_get, slice_index_or, slice_set}
use Rattle.std.specs.List.{flat_map, range_with_len}
use Rattle.std.specs.List.Sorted.{IsStrictlyIncreasing}
use Rattle.std.proofs.lemmas.Bool.{eqb-true, eqb-false, or_parts, or_from, false≢true, cases_lt, cases_Bool}
use Rattle.std.proofs.lemmas.Option.{slice_get-get_or}
use Rattle.std.proofs.lemmas.List.{take-append-le, take_more, take_all, get_or-set_same, get_or-set_other, get_or-replicate, get_or_past, length-replicate, append-nil, get_or_default}
use Rattle.std.proofs.lemmas.List.Elements.{All-head, All-tail}
use Rattle.fdr.specs.declared.fact.Fact.{Fact}
use Rattle.keyed_lists.specs.declared.lists.Keyed.{Keyed}
use Rattle.fdr.specs.Tasks.{FiniteDomainTask, Operator, ranges, IsOperator, names_variable, are_distinct}
use Rattle.abstraction.specs.Facts.{value_in}
use Rattle.reduction_classes.proofs.Staying.{passing_yes, passing_no, passing_at, place_of_passing}
use Rattle.reduction.specs.Closing.{is_marked}
use Rattle.reduction.specs.Waiting.{value_entries, variable_entries, all_value_entries, all_variable_entries, AreEntries}
use Rattle.reduction.proofs.FactLists.{value_in-cons}
use Rattle.reduction.proofs.EntryLaws.{distinct_before, value_in-push, entries_more}

-- ---- values of variables

-- the value of one fact more
pub set_more : (facts : List Fact) (i : ℕ) (values : List (Option ℕ)) → i < length facts → (get_or facts i (record { variable = 0; value = 0 })).variable < length values → are_distinct facts ≡ true →
    ((v : ℕ) → slice_index_or values v None ≡ value_in (take i facts) v) →
    (v : ℕ) → slice_index_or (slice_set values (get_or facts i (record { variable = 0; value = 0 })).variable (Some (get_or facts i (record { variable = 0; value = 0 })).value)) v None ≡ value_in (take (i + 1) facts) v
set_more facts i values l within distinct so_far v =
    let f : Fact = get_or facts i (record { variable = 0; value = 0 }) in
    let more : value_in (take (i + 1) facts) v ≡ cond (eqb f.variable v) (Some f.value) (value_in (take i facts) v) =
    ap (λ (fs : List Fact). value_in fs v) (take_more facts i (record { variable = 0; value = 0 }) l)
    ∙ value_in-push (take i facts) f v (distinct_before facts i (record { variable = 0; value = 0 }) distinct l) in
    go f (eqb f.variable v) refl within ∙ sym more
  where
    go : (f : Fact) (b : Bool) → eqb f.variable v ≡ b → f.variable < length values → slice_index_or (slice_set values f.variable (Some f.value)) v None ≡ cond (eqb f.variable v) (Some f.value) (value_in (take i facts) v)
    go f true e k = rw e (subst (λ (w : ℕ). slice_index_or (slice_set values f.variable (Some f.value)) w None ≡ Some f.value) (eqb-true f.variable v e) (get_or-set_same values f.variable (Some f.value) None k))
    go f false e k = rw e (get_or-set_other values f.variable v (Some f.value) None (λ (q : v ≡ f.variable). eqb-false f.variable v e (sym q)) ∙ so_far v)

names-push : (fs : List Fact) (f : Fact) (v : ℕ) → names_variable fs v ≡ false → eqb f.variable v ≡ false → names_variable (fs ++ f ∷ []) v ≡ false
names-push [] f v h e = or_from (eqb f.variable v) false e refl
names-push (g ∷ gs) f v h e =
    let parts = or_parts (eqb g.variable v) (names_variable gs v) h in
    or_from (eqb g.variable v) (names_variable (gs ++ f ∷ []) v) parts.0 (names-push gs f v parts.1 e)

-- the values of one fact more are erased
pub clear_more : (facts : List Fact) (i : ℕ) (values : List (Option ℕ)) → i < length facts → (get_or facts i (record { variable = 0; value = 0 })).variable < length values →
    ((v : ℕ) → (slice_index_or values v None ≡ None) ⊎ ((names_variable (take i facts) v ≡ false) × (slice_index_or values v None ≡ value_in facts v))) →
    (v : ℕ) → (slice_index_or (slice_set values (get_or facts i (record { variable = 0; value = 0 })).variable None) v None ≡ None)
    ⊎ ((names_variable (take (i + 1) facts) v ≡ false) × (slice_index_or (slice_set values (get_or facts i (record { variable = 0; value = 0 })).variable None) v None ≡ value_in facts v))
clear_more facts i values l within so_far v = go (get_or facts i (record { variable = 0; value = 0 })) (take_more facts i (record { variable = 0; value = 0 }) l) within
  where
    go : (f : Fact) → take (i + 1) facts ≡ take i facts ++ f ∷ [] → f.variable < length values →
        (slice_index_or (slice_set values f.variable None) v None ≡ None) ⊎ ((names_variable (take (i + 1) facts) v ≡ false) × (slice_index_or (slice_set values f.variable None) v None ≡ value_in facts v))
    go f more k =
        ⊎_elim
        (λ (e : eqb f.variable v ≡ true). inl (subst (λ (w : ℕ). slice_index_or (slice_set values f.variable None) w None ≡ None) (eqb-true f.variable v e) (get_or-set_same values f.variable None None k)))
        (λ (e : eqb f.variable v ≡ false).
        let same : slice_index_or (slice_set values f.variable None) v None ≡ slice_index_or values v None = get_or-set_other values f.variable v None None (λ (q : v ≡ f.variable). eqb-false f.variable v e (sym q)) in
        ⊎_elim (λ (n : slice_index_or values v None ≡ None). inl (same ∙ n))
        (λ (n : (names_variable (take i facts) v ≡ false) × (slice_index_or values v None ≡ value_in facts v)).
        inr (ap (λ (fs : List Fact). names_variable fs v) more ∙ names-push (take i facts) f v n.0 e, same ∙ n.1))
        (so_far v))
        (cases_Bool (eqb f.variable v))

-- no value is left when the values of all facts are erased
pub clear_all : (facts : List Fact) (i : ℕ) (values : List (Option ℕ)) → length facts ≤ i →
    ((v : ℕ) → (slice_index_or values v None ≡ None) ⊎ ((names_variable (take i facts) v ≡ false) × (slice_index_or values v None ≡ value_in facts v))) → (v : ℕ) → slice_index_or values v None ≡ None
clear_all facts i values l so_far v =
    ⊎_elim (λ (n : slice_index_or values v None ≡ None). n)
    (λ (n : (names_variable (take i facts) v ≡ false) × (slice_index_or values v None ≡ value_in facts v)).
    n.1 ∙ unnamed facts (ap (λ (fs : List Fact). names_variable fs v) (sym (take_all i facts l)) ∙ n.0))
    (so_far v)
  where
    unnamed : (fs : List Fact) → names_variable fs v ≡ false → value_in fs v ≡ None
    unnamed [] h = refl
    unnamed (f ∷ fs) h = let parts = or_parts (eqb f.variable v) (names_variable fs v) h in value_in-cons f fs v false parts.0 ∙ unnamed fs parts.1

-- no value at first
pub none_first : (n v : ℕ) → slice_index_or (replicate {A = Option ℕ} n None) v None ≡ None
none_first n v =
    ⊎_elim (λ (l : v < n). get_or-replicate n v None None l) (λ (l : n ≤ v). get_or_past (replicate {A = Option ℕ} n None) v None (omega (arith, l, length-replicate {A = Option ℕ} n None))) (cases_lt v n)

-- ---- entries

-- the items of equal functions
pub flat_same : {X Y : Type 0} (f g : X → List Y) → ((x : X) → f x ≡ g x) → (xs : List X) → flat_map f xs ≡ flat_map g xs
flat_same f g e [] = refl
flat_same f g e (x ∷ xs) = rw (e x, flat_same f g e xs) refl

-- a list that was written over another of its length
pub written : {X : Type 0} (n : ℕ) (new rest : List X) → length new ≡ n → take n (new ++ rest) ≡ new
written n new rest e = take-append-le n new rest (omega (arith, e)) ∙ take_all n new (omega (arith, e))

-- the entries of one operator more, whose conditions are recorded by variable
pub entries_step : (task : FiniteDomainTask) (n : ℕ) (op : Operator) (a more : List (Keyed (Keyed ℕ))) (b longer : List (Keyed ℕ)) (values : List (Option ℕ)) → n < length task.operators → op ≡ get_or task.operators n op →
    All (IsOperator (ranges task)) task.operators → ((v : ℕ) → slice_index_or values v None ≡ value_in op.precondition v) → AreEntries task n a b →
    more ≡ a ++ flat_map (λ e. value_entries n (slice_index_or values e.variable None) e) op.effect → longer ≡ b ++ flat_map (λ e. variable_entries n (slice_index_or values e.variable None) e) op.effect → AreEntries task (n + 1) more longer
entries_step task n op a more b longer values l is all read are ea eb =
    let at : slice_get task.operators n ≡ Some op = slice_get-get_or task.operators n op l ∙ ap Some (sym is) in
    let well : IsOperator (ranges task) op = subst (IsOperator (ranges task)) (sym is) (all n op l) in
    let by_value : more ≡ a ++ all_value_entries n op.precondition op.effect =
    ea ∙ ap (λ (xs : List (Keyed (Keyed ℕ))). a ++ xs) (flat_same (λ (e : Fact). value_entries n (slice_index_or values e.variable None) e) (λ (e : Fact). value_entries n (value_in op.precondition e.variable) e)
    (λ e. ap (λ (r : Option ℕ). value_entries n r e) (read e.variable)) op.effect) in
    let by_variable : longer ≡ b ++ all_variable_entries n op.precondition op.effect =
    eb ∙ ap (λ (xs : List (Keyed ℕ)). b ++ xs) (flat_same (λ (e : Fact). variable_entries n (slice_index_or values e.variable None) e) (λ (e : Fact). variable_entries n (value_in op.precondition e.variable) e)
    (λ e. ap (λ (r : Option ℕ). variable_entries n r e) (read e.variable)) op.effect) in
    subst (λ (xs : List (Keyed (Keyed ℕ))). AreEntries task (n + 1) xs longer) (sym by_value)
    (subst (AreEntries task (n + 1) (a ++ all_value_entries n op.precondition op.effect)) (sym by_variable) (entries_more task n op at well a b are))

-- ---- increasing numbers

increasing_push : (xs : List ℕ) (v : ℕ) → IsStrictlyIncreasing xs → All (λ x. x < v) xs → IsStrictlyIncreasing (xs ++ v ∷ [])
increasing_push [] v h below k l = absurd (omega arith)
increasing_push (p ∷ []) v h below zero l = All-head (λ x. x < v) p [] below
increasing_push (p ∷ []) v h below (suc k) l = absurd (omega arith)
increasing_push (p ∷ q ∷ ps) v h below zero l = h zero (omega arith)
increasing_push (p ∷ q ∷ ps) v h below (suc k) l =
    let next : suc k + 1 ≡ suc (k + 1) = omega arith in
    let rest : IsStrictlyIncreasing (q ∷ ps) = λ j m. (let step : suc j + 1 ≡ suc (j + 1) = omega arith in rw step at (h (suc j) (omega arith))) in
    rw next (increasing_push (q ∷ ps) v rest (All-tail (λ x. x < v) p (q ∷ ps) below) k (omega arith))

-- the numbers below n that pass a test are strictly increasing
module _ (p : ℕ → Bool) where
  all_below : (n : ℕ) → All (λ x. x < n) (filter p (range_with_len 0 n))
  all_below n k d l = let at = passing_at p n k l in omega (arith, at.0, get_or_default (filter p (range_with_len 0 n)) k d 0 l)

  pub filter_increasing : (n : ℕ) → IsStrictlyIncreasing (filter p (range_with_len 0 n))
  filter_increasing zero = λ k l. absurd (omega arith)
  filter_increasing (suc n) =
      ⊎_elim
      (λ (y : p n ≡ true). subst IsStrictlyIncreasing (sym (passing_yes p n y)) (increasing_push (filter p (range_with_len 0 n)) n (filter_increasing n) (all_below n)))
      (λ (y : p n ≡ false). subst IsStrictlyIncreasing (sym (passing_no p n y ∙ append-nil (filter p (range_with_len 0 n)))) (filter_increasing n))
      (cases_Bool (p n))

  -- the listed numbers are those that pass
  pub in_filter : (n x : ℕ) → x < n → p x ≡ true → Contains (filter p (range_with_len 0 n)) x
  in_filter n x l h =
      let place = place_of_passing p n x l h in
      (length (filter p (range_with_len 0 x)), place.0, get_or_default (filter p (range_with_len 0 n)) (length (filter p (range_with_len 0 x))) x 0 place.0 ∙ place.1)

  pub of_filter : (n x : ℕ) → Contains (filter p (range_with_len 0 n)) x → (x < n) × (p x ≡ true)
  of_filter n x h =
      let at = passing_at p n h.0 h.1 in
      let same : get_or (filter p (range_with_len 0 n)) h.0 0 ≡ x = get_or_default (filter p (range_with_len 0 n)) h.0 0 x h.1 ∙ h.2 in
      (omega (arith, at.0, same), subst (λ (y : ℕ). p y ≡ true) same at.1)

  pub filter_step : (n : ℕ) (xs : List ℕ) → xs ≡ filter p (range_with_len 0 n) → (p n ≡ true → xs ++ n ∷ [] ≡ filter p (range_with_len 0 (n + 1))) × (p n ≡ false → xs ≡ filter p (range_with_len 0 (n + 1)))
  filter_step n xs e = (
    λ y. ap (λ (ys : List ℕ). ys ++ n ∷ []) e ∙ sym (passing_yes p n y) ∙ ap (λ (k : ℕ). filter p (range_with_len 0 k)) (sym (add-one n)),
    λ y. e ∙ sym (append-nil (filter p (range_with_len 0 n))) ∙ sym (passing_no p n y) ∙ ap (λ (k : ℕ). filter p (range_with_len 0 k)) (sym (add-one n)),
  )

-- ---- marks of numbers

pub marks_none : (n m : ℕ) → is_marked (replicate n false) m ≡ true → ⊥
marks_none n m h =
    ⊎_elim
    (λ (l : m < n). false≢true (sym (get_or-replicate n m false false l) ∙ h))
    (λ (l : n ≤ m). false≢true (sym (get_or_past (replicate n false) m false (omega (arith, l, length-replicate n false))) ∙ h))
    (cases_lt m n)
