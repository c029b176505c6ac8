-- Entries of the operators, and the lists of the entries.
use Rattle.std.proofs.Common.{◌≡◌, ℕ, zero, suc, ◌+◌, ◌<◌, ◌≤◌, Bool, true, false, List, [], ◌∷◌, ◌++◌, length, map, take, get_or, Option, Some, None, refl, sym, ap, subst, ◌∙◌, arith, cond, eqb, inl, inr, ⊎_elim}
use Rattle.std.specs.Prelude.{◌⊎◌, ◌↔◌, ◌&&◌, ◌||◌, not, All, Contains, IsSomeAnd, slice_get, slice_index, slice_index_or}
use Rattle.std.specs.List.{list_any, flat_map, range_with_len}
use Rattle.std.proofs.lemmas.Bool.{eqb-true, eqb-false, eq-eqb, ne_eqb, and_parts, and_from, or_parts, or_from, or_cases, or_left, or_right, not-true, not_from_false, false≢true, cases_lt}
use Rattle.std.proofs.lemmas.Option.{slice_get_within}
use Rattle.std.proofs.lemmas.List.{map-append}
use Rattle.std.proofs.lemmas.List.FromFn.{length-map-range_with_len, get_or-map-range_with_len}
use Rattle.std.proofs.lemmas.List.Elements.{All-nil, All-append, All-contains, Contains-get_or, Contains-append_left, Contains-append_right, Contains-append_cases}
use Rattle.keyed_lists.specs.declared.lists.Keyed.{Keyed}
use Rattle.keyed_lists.specs.Lists.{lists_by, items_with}
use Rattle.fdr.specs.declared.fact.Fact.{Fact}
use Rattle.fdr.specs.Tasks.{FiniteDomainTask, Operator, ranges, IsOperator, IsInRange, names_variable, are_distinct}
use Rattle.abstraction.specs.Facts.{value_in}
use Rattle.reduction_classes.proofs.Staying.{range_more}
use Rattle.reduction.specs.Facts.{fact}
use Rattle.reduction.specs.Waiting.{waits_at, waits_at_any, WaitsFor, WaitsForAny, value_entry, variable_entry, value_entries, variable_entries, all_value_entries, all_variable_entries, AreEntries, waiting_at, AreWaiting}
use Rattle.reduction.proofs.Members.{none_in, Contains-here, Contains-there, Contains-cases, any_from, any_at, none_at}
use Rattle.reduction.proofs.FactLists.{value_in-cons, value_has}

-- ---- lists

flat_at : {X Y : Type 0} (g : X → List Y) (xs : List X) (y : Y) → Contains (flat_map g xs) y → (x : X) × Contains xs x × Contains (g x) y
flat_at g [] y h = absurd (none_in y h)
flat_at g (x ∷ xs) y h =
    ⊎_elim (λ (a : Contains (g x) y). (x, Contains-here x xs, a))
    (λ (b : Contains (flat_map g xs) y). let rest = flat_at g xs y b in (rest.0, Contains-there x rest.0 xs rest.1, rest.2))
    (Contains-append_cases (g x) (flat_map g xs) y h)

flat_from : {X Y : Type 0} (g : X → List Y) (xs : List X) (x : X) (y : Y) → Contains xs x → Contains (g x) y → Contains (flat_map g xs) y
flat_from g [] x y h k = absurd (none_in x h)
flat_from {X = X} g (z ∷ zs) x y h k =
    ⊎_elim
    (λ (e : z ≡ x). Contains-append_left (g z) (flat_map g zs) y (subst (λ (w : X). Contains (g w) y) (sym e) k))
    (λ (d : Contains zs x). Contains-append_right (g z) (flat_map g zs) y (flat_from g zs x y d k))
    (Contains-cases z x zs h)

All-from : {X : Type 0} (P : X → Type 0) (xs : List X) → ((x : X) → Contains xs x → P x) → All P xs
All-from P xs h k d l = h (get_or xs k d) (Contains-get_or xs k d l)

-- an item is listed under its key
items_at : {T : Type 0} (k : ℕ) (es : List (Keyed T)) (x : T) → Contains (items_with k es) x → Contains es (record { key = k; item = x })
items_at k [] x h = absurd (none_in x h)
items_at {T = T} k (e ∷ es) x h = go (eqb e.key k) refl h (items_at k es x)
  where
    go : (b : Bool) → eqb e.key k ≡ b → Contains (cond b (e.item ∷ items_with k es) (items_with k es)) x → (Contains (items_with k es) x → Contains es (record { key = k; item = x })) → Contains (e ∷ es) (record { key = k; item = x })
    go true q c rest =
        ⊎_elim
        (λ (s : e.item ≡ x).
        let made : Keyed T = record { key = k; item = x } in
        let same : e ≡ made = ap (λ (n : ℕ). record { key = n; item = e.item }) (eqb-true e.key k q) ∙ ap (λ (y : T). record { key = k; item = y }) s in
        subst (Contains (e ∷ es)) same (Contains-here e es))
        (λ (d : Contains (items_with k es) x). Contains-there e (record { key = k; item = x }) es (rest d))
        (Contains-cases e.item x (items_with k es) c)
    go false q c rest = Contains-there e (record { key = k; item = x }) es (rest c)

items_from : {T : Type 0} (k : ℕ) (es : List (Keyed T)) (x : T) → Contains es (record { key = k; item = x }) → Contains (items_with k es) x
items_from k [] x h = let l : h.0 < 0 = h.1 in absurd (omega arith)
items_from {T = T} k (e ∷ es) x h = go (eqb e.key k) refl (items_from k es x) (Contains-cases e (record { key = k; item = x }) es h)
  where
    made : Keyed T
    made = record { key = k; item = x }

    go : (b : Bool) → eqb e.key k ≡ b → (Contains es (record { key = k; item = x }) → Contains (items_with k es) x) → (e ≡ record { key = k; item = x }) ⊎ Contains es (record { key = k; item = x }) →
        Contains (cond b (e.item ∷ items_with k es) (items_with k es)) x
    go true q rest c =
        ⊎_elim (λ (s : e ≡ record { key = k; item = x }). subst (λ (d : Keyed T). Contains (e.item ∷ items_with k es) d.item) s (Contains-here e.item (items_with k es)))
        (λ (d : Contains es (record { key = k; item = x })). Contains-there e.item x (items_with k es) (rest d)) c
    go false q rest c =
        ⊎_elim (λ (s : e ≡ record { key = k; item = x }). absurd (eqb-false e.key k q (ap (λ (d : Keyed T). d.key) s)))
        (λ (d : Contains es (record { key = k; item = x })). rest d) c

-- ---- the entries for one effect

value_entry_at : (n : ℕ) (r : Option ℕ) (e : Fact) (z : Keyed (Keyed ℕ)) → Contains (value_entries n r e) z →
    (x : ℕ) × (r ≡ Some x) × (x ≡ e.value → ⊥) × ((value_entry e.variable x n ≡ z) ⊎ (value_entry e.variable e.value n ≡ z))
value_entry_at n None e z h = absurd (none_in z h)
value_entry_at n (Some x) e z h = go (eqb x e.value) refl h
  where
    go : (b : Bool) → eqb x e.value ≡ b → Contains (cond b [] (value_entry e.variable x n ∷ value_entry e.variable e.value n ∷ [])) z →
        (y : ℕ) × (Some x ≡ Some y) × (y ≡ e.value → ⊥) × ((value_entry e.variable y n ≡ z) ⊎ (value_entry e.variable e.value n ≡ z))
    go true q c = absurd (none_in z c)
    go false q c = (
      x,
      refl,
      eqb-false x e.value q,
      ⊎_elim (λ (s : value_entry e.variable x n ≡ z). inl s)
          (λ (d : Contains (value_entry e.variable e.value n ∷ []) z).
          ⊎_elim (λ (s : value_entry e.variable e.value n ≡ z). inr s) (λ (no : Contains [] z). absurd (none_in z no)) (Contains-cases (value_entry e.variable e.value n) z [] d))
          (Contains-cases (value_entry e.variable x n) z (value_entry e.variable e.value n ∷ []) c),
    )

value_waits : (n o : ℕ) (r : Option ℕ) (e f : Fact) → Contains (value_entries n r e) (value_entry f.variable f.value o) → (o ≡ n) × (waits_at r e f ≡ true)
value_waits n o r e f h =
    let found = value_entry_at n r e (value_entry f.variable f.value o) h in
    let x : ℕ = found.0 in
    ⊎_elim (λ (s : value_entry e.variable x n ≡ value_entry f.variable f.value o). made x found.1 found.2 x s (λ q. or_left (eqb f.value x) (eqb f.value e.value) (eq-eqb f.value x q)))
    (λ (s : value_entry e.variable e.value n ≡ value_entry f.variable f.value o). made x found.1 found.2 e.value s (λ q. or_right (eqb f.value x) (eqb f.value e.value) (eq-eqb f.value e.value q))) found.3
  where
    made : (x : ℕ) → r ≡ Some x → (x ≡ e.value → ⊥) → (y : ℕ) → value_entry e.variable y n ≡ value_entry f.variable f.value o → (f.value ≡ y → (eqb f.value x || eqb f.value e.value) ≡ true) → (o ≡ n) × (waits_at r e f ≡ true)
    made x is ne y s one =
        let variable : e.variable ≡ f.variable = ap (λ (d : Keyed (Keyed ℕ)). d.key) s in
        let value : y ≡ f.value = ap (λ (d : Keyed (Keyed ℕ)). d.item.key) s in
        let number : n ≡ o = ap (λ (d : Keyed (Keyed ℕ)). d.item.item) s in
        let unequal : not (eqb x e.value) ≡ true = not_from_false (eqb x e.value) (ne_eqb x e.value ne) in
        let both : (not (eqb x e.value) && eqb e.variable f.variable) ≡ true = and_from (not (eqb x e.value)) (eqb e.variable f.variable) unequal (eq-eqb e.variable f.variable variable) in (
          sym number,
          subst (λ (q : Option ℕ). waits_at q e f ≡ true) (sym is) (and_from (not (eqb x e.value) && eqb e.variable f.variable) (eqb f.value x || eqb f.value e.value) both (one (sym value))),
        )

waits_value : (n : ℕ) (r : Option ℕ) (e f : Fact) → waits_at r e f ≡ true → Contains (value_entries n r e) (value_entry f.variable f.value n)
waits_value n None e f w = absurd (false≢true w)
waits_value n (Some x) e f w =
    let parts = and_parts (not (eqb x e.value) && eqb e.variable f.variable) (eqb f.value x || eqb f.value e.value) w in
    let both = and_parts (not (eqb x e.value)) (eqb e.variable f.variable) parts.0 in
    let different : eqb x e.value ≡ false = not-true (eqb x e.value) both.0 in
    let variable : e.variable ≡ f.variable = eqb-true e.variable f.variable both.1 in
    let list : List (Keyed (Keyed ℕ)) = value_entry e.variable x n ∷ value_entry e.variable e.value n ∷ [] in
    let has : Contains (value_entry e.variable x n ∷ value_entry e.variable e.value n ∷ []) (value_entry f.variable f.value n) =
    ⊎_elim
    (λ (q : eqb f.value x ≡ true).
    let same : value_entry e.variable x n ≡ value_entry f.variable f.value n = ap (λ (v : ℕ). value_entry v x n) variable ∙ ap (λ (y : ℕ). value_entry f.variable y n) (sym (eqb-true f.value x q)) in
    subst (Contains (value_entry e.variable x n ∷ value_entry e.variable e.value n ∷ [])) same (Contains-here (value_entry e.variable x n) (value_entry e.variable e.value n ∷ [])))
    (λ (q : eqb f.value e.value ≡ true).
    let same : value_entry e.variable e.value n ≡ value_entry f.variable f.value n = ap (λ (v : ℕ). value_entry v e.value n) variable ∙ ap (λ (y : ℕ). value_entry f.variable y n) (sym (eqb-true f.value e.value q)) in
    Contains-there (value_entry e.variable x n) (value_entry f.variable f.value n) (value_entry e.variable e.value n ∷ [])
    (subst (Contains (value_entry e.variable e.value n ∷ [])) same (Contains-here (value_entry e.variable e.value n) [])))
    (or_cases (eqb f.value x) (eqb f.value e.value) parts.1) in
    subst (λ (b : Bool). Contains (cond b [] (value_entry e.variable x n ∷ value_entry e.variable e.value n ∷ [])) (value_entry f.variable f.value n)) (sym different) has

variable_waits : (n o : ℕ) (r : Option ℕ) (e : Fact) (v : ℕ) → Contains (variable_entries n r e) (variable_entry v o) → (o ≡ n) × (waits_at_any r e v ≡ true)
variable_waits n o (Some x) e v h = absurd (none_in (variable_entry v o) h)
variable_waits n o None e v h =
    ⊎_elim
    (λ (s : variable_entry e.variable n ≡ variable_entry v o). (sym (ap (λ (d : Keyed ℕ). d.item) s), eq-eqb e.variable v (ap (λ (d : Keyed ℕ). d.key) s)))
    (λ (d : Contains [] (variable_entry v o)). absurd (none_in (variable_entry v o) d))
    (Contains-cases (variable_entry e.variable n) (variable_entry v o) [] h)

waits_variable : (n : ℕ) (r : Option ℕ) (e : Fact) (v : ℕ) → waits_at_any r e v ≡ true → Contains (variable_entries n r e) (variable_entry v n)
waits_variable n (Some x) e v w = absurd (false≢true w)
waits_variable n None e v w =
    subst (λ (u : ℕ). Contains (variable_entry e.variable n ∷ []) (variable_entry u n)) (eqb-true e.variable v w) (Contains-here (variable_entry e.variable n) [])

-- ---- the entries of one operator more

pub entries_none : (task : FiniteDomainTask) → AreEntries task 0 [] []
entries_none task =
    record {
      value_keys = All-nil (λ (e : Keyed (Keyed ℕ)). IsInRange (ranges task) (fact e.key e.item.key));
      variable_keys = All-nil (λ (e : Keyed ℕ). e.key < length (ranges task));
      values = λ f o. (λ h. absurd (none_in (value_entry f.variable f.value o) h), λ h. let l = h.0 in absurd (omega arith));
      variables = λ v o. (λ h. absurd (none_in (variable_entry v o) h), λ h. let l = h.0 in absurd (omega arith));
    }

module _ (task : FiniteDomainTask) (n : ℕ) (op : Operator) (at : slice_get task.operators n ≡ Some op) (well : IsOperator (ranges task) op)
    (by_value : List (Keyed (Keyed ℕ))) (by_variable : List (Keyed ℕ)) (are : AreEntries task n by_value by_variable) where
  abbrev condition : Fact → Option ℕ
  condition e = value_in op.precondition e.variable

  in_range_of : (f : Fact) → Contains op.effect f → IsInRange (ranges task) f
  in_range_of f h = All-contains (IsInRange (ranges task)) op.effect f well.effect.in_range h

  value_key : (z : Keyed (Keyed ℕ)) → Contains (all_value_entries n op.precondition op.effect) z → IsInRange (ranges task) (fact z.key z.item.key)
  value_key z h =
      let flat = flat_at (λ (e : Fact). value_entries n (condition e) e) op.effect z h in
      let e : Fact = flat.0 in
      let found = value_entry_at n (condition e) e z flat.2 in
      let asked : IsInRange (ranges task) (fact e.variable found.0) =
      All-contains (IsInRange (ranges task)) op.precondition (fact e.variable found.0) well.precondition.in_range (value_has op.precondition e.variable found.0 found.1) in
      ⊎_elim
      (λ (s : value_entry e.variable found.0 n ≡ z). subst (λ (d : Keyed (Keyed ℕ)). IsInRange (ranges task) (fact d.key d.item.key)) s asked)
      (λ (s : value_entry e.variable e.value n ≡ z). subst (λ (d : Keyed (Keyed ℕ)). IsInRange (ranges task) (fact d.key d.item.key)) s (in_range_of e flat.1))
      found.3

  variable_key : (z : Keyed ℕ) → Contains (all_variable_entries n op.precondition op.effect) z → z.key < length (ranges task)
  variable_key z h =
      let flat = flat_at (λ (e : Fact). variable_entries n (condition e) e) op.effect z h in
      go flat.0 (condition flat.0) flat.2 (in_range_of flat.0 flat.1).0
    where
      go : (e : Fact) (r : Option ℕ) → Contains (variable_entries n r e) z → e.variable < length (ranges task) → z.key < length (ranges task)
      go e (Some x) c l = absurd (none_in z c)
      go e None c l =
          ⊎_elim (λ (s : variable_entry e.variable n ≡ z). subst (λ (d : Keyed ℕ). d.key < length (ranges task)) s l) (λ (d : Contains [] z). absurd (none_in z d))
          (Contains-cases (variable_entry e.variable n) z [] c)

  value_more : (f : Fact) (o : ℕ) → Contains (by_value ++ all_value_entries n op.precondition op.effect) (value_entry f.variable f.value o) ↔ ((o < n + 1) × WaitsFor task f o)
  value_more f o = (forth, back)
    where
      forth : Contains (by_value ++ all_value_entries n op.precondition op.effect) (value_entry f.variable f.value o) → (o < n + 1) × WaitsFor task f o
      forth h =
          ⊎_elim
          (λ (old : Contains by_value (value_entry f.variable f.value o)). let was = (are.values f o).0 old in (omega (arith, was.0), was.1))
          (λ (new : Contains (all_value_entries n op.precondition op.effect) (value_entry f.variable f.value o)).
          let flat = flat_at (λ (e : Fact). value_entries n (condition e) e) op.effect (value_entry f.variable f.value o) new in
          let waits = value_waits n o (condition flat.0) flat.0 f flat.2 in
          let any : list_any (λ (e : Fact). waits_at (value_in op.precondition e.variable) e f) op.effect ≡ true = any_from (λ (e : Fact). waits_at (value_in op.precondition e.variable) e f) op.effect flat.0 flat.1 waits.1 in (
            omega (arith, waits.0),
            subst (WaitsFor task f) (sym waits.0) (subst (λ (r : Option Operator). IsSomeAnd r (λ p. list_any (λ e. waits_at (value_in p.precondition e.variable) e f) p.effect ≡ true)) (sym at) any),
          ))
          (Contains-append_cases by_value (all_value_entries n op.precondition op.effect) (value_entry f.variable f.value o) h)

      back : (o < n + 1) × WaitsFor task f o → Contains (by_value ++ all_value_entries n op.precondition op.effect) (value_entry f.variable f.value o)
      back h =
          ⊎_elim
          (λ (l : o < n). Contains-append_left by_value (all_value_entries n op.precondition op.effect) (value_entry f.variable f.value o) ((are.values f o).1 (l, h.1)))
          (λ (l : n ≤ o).
          let here : o ≡ n = omega (arith, l, h.0) in
          let waits : list_any (λ (e : Fact). waits_at (value_in op.precondition e.variable) e f) op.effect ≡ true =
          subst (λ (r : Option Operator). IsSomeAnd r (λ p. list_any (λ e. waits_at (value_in p.precondition e.variable) e f) p.effect ≡ true)) at (subst (WaitsFor task f) here h.1) in
          let some = any_at (λ (e : Fact). waits_at (value_in op.precondition e.variable) e f) op.effect waits in
          let entry : Contains (all_value_entries n op.precondition op.effect) (value_entry f.variable f.value n) =
          flat_from (λ (e : Fact). value_entries n (condition e) e) op.effect some.0 (value_entry f.variable f.value n) some.1 (waits_value n (condition some.0) some.0 f some.2) in
          Contains-append_right by_value (all_value_entries n op.precondition op.effect) (value_entry f.variable f.value o)
          (subst (λ (m : ℕ). Contains (all_value_entries n op.precondition op.effect) (value_entry f.variable f.value m)) (sym here) entry))
          (cases_lt o n)

  variable_more : (v o : ℕ) → Contains (by_variable ++ all_variable_entries n op.precondition op.effect) (variable_entry v o) ↔ ((o < n + 1) × WaitsForAny task v o)
  variable_more v o = (forth, back)
    where
      forth : Contains (by_variable ++ all_variable_entries n op.precondition op.effect) (variable_entry v o) → (o < n + 1) × WaitsForAny task v o
      forth h =
          ⊎_elim
          (λ (old : Contains by_variable (variable_entry v o)). let was = (are.variables v o).0 old in (omega (arith, was.0), was.1))
          (λ (new : Contains (all_variable_entries n op.precondition op.effect) (variable_entry v o)).
          let flat = flat_at (λ (e : Fact). variable_entries n (condition e) e) op.effect (variable_entry v o) new in
          let waits = variable_waits n o (condition flat.0) flat.0 v flat.2 in
          let any : list_any (λ (e : Fact). waits_at_any (value_in op.precondition e.variable) e v) op.effect ≡ true = any_from (λ (e : Fact). waits_at_any (value_in op.precondition e.variable) e v) op.effect flat.0 flat.1 waits.1 in (
            omega (arith, waits.0),
            subst (WaitsForAny task v) (sym waits.0) (subst (λ (r : Option Operator). IsSomeAnd r (λ p. list_any (λ e. waits_at_any (value_in p.precondition e.variable) e v) p.effect ≡ true)) (sym at) any),
          ))
          (Contains-append_cases by_variable (all_variable_entries n op.precondition op.effect) (variable_entry v o) h)

      back : (o < n + 1) × WaitsForAny task v o → Contains (by_variable ++ all_variable_entries n op.precondition op.effect) (variable_entry v o)
      back h =
          ⊎_elim
          (λ (l : o < n). Contains-append_left by_variable (all_variable_entries n op.precondition op.effect) (variable_entry v o) ((are.variables v o).1 (l, h.1)))
          (λ (l : n ≤ o).
          let here : o ≡ n = omega (arith, l, h.0) in
          let waits : list_any (λ (e : Fact). waits_at_any (value_in op.precondition e.variable) e v) op.effect ≡ true =
          subst (λ (r : Option Operator). IsSomeAnd r (λ p. list_any (λ e. waits_at_any (value_in p.precondition e.variable) e v) p.effect ≡ true)) at (subst (WaitsForAny task v) here h.1) in
          let some = any_at (λ (e : Fact). waits_at_any (value_in op.precondition e.variable) e v) op.effect waits in
          let entry : Contains (all_variable_entries n op.precondition op.effect) (variable_entry v n) =
          flat_from (λ (e : Fact). variable_entries n (condition e) e) op.effect some.0 (variable_entry v n) some.1 (waits_variable n (condition some.0) some.0 v some.2) in
          Contains-append_right by_variable (all_variable_entries n op.precondition op.effect) (variable_entry v o)
          (subst (λ (m : ℕ). Contains (all_variable_entries n op.precondition op.effect) (variable_entry v m)) (sym here) entry))
          (cases_lt o n)

  pub entries_more : AreEntries task (n + 1) (by_value ++ all_value_entries n op.precondition op.effect) (by_variable ++ all_variable_entries n op.precondition op.effect)
  entries_more =
      record {
        value_keys = All-append (λ (e : Keyed (Keyed ℕ)). IsInRange (ranges task) (fact e.key e.item.key)) by_value (all_value_entries n op.precondition op.effect) are.value_keys
            (All-from (λ (e : Keyed (Keyed ℕ)). IsInRange (ranges task) (fact e.key e.item.key)) (all_value_entries n op.precondition op.effect) value_key);
        variable_keys = All-append (λ (e : Keyed ℕ). e.key < length (ranges task)) by_variable (all_variable_entries n op.precondition op.effect) are.variable_keys
            (All-from (λ (e : Keyed ℕ). e.key < length (ranges task)) (all_variable_entries n op.precondition op.effect) variable_key);
        values = value_more;
        variables = variable_more;
      }

-- ---- values of conditions

pub distinct_before : (fs : List Fact) (k : ℕ) (d : Fact) → are_distinct fs ≡ true → k < length fs → names_variable (take k fs) (get_or fs k d).variable ≡ false
distinct_before [] k d h l = absurd (omega arith)
distinct_before (f ∷ fs) zero d h l = refl
distinct_before (f ∷ fs) (suc k) d h l =
    let parts = and_parts (not (names_variable fs f.variable)) (are_distinct fs) h in
    let later : k < length fs = omega arith in
    let other : eqb (get_or fs k d).variable f.variable ≡ false =
    none_at (λ (g : Fact). eqb g.variable f.variable) fs (get_or fs k d) (not-true (names_variable fs f.variable) parts.0) (Contains-get_or fs k d later) in
    or_from (eqb f.variable (get_or fs k d).variable) (names_variable (take k fs) (get_or fs k d).variable)
    (ne_eqb f.variable (get_or fs k d).variable (λ (q : f.variable ≡ (get_or fs k d).variable). eqb-false (get_or fs k d).variable f.variable other (sym q)))
    (distinct_before fs k d parts.1 later)

-- a value after one fact more, if no fact before it is on its variable
pub value_in-push : (fs : List Fact) (f : Fact) (v : ℕ) → names_variable fs f.variable ≡ false → value_in (fs ++ f ∷ []) v ≡ cond (eqb f.variable v) (Some f.value) (value_in fs v)
value_in-push [] f v h = value_in-cons f [] v (eqb f.variable v) refl
value_in-push (g ∷ gs) f v h =
    let parts = or_parts (eqb g.variable f.variable) (names_variable gs f.variable) h in
    go (eqb g.variable v) refl (eqb f.variable v) refl parts.0 (value_in-push gs f v parts.1)
  where
    go : (a : Bool) → eqb g.variable v ≡ a → (b : Bool) → eqb f.variable v ≡ b → eqb g.variable f.variable ≡ false → value_in (gs ++ f ∷ []) v ≡ cond (eqb f.variable v) (Some f.value) (value_in gs v) →
        value_in (g ∷ gs ++ f ∷ []) v ≡ cond (eqb f.variable v) (Some f.value) (value_in (g ∷ gs) v)
    go true p true q ne rest = absurd (eqb-false g.variable f.variable ne (eqb-true g.variable v p ∙ sym (eqb-true f.variable v q)))
    go true p false q ne rest = value_in-cons g (gs ++ f ∷ []) v true p ∙ sym (ap (λ (b : Bool). cond b (Some f.value) (value_in (g ∷ gs) v)) q ∙ value_in-cons g gs v true p)
    go false p b q ne rest = value_in-cons g (gs ++ f ∷ []) v false p ∙ rest ∙ ap (cond (eqb f.variable v) (Some f.value)) (sym (value_in-cons g gs v false p))

-- ---- the index

pub lists_wait : (task : FiniteDomainTask) (by_value : List (Keyed (Keyed ℕ))) (by_variable : List (Keyed ℕ)) → AreEntries task (length task.operators) by_value by_variable →
    AreWaiting task (map (λ v. lists_by (slice_index (ranges task) v) (items_with v by_value)) (range_with_len 0 (length (ranges task)))) (lists_by (length (ranges task)) by_variable)
lists_wait task by_value by_variable are =
    record {
      fit = λ v l. ap length (row v l) ∙ length-map-range_with_len (λ (x : ℕ). items_with x (items_with v by_value)) 0 (slice_index (ranges task) v);
      as_many_values = length-map-range_with_len (λ (v : ℕ). lists_by (slice_index (ranges task) v) (items_with v by_value)) 0 (length (ranges task));
      as_many_variables = length-map-range_with_len (λ (v : ℕ). items_with v by_variable) 0 (length (ranges task));
      values = λ f o range. (
        λ h. ((are.values f o).0 (items_at f.variable by_value (record { key = f.value; item = o }) (items_at f.value (items_with f.variable by_value) o (subst (λ (xs : List ℕ). Contains xs o) (cell f range) h)))).1,
        λ w. subst (λ (xs : List ℕ). Contains xs o) (sym (cell f range)) (items_from f.value (items_with f.variable by_value) o (items_from f.variable by_value (record { key = f.value; item = o }) ((are.values f o).1 (exists_for f o w, w)))),
      );
      variables = λ v o l. (
        λ h. ((are.variables v o).0 (items_at v by_variable o (subst (λ (xs : List ℕ). Contains xs o) (line v l) h))).1,
        λ w. subst (λ (xs : List ℕ). Contains xs o) (sym (line v l)) (items_from v by_variable o ((are.variables v o).1 (exists_for_any v o w, w))),
      );
    }
  where
    row : (v : ℕ) → v < length (ranges task) → slice_index_or (map (λ v. lists_by (slice_index (ranges task) v) (items_with v by_value)) (range_with_len 0 (length (ranges task)))) v [] ≡ lists_by (slice_index (ranges task) v) (items_with v by_value)
    row v l = get_or-map-range_with_len (λ (w : ℕ). lists_by (slice_index (ranges task) w) (items_with w by_value)) 0 (length (ranges task)) v v [] l (omega arith)

    cell : (f : Fact) → IsInRange (ranges task) f → waiting_at (map (λ v. lists_by (slice_index (ranges task) v) (items_with v by_value)) (range_with_len 0 (length (ranges task)))) f ≡ items_with f.value (items_with f.variable by_value)
    cell f range =
        ap (λ (ls : List (List ℕ)). slice_index_or ls f.value []) (row f.variable range.0)
        ∙ get_or-map-range_with_len (λ (x : ℕ). items_with x (items_with f.variable by_value)) 0 (slice_index (ranges task) f.variable) f.value f.value [] range.1 (omega arith)

    line : (v : ℕ) → v < length (ranges task) → slice_index_or (lists_by (length (ranges task)) by_variable) v [] ≡ items_with v by_variable
    line v l = get_or-map-range_with_len (λ (w : ℕ). items_with w by_variable) 0 (length (ranges task)) v v [] l (omega arith)

    listed : (o : ℕ) (P : Operator → Type 0) (r : Option Operator) → slice_get task.operators o ≡ r → IsSomeAnd r P → o < length task.operators
    listed o P None e h = absurd h
    listed o P (Some op) e h = slice_get_within task.operators o op e

    exists_for : (f : Fact) (o : ℕ) → WaitsFor task f o → o < length task.operators
    exists_for f o w = listed o (λ op. list_any (λ e. waits_at (value_in op.precondition e.variable) e f) op.effect ≡ true) (slice_get task.operators o) refl w

    exists_for_any : (v o : ℕ) → WaitsForAny task v o → o < length task.operators
    exists_for_any v o w = listed o (λ op. list_any (λ e. waits_at_any (value_in op.precondition e.variable) e v) op.effect ≡ true) (slice_get task.operators o) refl w

-- the keys within a variable's entries are values in its range
pub keys_with : (rs : List ℕ) (v : ℕ) (entries : List (Keyed (Keyed ℕ))) → All (λ e. IsInRange rs (fact e.key e.item.key)) entries → All (λ e. e.key < slice_index rs v) (items_with v entries)
keys_with rs v entries all =
    All-from (λ (e : Keyed ℕ). e.key < slice_index rs v) (items_with v entries)
    (λ x h. (All-contains (λ (e : Keyed (Keyed ℕ)). IsInRange rs (fact e.key e.item.key)) entries (record { key = v; item = x }) all (items_at v entries x h)).1)

-- one list more
pub lists_more : {X : Type 0} (f : ℕ → X) (n : ℕ) (made more : List X) (x : X) → made ≡ map f (range_with_len 0 n) → x ≡ f n → more ≡ made ++ x ∷ [] → more ≡ map f (range_with_len 0 (n + 1))
lists_more {X = X} f n made more x e is m =
    m ∙ ap (λ (xs : List X). xs ++ x ∷ []) e ∙ ap (λ (y : X). map f (range_with_len 0 n) ++ y ∷ []) is
    ∙ sym (ap (map f) (range_more n) ∙ map-append f (range_with_len 0 n) (n ∷ []))

-- the list of a key
pub list_of : {T : Type 0} (entries : List (Keyed T)) (n k : ℕ) → k < n → slice_index_or (lists_by n entries) k [] ≡ items_with k entries
list_of entries n k l = get_or-map-range_with_len (λ (w : ℕ). items_with w entries) 0 n k k [] l (omega arith)

pub waiting_by : (task : FiniteDomainTask) (a : List (Keyed (Keyed ℕ))) (b : List (Keyed ℕ)) (by_value : List (List (List ℕ))) (by_variable : List (List ℕ)) (n : ℕ) → AreEntries task (length task.operators) a b →
    by_value ≡ map (λ v. lists_by (slice_index (ranges task) v) (items_with v a)) (range_with_len 0 (length (ranges task))) → by_variable ≡ lists_by n b → n ≡ length (ranges task) → AreWaiting task by_value by_variable
waiting_by task a b by_value by_variable n are ea eb en =
    subst (λ (ls : List (List (List ℕ))). AreWaiting task ls by_variable) (sym ea)
    (subst (AreWaiting task (map (λ (v : ℕ). lists_by (slice_index (ranges task) v) (items_with v a)) (range_with_len 0 (length (ranges task))))) (sym (eb ∙ ap (λ (k : ℕ). lists_by k b) en)) (lists_wait task a b are))
