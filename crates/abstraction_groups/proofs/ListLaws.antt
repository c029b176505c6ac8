-- The listed transitions of all groups, and the lists by the abstract state that they enter.
use Rattle.std.proofs.Common.{◌≡◌, ℕ, ◌+◌, ◌<◌, ◌≤◌, Bool, true, false, List, [], ◌∷◌, ◌++◌, length, get_or, cond, eqb, eq-eqb, refl, sym, ap, ◌∙◌, subst, arith, Some, None, ⊎_elim}
use Rattle.std.specs.Prelude.{◌↔◌, Contains, slice_get, slice_index_or}
use Rattle.std.proofs.lemmas.Bool.{cases_lt, eqb-true}
use Rattle.std.proofs.lemmas.List.Elements.{All-contains_itself, Contains-append_left, Contains-append_right, Contains-append_cases}
use Rattle.std.proofs.lemmas.List.FromFn.{length-map-range_with_len, get_or-map-range_with_len}
use Rattle.std.proofs.lemmas.Option.{none-some, slice_get_within, get_or_from_slice_get}
use Rattle.keyed_lists.specs.declared.lists.Keyed.{Keyed}
use Rattle.keyed_lists.specs.Lists.{items_with, lists_by}
use Rattle.fdr.specs.Tasks.{FiniteDomainTask}
use Rattle.abstraction.specs.declared.digit.Digit.{Digit}
use Rattle.abstraction.specs.Abstractions.{Abstraction}
use Rattle.abstraction_groups.specs.declared.backward.Transition.{Transition}
use Rattle.abstraction_groups.specs.declared.change.Change.{Change}
use Rattle.abstraction_groups.specs.Changes.{at_digits, size_by, LeadsBy}
use Rattle.abstraction_groups.specs.Entrances.{Classes, IsEntering}
use Rattle.abstraction_groups.specs.Factors.{Factors, IsFactored, digits_of, changes_of, group_changes, groups_of}
use Rattle.abstraction_groups.specs.GroupLaws.{steps_told, member_told}
use Rattle.abstraction_groups.specs.Lists.{AreEntries, AreGoals, AreLists}
use Rattle.abstraction_groups.specs.Pairs.{group_entries}
use Rattle.abstraction_groups.proofs.PairLaws.{Contains-cons_cases, Contains-here, Contains-there, group_leads, group_lists}
use Rattle.abstraction_groups.proofs.GroupRows.{group_operator, operator_row, group_row, operator_size, group_size}

-- ---- the items of a key

with_key : (j : ℕ) (es : List (Keyed Transition)) (t : Transition) → Contains (items_with j es) t → Contains es (record { key = j; item = t })
with_key j [] t h = let l : h.0 < 0 = h.1 in absurd (omega arith)
with_key j (e ∷ es) t h = go (eqb e.key j) refl (λ r. with_key j es t r) h
  where
    go : (b : Bool) → eqb e.key j ≡ b → (Contains (items_with j es) t → Contains es (record { key = j; item = t })) →
        Contains (cond b (e.item ∷ items_with j es) (items_with j es)) t → Contains (e ∷ es) (record { key = j; item = t })
    go true q rest r =
        ⊎_elim
        (λ (s : e.item ≡ t).
        let same : e ≡ (record { key = j; item = t }) = ap (λ (k : ℕ). record { key = k; item = e.item }) (eqb-true e.key j q) ∙ ap (λ (x : Transition). record { key = j; item = x }) s in
        subst (λ (x : Keyed Transition). Contains (e ∷ es) x) same (Contains-here e es))
        (λ (s : Contains (items_with j es) t). Contains-there e es (record { key = j; item = t }) (rest s))
        (Contains-cons_cases e.item (items_with j es) t r)
    go false q rest r = Contains-there e es (record { key = j; item = t }) (rest r)

key_with : (j : ℕ) (es : List (Keyed Transition)) (t : Transition) → Contains es (record { key = j; item = t }) → Contains (items_with j es) t
key_with j [] t h = let l : h.0 < 0 = h.1 in absurd (omega arith)
key_with j (e ∷ es) t h =
    ⊎_elim
    (λ (s : e ≡ (record { key = j; item = t })).
    let k : e.key ≡ j = ap (λ (x : Keyed Transition). x.key) s in
    let i : e.item ≡ t = ap (λ (x : Keyed Transition). x.item) s in
    rw (eq-eqb e.key j k) (subst (λ (x : Transition). Contains (e.item ∷ items_with j es) x) i (Contains-here e.item (items_with j es))))
    (λ (s : Contains es (record { key = j; item = t })). go (eqb e.key j) (key_with j es t s))
    (Contains-cons_cases e es (record { key = j; item = t }) h)
  where
    go : (b : Bool) → Contains (items_with j es) t → Contains (cond b (e.item ∷ items_with j es) (items_with j es)) t
    go true r = Contains-there e.item (items_with j es) t r
    go false r = r

pub lists_told : (a : Abstraction) (classes : Classes) (entries : List (Keyed Transition)) → AreEntries a classes entries → AreLists a classes (lists_by a.size entries)
lists_told a classes entries are =
    record {
      as_long = length-map-range_with_len (λ key. items_with key entries) 0 a.size;
      entering = λ j l t. subst (λ (xs : List Transition). Contains xs t ↔ IsEntering a classes j t) (sym (at j l)) (
        λ h. (are.exactly (record { key = j; item = t }) l).0 (with_key j entries t h),
        λ h. key_with j entries t ((are.exactly (record { key = j; item = t }) l).1 h),
      );
    }
  where
    at : (j : ℕ) → j < a.size → slice_index_or (lists_by a.size entries) j [] ≡ items_with j entries
    at j l = get_or-map-range_with_len (λ key. items_with key entries) 0 a.size j j [] l (omega arith)

-- ---- the transitions of the first groups

abbrev pub AreMade : List Digit → List (List Change) → ℕ → List (Keyed Transition) → Type 0
AreMade digits rows n entries =
    (e : Keyed Transition) → Contains entries e ↔ ((g : ℕ) × (g < n) × Contains (group_entries g (at_digits digits (slice_index_or rows g []))) e)

pub made_none : (digits : List Digit) (rows : List (List Change)) → AreMade digits rows 0 []
made_none digits rows e = (λ h. let l : h.0 < 0 = h.1 in absurd (omega arith), λ h. let l : h.0 < 0 = h.1 in absurd (omega arith))

pub made_more : (digits : List Digit) (rows : List (List Change)) (n : ℕ) (entries : List (Keyed Transition)) → AreMade digits rows n entries →
    AreMade digits rows (n + 1) (entries ++ group_entries n (at_digits digits (slice_index_or rows n [])))
made_more digits rows n entries made e = (
  λ h.
      ⊎_elim
      (λ (q : Contains entries e). let r = (made e).0 q in (r.0, let l = r.1 in omega arith, r.2))
      (λ (q : Contains (group_entries n (at_digits digits (slice_index_or rows n []))) e). (n, omega arith, q))
      (Contains-append_cases entries (group_entries n (at_digits digits (slice_index_or rows n []))) e h),
  λ h.
      ⊎_elim
      (λ (q : h.0 < n). Contains-append_left entries (group_entries n (at_digits digits (slice_index_or rows n []))) e ((made e).1 (h.0, q, h.2)))
      (λ (q : n ≤ h.0).
      let l = h.1 in
      let same : h.0 ≡ n = omega arith in
      Contains-append_right entries (group_entries n (at_digits digits (slice_index_or rows n []))) e
      (subst (λ (g : ℕ). Contains (group_entries g (at_digits digits (slice_index_or rows g []))) e) same h.2))
      (cases_lt h.0 n),
)

-- ---- the transitions of all groups

module _ (task : FiniteDomainTask) (a : Abstraction) (f : Factors) (is : IsFactored task a f) (entries : List (Keyed Transition))
    (made : AreMade (digits_of f) (group_changes task f) (length (group_changes task f)) entries) where
  abbrev row : ℕ → List Change
  row g = slice_index_or (group_changes task f) g []

  made_entering : (e : Keyed Transition) → Contains entries e → (e.key < a.size) × IsEntering a (groups_of task f) e.key e.item
  made_entering e h =
      let by = (made e).0 h in
      let g = by.0 in
      let leads = group_leads g (at_digits (digits_of f) (row g)) (group_row task f a is g by.1) e by.2 in
      let from = group_operator task f g by.1 in
      let size : size_by (at_digits (digits_of f) (row g)) ≡ a.size = group_size task f a is g by.1 in
      let target : e.key < a.size = let l = leads.2 in omega arith in
      let source : e.item.source < a.size = let l = leads.1 in omega arith in
      let step = (steps_told task a f is from.0 from.1 e.item.source e.key from.2 target).1 (source, subst (λ (cs : List Change). LeadsBy (at_digits (digits_of f) cs) e.item.source e.key) from.3 leads.3) in
      (target, (from.0, from.4 ∙ ap Some (sym leads.0), step))

  entering_made : (e : Keyed Transition) → e.key < a.size → IsEntering a (groups_of task f) e.key e.item → Contains entries e
  entering_made e l h =
      let told = member_told task a f is h.0 e.item.class h.1 in
      let inside : e.item.class < length (group_changes task f) = slice_get_within (group_changes task f) e.item.class (changes_of f told.0) told.2 in
      let at : row e.item.class ≡ changes_of f told.0 = get_or_from_slice_get (group_changes task f) e.item.class (changes_of f told.0) [] told.2 in
      let leads = ((steps_told task a f is h.0 told.0 e.item.source e.key told.1 l).0 h.2).1 in
      let size : size_by (at_digits (digits_of f) (changes_of f told.0)) ≡ a.size = operator_size task f a is h.0 told.0 told.1 in
      let listed = group_lists e.item.class (at_digits (digits_of f) (changes_of f told.0)) (operator_row task f a is h.0 told.0 told.1) e.item.source e.key (omega arith) leads in
      (made e).1 (e.item.class, inside, subst (λ (cs : List Change). Contains (group_entries e.item.class (at_digits (digits_of f) cs)) e) (sym at) listed)

  pub entries_told : AreEntries a (groups_of task f) entries
  entries_told =
      record {
        keys = λ k d l. (made_entering (get_or entries k d) (All-contains_itself entries k d l)).0;
        exactly = λ e l. (λ h. (made_entering e h).1, λ h. entering_made e l h);
      }

-- ---- the abstract goals

pub no_goals : (a : Abstraction) → AreGoals a []
no_goals a j b e = absurd (none-some b e)
