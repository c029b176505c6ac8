-- The transitions of an abstraction, operator after operator and abstract state after abstract state.
use Rattle.std.specs.Prelude.{◌↔◌, Contains, IfSome, slice_index}
use Rattle.std.proofs.Common.{◌≡◌, ℕ, ◌+◌, ◌<◌, ◌≤◌, ◌⊎◌, List, [], ◌∷◌, ◌++◌, length, get_or, Option, Some, None, refl, sym, ap, ◌∙◌, subst, inl, inr, ⊎_elim, arith}
use Rattle.std.proofs.lemmas.Bool.{cases_lt}
use Rattle.std.proofs.lemmas.List.Elements.{All-contains_itself, Contains-append_left, Contains-push, Contains-push_cases}
use Rattle.std.proofs.lemmas.Option.{none-some}
use Rattle.keyed_lists.specs.declared.lists.Keyed.{Keyed}
use Rattle.fdr.specs.Tasks.{FiniteDomainTask}
use Rattle.abstraction.specs.Abstractions.{Abstraction, IsAbstractionOf}
use Rattle.abstraction_groups.specs.declared.backward.Transition.{Transition}
use Rattle.abstraction_groups.specs.Lists.{AreEntries}
use Rattle.abstraction_listed.specs.Affecting.{affecting, single_classes}
use Rattle.abstraction_listed.specs.AffectingLaws.{class_told}
use Rattle.abstraction_listed.specs.Entries.{IsEntryOf, AreAppended}

-- ---- the transitions of an operator

abbrev entry : ℕ → ℕ → ℕ → Keyed Transition
entry key c i = record { key = key; item = record { class = c; source = i } }

module _ (a : Abstraction) (o c : ℕ) where
  pub none_appended : (old : List (Keyed Transition)) → AreAppended a o c 0 old old
  none_appended old e = (λ h. inl h, λ h. ⊎_elim (λ (q : Contains old e). q) (λ (q : IsEntryOf a o c 0 e). absurd (omega (arith, q.1))) h)

  module _ (n : ℕ) (old new : List (Keyed Transition)) (before : AreAppended a o c n old new) where
    pub entry_appended : (key : ℕ) → a.transition n o ≡ Some key → AreAppended a o c (n + 1) old (new ++ entry key c n ∷ [])
    entry_appended key is e = (
      λ h.
          ⊎_elim
          (λ (q : Contains new e). later ((before e).0 q))
          (λ (q : x ≡ e). inr (subst (IsEntryOf a o c (n + 1)) q (refl, omega arith, is)))
          (Contains-push_cases new x e h),
      λ h.
          ⊎_elim
          (λ (q : Contains old e). Contains-append_left new (x ∷ []) e ((before e).1 (inl q)))
          (λ (q : IsEntryOf a o c (n + 1) e).
          ⊎_elim
          (λ (l : e.item.source < n). Contains-append_left new (x ∷ []) e ((before e).1 (inr (q.0, l, q.2))))
          (λ (l : n ≤ e.item.source).
          let s : n ≡ e.item.source = omega (arith, q.1) in
          subst (Contains (new ++ x ∷ [])) (same q.0 s (sym is ∙ ap (λ (i : ℕ). a.transition i o) s ∙ q.2)) (Contains-push new x))
          (cases_lt e.item.source n))
          h,
    )
      where
        x : Keyed Transition
        x = entry key c n

        later : (Contains old e ⊎ IsEntryOf a o c n e) → Contains old e ⊎ IsEntryOf a o c (n + 1) e
        later h = ⊎_elim (λ (r : Contains old e). inl r) (λ (r : IsEntryOf a o c n e). inr (r.0, omega (arith, r.1), r.2)) h

        same : e.item.class ≡ c → n ≡ e.item.source → Some key ≡ Some e.key → x ≡ e
        same q s k =
            let target : key ≡ e.key = cc in
            ap (λ (j : ℕ). entry j c n) target ∙ ap (λ (d : ℕ). entry e.key d n) (sym q) ∙ ap (λ (i : ℕ). entry e.key e.item.class i) s

    pub nothing_appended : a.transition n o ≡ None → AreAppended a o c (n + 1) old new
    nothing_appended none e = (
      λ h.
          ⊎_elim
          (λ (r : Contains old e). inl r)
          (λ (r : IsEntryOf a o c n e). inr (r.0, omega (arith, r.1), r.2))
          ((before e).0 h),
      λ h.
          ⊎_elim
          (λ (q : Contains old e). (before e).1 (inl q))
          (λ (q : IsEntryOf a o c (n + 1) e).
          ⊎_elim
          (λ (l : e.item.source < n). (before e).1 (inr (q.0, l, q.2)))
          (λ (l : n ≤ e.item.source).
          let s : n ≡ e.item.source = omega (arith, q.1) in
          let some : None ≡ Some e.key = sym none ∙ ap (λ (i : ℕ). a.transition i o) s ∙ q.2 in
          absurd (none-some e.key some))
          (cases_lt e.item.source n))
          h,
    )

-- ---- the transitions of the first operators

-- the entry is a transition of one of the first n operators
abbrev IsMade : Abstraction → List ℕ → ℕ → Keyed Transition → Type 0
IsMade a operators n e =
    (e.item.class < n) × (e.item.source < a.size) × (a.transition e.item.source (slice_index operators e.item.class) ≡ Some e.key)

abbrev pub AreMade : Abstraction → List ℕ → ℕ → List (Keyed Transition) → Type 0
AreMade a operators n entries = (e : Keyed Transition) → Contains entries e ↔ IsMade a operators n e

pub none_made : (a : Abstraction) (operators : List ℕ) → AreMade a operators 0 []
none_made a operators e = (λ h. let l = h.1 in absurd (omega arith), λ h. let l = h.0 in absurd (omega arith))

pub operator_made : (a : Abstraction) (operators : List ℕ) (n : ℕ) (old new : List (Keyed Transition)) → AreMade a operators n old →
    AreAppended a (slice_index operators n) n a.size old new → AreMade a operators (n + 1) new
operator_made a operators n old new made more e = (
  λ h.
      ⊎_elim
      (λ (q : Contains old e). let r = (made e).0 q in (omega (arith, r.0), r.1, r.2))
      (λ (q : IsEntryOf a (slice_index operators n) n a.size e).
      (omega (arith, q.0), q.1, ap (λ (d : ℕ). a.transition e.item.source (slice_index operators d)) q.0 ∙ q.2))
      ((more e).0 h),
  λ h.
      ⊎_elim
      (λ (l : e.item.class < n). (more e).1 (inl ((made e).1 (l, h.1, h.2))))
      (λ (l : n ≤ e.item.class).
      let same : e.item.class ≡ n = omega (arith, h.0) in
      (more e).1 (inr (same, h.1, ap (λ (d : ℕ). a.transition e.item.source (slice_index operators d)) (sym same) ∙ h.2)))
      (cases_lt e.item.class n),
)

-- ---- all transitions

module _ (task : FiniteDomainTask) (a : Abstraction) (is : IsAbstractionOf task a) (entries : List (Keyed Transition))
    (made : AreMade a (affecting task a) (length (affecting task a)) entries) where
  key_below : (e : Keyed Transition) → Contains entries e → e.key < a.size
  key_below e h =
      let by = (made e).0 h in
      subst (λ (r : Option ℕ). IfSome r (λ j. j < a.size)) by.2 (is.transitions e.item.source (slice_index (affecting task a) e.item.class) by.1)

  pub all_made : AreEntries a (single_classes task a) entries
  all_made =
      record {
        keys = λ k d l. key_below (get_or entries k d) (All-contains_itself entries k d l);
        exactly = λ e l. (
          λ h. let by = (made e).0 h in
              (slice_index (affecting task a) e.item.class, (class_told task a (slice_index (affecting task a) e.item.class) e.item.class).1 (by.0, refl), (by.1, by.2)),
          λ h.
              let of = (class_told task a h.0 e.item.class).0 h.1 in
              let step = h.2 in
              (made e).1 (of.0, step.0, ap (a.transition e.item.source) of.1 ∙ step.1),
        );
      }
