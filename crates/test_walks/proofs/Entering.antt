-- The transitions into an abstract state, one class and one source after another.
use Rattle.std.specs.Prelude.{Contains, slice_get}
use Rattle.std.proofs.Common.{◌≡◌, ℕ, ◌+◌, ◌<◌, ◌≤◌, ◌⊎◌, List, [], ◌∷◌, ◌++◌, length, slice_index, Option, Some, refl, sym, ap, ◌∙◌, subst, inl, inr, ⊎_elim, below_more, arith}
use Rattle.std.proofs.lemmas.Bool.{cases_eq, cases_lt}
use Rattle.std.proofs.lemmas.List.Elements.{Contains-get_or, Contains-append_left, Contains-push, Contains-push_cases}
use Rattle.abstraction_groups.specs.declared.backward.Transition.{Transition}
use Rattle.abstraction_groups.specs.Entrances.{LeadsTo, IsEntering, AreEntering}
use Rattle.test_walks.specs.Graphs.{Listing, abstraction_by, classes_by, target_of, IsFrom, HasEntering, AreMembers, step_of_kind, graph_grouped}

pub nothing_yet : (g : Listing) (c j : ℕ) (old : List Transition) → HasEntering g c 0 j old old
nothing_yet g c j old = record { kept = λ t has. has; added = λ i w. absurd (omega (arith, w.0)); only = λ t has. inl has }

pub source_added : (g : Listing) (c n j : ℕ) (old new : List Transition) → target_of (length g.goals) g.targets c n ≡ Some j → HasEntering g c n j old new →
    HasEntering g c (n + 1) j old (new ++ record { class = c; source = n } ∷ [])
source_added g c n j old new is before =
    record {
      kept = λ t has. Contains-append_left new (x ∷ []) t (before.kept t has);
      added = λ i w. ⊎_elim
          (λ (l : i < n). Contains-append_left new (x ∷ []) (record { class = c; source = i }) (before.added i (l, w.1)))
          (λ (l : n ≤ i).
          let e : n ≡ i = omega (arith, w.0) in
          subst (λ (k : ℕ). Contains (new ++ x ∷ []) (record { class = c; source = k })) e (Contains-push new x))
          (cases_lt i n);
      only = λ t has. ⊎_elim
          (λ (h : Contains new t). ⊎_elim
          (λ (h : Contains old t). inl h)
          (λ (w : (t.class ≡ c) × IsFrom g c n j t.source). inr (w.0, (omega (arith, w.1.0), w.1.1)))
          (before.only t h))
          (λ (e : x ≡ t). inr (sym (ap (λ (u : Transition). u.class) e), subst (λ (u : Transition). IsFrom g c (n + 1) j u.source) e (omega arith, is)))
          (Contains-push_cases new x t has);
    }
  where
    x : Transition
    x = record { class = c; source = n }

pub source_left_out : (g : Listing) (c n j : ℕ) (old new : List Transition) → (target_of (length g.goals) g.targets c n ≡ Some j → ⊥) → HasEntering g c n j old new → HasEntering g c (n + 1) j old new
source_left_out g c n j old new other before =
    record {
      kept = before.kept;
      added = λ i w. ⊎_elim
          (λ (l : i < n). before.added i (l, w.1))
          (λ (l : n ≤ i).
          let e : i ≡ n = omega (arith, w.0) in
          absurd (other (subst (λ (k : ℕ). target_of (length g.goals) g.targets c k ≡ Some j) e w.1)))
          (cases_lt i n);
      only = λ t has. ⊎_elim
          (λ (h : Contains old t). inl h)
          (λ (w : (t.class ≡ c) × IsFrom g c n j t.source). inr (w.0, (omega (arith, w.1.0), w.1.1)))
          (before.only t has);
    }

-- exactly the transitions of the first n classes into the abstract state
pub record AreEnteringBelow (g : Listing) (n j : ℕ) (ts : List Transition) : Type 0 where
  pub below : (t : Transition) → Contains ts t → t.class < n
  pub to : (t : Transition) → Contains ts t → IsEntering (abstraction_by g) (classes_by g) j t
  pub from : (t : Transition) → t.class < n → IsEntering (abstraction_by g) (classes_by g) j t → Contains ts t

pub no_class_yet : (g : Listing) (j : ℕ) → AreEnteringBelow g 0 j []
no_class_yet g j = record { below = λ t has. absurd (omega (arith, has.1)); to = λ t has. absurd (omega (arith, has.1)); from = λ t l e. absurd (omega arith) }

-- the target of an operator's class
target_by : (g : Listing) (o c i j : ℕ) → (classes_by g).class o ≡ Some c → (abstraction_by g).transition i o ≡ Some j → target_of (length g.goals) g.targets c i ≡ Some j
target_by g o c i j of step = sym (step_of_kind (length g.goals) g.count g.targets i c (slice_get g.kinds o) of) ∙ step

pub class_added : (g : Listing) (c j : ℕ) (operators : List ℕ) (old new : List Transition) → AreMembers g.count g.kinds c operators → 0 < length operators →
    HasEntering g c (length g.goals) j old new → AreEnteringBelow g c j old → AreEnteringBelow g (c + 1) j new
class_added g c j operators old new members some more before =
    record {
      below = λ t has. ⊎_elim
          (λ (h : Contains old t). omega (arith, before.below t h))
          (λ (w : (t.class ≡ c) × IsFrom g c (length g.goals) j t.source). omega (arith, w.0))
          (more.only t has);
      to = λ t has. ⊎_elim
          (λ (h : Contains old t). before.to t h)
          (λ (w : (t.class ≡ c) × IsFrom g c (length g.goals) j t.source).
          (first, of ∙ ap Some (sym w.0), (w.1.0, step_of_kind (length g.goals) g.count g.targets t.source c (slice_get g.kinds first) of ∙ w.1.1)))
          (more.only t has);
      from = λ t l e. ⊎_elim
          (λ (h : t.class < c). more.kept t (before.from t h e))
          (λ (h : c ≤ t.class).
          let is : c ≡ t.class = omega arith in
          let there : Contains new (record { class = c; source = t.source }) = more.added t.source (e.2.0, target_by g e.0 c t.source j (e.1 ∙ ap Some (sym is)) e.2.1) in
          subst (λ (k : ℕ). Contains new (record { class = k; source = t.source })) is there)
          (cases_lt t.class c);
    }
  where
    first : ℕ
    first = slice_index operators 0

    of : (classes_by g).class first ≡ Some c
    of = (members.listed first).0 (Contains-get_or operators 0 0 some)

pub class_left_out : (g : Listing) (c j : ℕ) (operators : List ℕ) (old : List Transition) → AreMembers g.count g.kinds c operators → length operators ≡ 0 →
    AreEnteringBelow g c j old → AreEnteringBelow g (c + 1) j old
class_left_out g c j operators old members none before =
    record {
      below = λ t has. omega (arith, before.below t has);
      to = before.to;
      from = λ t l e. ⊎_elim
          (λ (h : t.class < c). before.from t h e)
          (λ (h : c ≤ t.class).
          let is : t.class ≡ c = omega arith in
          let has = (members.listed e.0).1 (e.1 ∙ ap Some is) in
          absurd (omega (arith, has.1)))
          (cases_lt t.class c);
    }

pub AreEntering-all : (g : Listing) (j : ℕ) (ts : List Transition) → AreEnteringBelow g g.count j ts → AreEntering (abstraction_by g) (classes_by g) j ts
AreEntering-all g j ts all t = (λ has. all.to t has, λ e. all.from t ((graph_grouped g.goals g.count g.kinds g.targets).below e.0 t.class e.1) e)
