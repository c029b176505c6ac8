-- How an owner's nodes grow: places and states stay, ranks fall.
use Rattle.std.proofs.Common.{◌≡◌, ◌⊎◌, ℕ, zero, suc, ◌+◌, ◌≤◌, true, false, List, [], ◌∷◌, Some, refl, sym, ap, ◌∙◌, subst, inl, inr, ⊎_elim, arith, true≢false}
use Rattle.std.specs.Prelude.{slice_set}
use Rattle.std.proofs.lemmas.Bool.{cond_both}
use Rattle.std.proofs.lemmas.Bool.Decides.{nat_tests}
use Rattle.fdr.specs.Tasks.{FiniteDomainTask, step, cost_of}
use Rattle.owner_theory.specs.Owners.{At, same_state, Parent, Message, Node, rank_less, node_of, improve, marked}
use Rattle.owner_theory.proofs.States.{same_state-true, same_state_refl}

-- cost g and d steps are at most cost g' and d' steps, by cost and where it is the same by steps
pub record RankLe (g d g' d' : ℕ) : Type 0 where
  pub cost : g ≤ g'
  pub steps : g ≡ g' → d ≤ d'

pub rank_refl : (g d : ℕ) → RankLe g d g d
rank_refl g d = record { cost = omega arith; steps = λ e. omega arith }

pub rank_trans : (a b c d e f : ℕ) → RankLe a b c d → RankLe c d e f → RankLe a b e f
rank_trans a b c d e f p q = record {
  cost = let p' = p.cost in let q' = q.cost in omega arith;
  steps = λ same. let p' = p.cost in let q' = q.cost in
      let ac : a ≡ c = omega arith in let ce : c ≡ e = omega arith in
      let bd = p.steps ac in let df = q.steps ce in omega arith;
}

-- a step from a lesser rank leads to a lesser rank
pub rank_step : (a b c d k : ℕ) → RankLe a b c d → RankLe (a + k) (suc b) (c + k) (suc d)
rank_step a b c d k p = record {
  cost = let p' = p.cost in omega arith;
  steps = λ same. let ac : a ≡ c = omega arith in let bd = p.steps ac in omega arith;
}

rank_less-true : (g d g' d' : ℕ) → rank_less g d g' d' ≡ true → RankLe g d g' d'
rank_less-true g d g' d' h = record { cost = grind (arith, nat_tests); steps = grind (arith, nat_tests) }

rank_less-false : (g d g' d' : ℕ) → rank_less g d g' d' ≡ false → RankLe g' d' g d
rank_less-false g d g' d' h = record { cost = grind (arith, nat_tests); steps = grind (arith, nat_tests) }

-- each node is still there, with its state and no greater rank
abbrev pub Grows : List Node → List Node → Type 0
Grows ns ns' = (i : ℕ) (e : Node) → At ns i e → (e' : Node) × At ns' i e' × (e'.state ≡ e.state)
    × RankLe e'.cost e'.steps e.cost e.steps

-- a node expanded at its present rank was there before
abbrev pub Still : List Node → List Node → Type 0
Still ns ns' = (i : ℕ) (e : Node) → At ns' i e → e.expanded ≡ true → At ns i e

-- no state is there twice
abbrev pub Apart : List Node → Type 0
Apart [] = Unit {0}
Apart (x ∷ xs) = ((j : ℕ) (e : Node) → At xs j e → x.state ≡ e.state → ⊥) × Apart xs

-- there is a node for the state, at no more than this cost
abbrev pub Has : List Node → List ℕ → ℕ → Type 0
Has ns s g = (i : ℕ) × (e : Node) × At ns i e × (e.state ≡ s) × (e.cost ≤ g)

-- the state is a successor of the node that the parent names, at no less than the rank that its present rank gives
pub record IsBorn (T : FiniteDomainTask) (ns : List Node) (p : Parent) (s : List ℕ) (g d : ℕ) : Type 0 where
  pub origin : Node
  pub at : At ns p.index origin
  pub leads : step T origin.state p.operator ≡ Some s
  pub rank : RankLe (origin.cost + cost_of T p.operator) (suc origin.steps) g d

pub grows_refl : (ns : List Node) → Grows ns ns
grows_refl ns i e at = (e, at, refl, rank_refl e.cost e.steps)

pub grows_trans : (a b c : List Node) → Grows a b → Grows b c → Grows a c
grows_trans a b c p q i e at =
    let (x, x_at, x_state, x_rank) = p i e at in
    let (y, y_at, y_state, y_rank) = q i x x_at in
    (y, y_at, y_state ∙ x_state, rank_trans y.cost y.steps x.cost x.steps e.cost e.steps y_rank x_rank)

pub grows_has : (a b : List Node) (s : List ℕ) (g : ℕ) → Grows a b → Has a s g → Has b s g
grows_has a b s g p (i, e, at, state, cost) =
    let (x, x_at, x_state, x_rank) = p i e at in
    (i, x, x_at, x_state ∙ state, let c = x_rank.cost in omega arith)

pub grows_born : (T : FiniteDomainTask) (a b : List Node) (p : Parent) (s : List ℕ) (g d : ℕ) → Grows a b
    → IsBorn T a p s g d → IsBorn T b p s g d
grows_born T a b p s g d grows h =
    let (x, x_at, x_state, x_rank) = grows p.index h.origin h.at in
    let k = cost_of T p.operator in
    record {
      origin = x;
      at = x_at;
      leads = ap (λ t. step T t p.operator) x_state ∙ h.leads;
      rank = rank_trans (x.cost + k) (suc x.steps) (h.origin.cost + k) (suc h.origin.steps) g d
          (rank_step x.cost x.steps h.origin.cost h.origin.steps k x_rank) h.rank;
    }

-- after a message is taken a node was there before, or is the message's
pub improve_at : (ns : List Node) (m : Message) (i : ℕ) (e : Node) → At (improve ns m) i e → At ns i e ⊎ (node_of m ≡ e)
improve_at [] m zero e h = inr h
improve_at [] m (suc i) e h = absurd h
improve_at (x ∷ ns) m zero e h =
    let P : List Node → Type 0 = λ xs. At xs zero e → (x ≡ e) ⊎ (node_of m ≡ e) in
    cond_both (same_state x.state m.state) _ _ P
    (λ _. cond_both (rank_less m.cost m.steps x.cost x.steps) _ _ P (λ _ k. inr k) (λ _ k. inl k))
    (λ _ k. inl k)
    h
improve_at (x ∷ ns) m (suc i) e h =
    let P : List Node → Type 0 = λ xs. At xs (suc i) e → At ns i e ⊎ (node_of m ≡ e) in
    cond_both (same_state x.state m.state) _ _ P
    (λ _. cond_both (rank_less m.cost m.steps x.cost x.steps) _ _ P (λ _ k. inl k) (λ _ k. inl k))
    (λ _ k. improve_at ns m i e k)
    h

pub improve_still : (ns : List Node) (m : Message) → Still ns (improve ns m)
improve_still ns m i e at done =
    ⊎_elim (λ (h : At ns i e). h) (λ (h : node_of m ≡ e). absurd
    (true≢false (sym done ∙ sym (ap (λ (x : Node). x.expanded) h)))) (improve_at ns m i e at)

pub improve_grows : (ns : List Node) (m : Message) → Grows ns (improve ns m)
improve_grows [] m i e h = absurd h
improve_grows (x ∷ ns) m zero e h =
    let P : List Node → Type 0 = λ xs. (e' : Node) × At xs zero e' × (e'.state ≡ x.state)
    × RankLe e'.cost e'.steps x.cost x.steps in
    let Q : Node → Type 0 = λ y. (e' : Node) × At (improve (x ∷ ns) m) zero e' × (e'.state ≡ y.state)
    × RankLe e'.cost e'.steps y.cost y.steps in
    subst Q h (cond_both (same_state x.state m.state) _ _ P
    (λ same. cond_both (rank_less m.cost m.steps x.cost x.steps) _ _ P
    (λ less. (
      node_of m,
      refl,
      sym (same_state-true x.state m.state same),
      rank_less-true m.cost m.steps x.cost x.steps
          less,
    )) (λ _. (x, refl, refl, rank_refl x.cost x.steps)))
    (λ _. (x, refl, refl, rank_refl x.cost x.steps)))
improve_grows (x ∷ ns) m (suc i) e h =
    let P : List Node → Type 0 = λ xs. (e' : Node) × At xs (suc i) e' × (e'.state ≡ e.state)
    × RankLe e'.cost e'.steps e.cost e.steps in
    cond_both (same_state x.state m.state) _ _ P
    (λ same. cond_both (rank_less m.cost m.steps x.cost x.steps) _ _ P (λ less. (e, h, refl, rank_refl e.cost e.steps))
    (λ _. (e, h, refl, rank_refl e.cost e.steps)))
    (λ _. improve_grows ns m i e h)

-- the message's state is there then, at no greater rank
pub improve_has : (ns : List Node) (m : Message) → (i : ℕ) × (e : Node) × At (improve ns m) i e × (e.state ≡ m.state)
    × RankLe e.cost e.steps m.cost m.steps
improve_has [] m = (zero, node_of m, refl, refl, rank_refl m.cost m.steps)
improve_has (x ∷ ns) m =
    let P : List Node → Type 0 = λ xs. (i : ℕ) × (e : Node) × At xs i e × (e.state ≡ m.state)
    × RankLe e.cost e.steps m.cost m.steps in
    cond_both (same_state x.state m.state) _ _ P
    (λ same. cond_both (rank_less m.cost m.steps x.cost x.steps) _ _ P
    (λ _. (zero, node_of m, refl, refl, rank_refl m.cost m.steps))
    (λ more. (zero, x, refl, same_state-true x.state m.state same, rank_less-false m.cost m.steps x.cost x.steps more)))
    (λ _. let (i, e, at, state, rank) = improve_has ns m in (suc i, e, at, state, rank))

pub improve_apart : (ns : List Node) (m : Message) → Apart ns → Apart (improve ns m)
improve_apart [] m h = ((λ j e at _. at), tt)
improve_apart (x ∷ ns) m h =
    cond_both (same_state x.state m.state) _ _ Apart
    (λ same. cond_both (rank_less m.cost m.steps x.cost x.steps) _ _ Apart
    (λ _. ((λ j e at eq. h.0 j e at (same_state-true x.state m.state same ∙ eq)), h.1)) (λ _. h))
    (λ other. (
      (λ j e at eq. ⊎_elim (λ (was : At ns j e). h.0 j e was eq)
          (λ (new : node_of m ≡ e). absurd (true≢false (sym
          (ap (λ (s : List ℕ). same_state x.state s) (ap (λ (y : Node). y.state) new)
          ∙ (ap (λ (s : List ℕ). same_state x.state s) (sym eq) ∙ same_state_refl x.state)) ∙ other)))
          (improve_at ns m j e at)),
      improve_apart ns m h.1,
    ))

-- ---- marking a node
pub mark_at : (ns : List Node) (i : ℕ) (x : Node) (j : ℕ) (e : Node) → At (slice_set ns i x) j e → ((j ≡ i) × (x ≡ e)) ⊎ At ns j e
mark_at [] i x j e h = inr h
mark_at (y ∷ ns) zero x zero e h = inl (refl, h)
mark_at (y ∷ ns) zero x (suc j) e h = inr h
mark_at (y ∷ ns) (suc i) x zero e h = inr h
mark_at (y ∷ ns) (suc i) x (suc j) e h = ⊎_elim (λ (p : (j ≡ i) × (x ≡ e)). inl (ap suc p.0, p.1))
    (λ (p : At ns j e). inr p) (mark_at ns i x j e h)

pub mark_there : (ns : List Node) (i : ℕ) (x e : Node) → At ns i e → At (slice_set ns i x) i x
mark_there [] i x e h = absurd h
mark_there (y ∷ ns) zero x e h = refl
mark_there (y ∷ ns) (suc i) x e h = mark_there ns i x e h

pub mark_grows : (ns : List Node) (i : ℕ) (x : Node) → At ns i x → Grows ns (slice_set ns i (marked x))
mark_grows [] i x h j e at = absurd at
mark_grows (y ∷ ns) zero x h zero e at = let same = sym h ∙ at in (
  marked x,
  refl,
  ap (λ (z : Node). z.state) same,
  subst (λ (z : Node). RankLe x.cost x.steps z.cost z.steps) same
      (rank_refl x.cost x.steps),
)
mark_grows (y ∷ ns) zero x h (suc j) e at = (e, at, refl, rank_refl e.cost e.steps)
mark_grows (y ∷ ns) (suc i) x h zero e at = (e, at, refl, rank_refl e.cost e.steps)
mark_grows (y ∷ ns) (suc i) x h (suc j) e at = mark_grows ns i x h j e at

pub mark_apart : (ns : List Node) (i : ℕ) (x : Node) → At ns i x → Apart ns → Apart (slice_set ns i (marked x))
mark_apart [] i x at h = h
mark_apart (y ∷ ns) zero x at h = ((λ j e there eq. h.0 j e there (ap (λ (z : Node). z.state) at ∙ eq)), h.1)
mark_apart (y ∷ ns) (suc i) x at h = (
  (λ j e there eq. ⊎_elim
      (λ (p : (j ≡ i) × (marked x ≡ e)). h.0 i x at (eq ∙ sym (ap (λ (z : Node). z.state) p.1)))
      (λ (p : At ns j e). h.0 j e p eq) (mark_at ns i (marked x) j e there)),
  mark_apart ns i x at h.1,
)
