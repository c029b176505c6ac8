-- What comes of reaching a state, and where nodes stand then.
use Rattle.std.proofs.Common.{◌≡◌, ◌⊎◌, ℕ, zero, suc, ◌+◌, Bool, true, false, List, [], ◌∷◌, ◌++◌, length, refl, ap, ◌∙◌, inl, inr, ⊎_elim, arith, cond}
use Rattle.std.specs.Prelude.{slice_set}
use Rattle.owner_theory.specs.Owners.{At, Message, Node, same_state, rank_less, node_of, improve}
use Rattle.owner_theory.proofs.States.{same_state-true}
use Rattle.closed.specs.declared.table.Outcome.{Outcome}
use Rattle.closed.specs.declared.table.Outcome.TheVariants.{New, Better, Kept}
use Rattle.closed.specs.Tables.{reached, outcome_from, outcome_of}

-- ---- places

pub last_at : (ns : List Node) (m : Node) → At (ns ++ m ∷ []) (length ns) m
last_at [] m = refl
last_at (x ∷ ns) m = last_at ns m

pub push_at : (ns : List Node) (m : Node) (i : ℕ) (e : Node) → At (ns ++ m ∷ []) i e → At ns i e ⊎ ((i ≡ length ns) × (m ≡ e))
push_at [] m zero e h = inr (refl, h)
push_at [] m (suc i) e h = absurd h
push_at (x ∷ ns) m zero e h = inl h
push_at (x ∷ ns) m (suc i) e h = ⊎_elim (λ (p : At ns i e). inl p) (λ (p : (i ≡ length ns) × (m ≡ e)). inr (ap suc p.0, p.1)) (push_at ns m i e h)

-- ---- what comes of it

abbrev pub IsNew : ℕ → List Node → Node → Outcome → List Node → Type 0
IsNew k ns m o ns' = (o ≡ New (k + length ns)) × (ns' ≡ ns ++ m ∷ [])

pub record IsBetter (k : ℕ) (ns : List Node) (m : Node) (o : Outcome) (ns' : List Node) : Type 0 where
  pub place : ℕ
  pub node : Node
  pub there : At ns place node
  pub state : node.state ≡ m.state
  pub less : rank_less m.cost m.steps node.cost node.steps ≡ true
  pub outcome : o ≡ Better (k + place)
  pub nodes : ns' ≡ slice_set ns place m

abbrev pub IsKeptAs : List Node → Outcome → List Node → Type 0
IsKeptAs ns o ns' = (o ≡ Kept) × (ns' ≡ ns)

abbrev pub Comes : ℕ → List Node → Node → Outcome → List Node → Type 0
Comes k ns m o ns' = IsNew k ns m o ns' ⊎ (IsBetter k ns m o ns' ⊎ IsKeptAs ns o ns')

later : (k : ℕ) (x : Node) (ns : List Node) (m : Node) (o : Outcome) (ns' : List Node) → Comes (suc k) ns m o ns'
    → Comes k (x ∷ ns) m o (x ∷ ns')
later k x ns m o ns' h =
    ⊎_elim
    (λ (p : IsNew (suc k) ns m o ns'). let e : suc k + length ns ≡ k + length (x ∷ ns) = omega arith in
    inl (p.0 ∙ ap New e, ap (λ (l : List Node). x ∷ l) p.1))
    (λ (q : IsBetter (suc k) ns m o ns' ⊎ IsKeptAs ns o ns'). inr (⊎_elim
    (λ (b : IsBetter (suc k) ns m o ns'). let e : suc k + b.place ≡ k + suc b.place = omega arith in
    inl (record {
      place = suc b.place;
      node = b.node;
      there = b.there;
      state = b.state;
      less = b.less;
      outcome = b.outcome ∙ ap Better e;
      nodes = ap (λ (l : List Node). x ∷ l) b.nodes;
    }))
    (λ (p : IsKeptAs ns o ns'). inr (p.0, ap (λ (l : List Node). x ∷ l) p.1))
    q))
    h

comes_from : (k : ℕ) (ns : List Node) (m : Node) → Comes k ns m (outcome_from k ns m) (reached ns m)
comes_from k [] m = let e : k ≡ k + 0 = omega arith in inl (ap New e, refl)
comes_from k (x ∷ ns) m =
    both (comes_from (suc k) ns m) (same_state x.state m.state) (rank_less m.cost m.steps x.cost x.steps) refl refl
  where
    P : Bool → Bool → Type 0
    P b c = Comes k (x ∷ ns) m (cond b (cond c (Better k) Kept) (outcome_from (suc k) ns m))
        (cond b (cond c (m ∷ ns) (x ∷ ns)) (x ∷ reached ns m))

    both : Comes (suc k) ns m (outcome_from (suc k) ns m) (reached ns m) → (b c : Bool) → same_state x.state m.state ≡ b → rank_less m.cost m.steps x.cost x.steps ≡ c → P b c
    both rest true true s r = let e : k ≡ k + 0 = omega arith in inr (inl (record {
      place = 0;
      node = x;
      there = refl;
      state = same_state-true x.state m.state s;
      less = r;
      outcome = ap Better e;
      nodes = refl;
    }))
    both rest true false s r = inr (inr (refl, refl))
    both rest false c s r = later k x ns m (outcome_from (suc k) ns m) (reached ns m) rest

pub comes : (ns : List Node) (m : Node) → Comes 0 ns m (outcome_of ns m) (reached ns m)
comes ns m = comes_from 0 ns m

-- a state that is reached at no lesser rank changes nothing
pub kept_same : (ns : List Node) (m : Node) → outcome_of ns m ≡ Kept → reached ns m ≡ ns
kept_same ns m kept =
    ⊎_elim
    (λ (p : IsNew 0 ns m (outcome_of ns m) (reached ns m)). let other = p.0 in absurd cc)
    (λ (q : IsBetter 0 ns m (outcome_of ns m) (reached ns m) ⊎ IsKeptAs ns (outcome_of ns m) (reached ns m)).
    ⊎_elim
    (λ (b : IsBetter 0 ns m (outcome_of ns m) (reached ns m)). let other = b.outcome in absurd cc)
    (λ (p : IsKeptAs ns (outcome_of ns m) (reached ns m)). p.1)
    q)
    (comes ns m)

-- the table's word and the family's are one
pub reached_improves : (ns : List Node) (m : Message) → reached ns (node_of m) ≡ improve ns m
reached_improves [] m = refl
reached_improves (x ∷ ns) m =
    ap (λ (l : List Node). cond (same_state x.state m.state) (cond (rank_less m.cost m.steps x.cost x.steps) (node_of m ∷ ns) (x ∷ ns)) (x ∷ l))
    (reached_improves ns m)
