-- The nodes that are expanded are a finished closed list.
use Rattle.std.proofs.Common.{◌≡◌, ◌⊎◌, ℕ, zero, suc, ◌+◌, ◌<◌, ◌≤◌, true, false, List, [], ◌∷◌, Option, Some, None, All, refl, sym, ap, ◌∙◌, subst, inl, inr, ⊎_elim, arith, true≢false}
use Rattle.std.specs.Prelude.{IfSome, Any}
use Rattle.std.proofs.lemmas.Bool.{cond_both, cases_Bool, cases_lt}
use Rattle.std.proofs.lemmas.List.Elements.{All-nil, All-cons, All-append}
use Rattle.std.proofs.lemmas.List.Kept.{AllPairs-cons}
use Rattle.cost.specs.Distances.{Distance, Finite, ◌≤ᵈ◌}
use Rattle.cost.proofs.DistanceLaws.{at_most_through}
use Rattle.fdr.specs.Tasks.{ranges, IsState, step, is_goal_state, cost_of}
use Rattle.cert_value.specs.Certificates.{Entry}
use Rattle.checker_clauses.specs.ClosedLists.{IsCovered, CoversSuccessors, IsFinished}
use Rattle.owner_theory.specs.Owners.{At, list_at, SearchSpace, Message, Node, Log, f_value}
use Rattle.owner_theory.specs.Families.{In, IsSearchSpace, Family, IsLawful, PendingAbove, best_of, least_of, entry_of, expanded_of, closed_of, NoTwice}
use Rattle.owner_theory.proofs.Distances.{dearer, least_of_at_most, at_most_least_of}
use Rattle.owner_theory.proofs.Nodes.{Apart, Has}
use Rattle.owner_theory.proofs.Owners.{IsMade, Treated, Good}
use Rattle.owner_theory.proofs.Runs.{good}
use Rattle.owner_theory.proofs.Links.{handed_taken}
use Rattle.owner_theory.proofs.Lists.{any_here, any_later, any_in_front, any_behind, pairs_append}
use Rattle.owner_theory.proofs.Successors.{successor_in}

-- ---- the nodes of one owner

-- what holds of each node that is expanded
all_expanded : (P : Entry → Type 0) (ns : List Node) → ((i : ℕ) (n : Node) → At ns i n → n.expanded ≡ true → P (entry_of n))
    → All P (expanded_of ns)
all_expanded P [] h = All-nil P
all_expanded P (n ∷ ns) h =
    let rest = all_expanded P ns (λ i m at done. h (suc i) m at done) in
    cond_both n.expanded (entry_of n ∷ expanded_of ns) (expanded_of ns) (All P)
    (λ done. All-cons P (entry_of n) (expanded_of ns) (h 0 n refl done) rest) (λ _. rest)

any_expanded : (P : Entry → Type 0) (ns : List Node) (i : ℕ) (n : Node) → At ns i n → n.expanded ≡ true → P (entry_of n)
    → Any P (expanded_of ns)
any_expanded P [] i n at done p = absurd at
any_expanded P (x ∷ ns) zero n at done p =
    cond_both x.expanded (entry_of x ∷ expanded_of ns) (expanded_of ns) (Any P)
    (λ _. any_here P (entry_of x) (expanded_of ns) (subst (λ (z : Node). P (entry_of z)) (sym at) p))
    (λ not_done. absurd (true≢false (sym done ∙ ap (λ (z : Node). z.expanded) (sym at) ∙ not_done)))
any_expanded P (x ∷ ns) (suc i) n at done p =
    let rest = any_expanded P ns i n at done p in
    cond_both x.expanded (entry_of x ∷ expanded_of ns) (expanded_of ns) (Any P)
    (λ _. any_later P (entry_of x) (expanded_of ns) rest) (λ _. rest)

once_expanded : (ns : List Node) → Apart ns → NoTwice (expanded_of ns)
once_expanded [] h = λ i j d lt within. absurd (omega arith)
once_expanded (n ∷ ns) h =
    let rest = once_expanded ns h.1 in
    cond_both n.expanded (entry_of n ∷ expanded_of ns) (expanded_of ns) NoTwice
    (λ _. AllPairs-cons (λ d e. d.state ≡ e.state → ⊥) (entry_of n) (expanded_of ns)
    (all_expanded (λ e. n.state ≡ e.state → ⊥) ns (λ i m at done. h.0 i m at)) rest)
    (λ _. rest)

-- ---- all owners

all_closed : (P : Entry → Type 0) (n : ℕ) (logs : ℕ → Log)
    → ((w i : ℕ) (x : Node) → w < n → At (logs w).owner.nodes i x → x.expanded ≡ true → P (entry_of x)) → All P
    (closed_of n logs)
all_closed P zero logs h = All-nil P
all_closed P (suc n) logs h =
    All-append P (expanded_of (logs n).owner.nodes) (closed_of n logs)
    (all_expanded P (logs n).owner.nodes (λ i x at done. h n i x (omega arith) at done))
    (all_closed P n logs (λ w i x lt at done. h w i x (omega arith) at done))

any_closed : (P : Entry → Type 0) (n : ℕ) (logs : ℕ → Log) (w : ℕ) → w < n → Any P (expanded_of (logs w).owner.nodes)
    → Any P (closed_of n logs)
any_closed P zero logs w lt h = absurd (omega arith)
any_closed P (suc n) logs w lt h =
    ⊎_elim
    (λ (q : w < n). any_behind P (expanded_of (logs n).owner.nodes) (closed_of n logs) (any_closed P n logs w q h))
    (λ (q : n ≤ w). let e : w ≡ n = omega arith in any_in_front P (expanded_of (logs n).owner.nodes) (closed_of n logs)
    (subst (λ k. Any P (expanded_of (logs k).owner.nodes)) e h))
    (cases_lt w n)

module _ (S : SearchSpace) (F : Family) (b : Distance) (ok : IsSearchSpace S) (law : IsLawful S F) (best : b ≤ᵈ best_of S F)
    (pending : PendingAbove S F b) where
  goods : (w : ℕ) → Good S w (F.logs w)
  goods w = good S w (F.logs w) ok (law.runs w)

  -- who has a node is one of the owners
  has_owner : (w i : ℕ) (n : Node) → At (F.logs w).owner.nodes i n → w < S.owners
  has_owner w i n at = subst (λ k. k < S.owners) ((goods w).core.own i n at).1 (ok.owner n.state)

  below_best : (w : ℕ) → w < S.owners → b ≤ᵈ (F.logs w).owner.best
  below_best w lt = at_most_through b (best_of S F) (F.logs w).owner.best best
      (least_of_at_most S.owners (λ v. (F.logs v).owner.best) w lt)

  -- no bound seen is below b
  below_seen : (w : ℕ) → b ≤ᵈ (F.logs w).seen
  below_seen w =
      at_most_through b (least_of S.owners (λ v. (F.logs v).offered)) (F.logs w).seen
      (at_most_least_of S.owners (λ v. (F.logs v).offered) b
      (λ v lt. at_most_through b (F.logs v).owner.best (F.logs v).offered (below_best v lt) (goods v).core.offered))
      (law.bounds w)

  abbrev closed : List Entry
  closed = closed_of S.owners F.logs

  abbrev Covered : List ℕ → ℕ → Type 0
  Covered s g = IsCovered closed S.heuristic b s g

  has_covered : (w : ℕ) (s : List ℕ) (g : ℕ) → Has (F.logs w).owner.nodes s g → Covered s g
  has_covered w s g (i, n, at, state, cost) =
      let lt = has_owner w i n at in
      ⊎_elim
      (λ (done : n.expanded ≡ true).
      inl (any_closed (λ e. (e.state ≡ s) × (e.cost ≤ g)) S.owners F.logs w lt
      (any_expanded (λ e. (e.state ≡ s) × (e.cost ≤ g)) (F.logs w).owner.nodes i n at done (state, cost))))
      (λ (open_ : n.expanded ≡ false).
      inr (at_most_through b (f_value S n.state n.cost) (f_value S s g) (pending.nodes w i n lt at open_)
      (subst (λ x. f_value S n.state n.cost ≤ᵈ f_value S x g) state (dearer n.cost g (S.heuristic n.state) cost))))
      (cases_Bool n.expanded)

  handed_covered : (w : ℕ) (m : Message) → In m (F.logs w).handed → Covered m.state m.cost
  handed_covered w m handed =
      let v = S.owner_of m.state in
      ⊎_elim
      (λ (taken : In (record { sender = w; message = m }) (F.logs v).taken). has_covered v m.state m.cost
      ((goods v).core.taken taken.0 (record { sender = w; message = m }) taken.1).0)
      (λ (left : In (record { sender = w; message = m }) F.left). inr
      (pending.left left.0 (record { sender = w; message = m }) left.1))
      (handed_taken S F law w m handed)

  treated_covered : (w : ℕ) (m : Message) → w < S.owners → Treated S (F.logs w) m → Covered m.state m.cost
  treated_covered w m lt t =
      ⊎_elim
      (λ (dropped : (F.logs w).seen ≤ᵈ f_value S m.state m.cost). inr
      (at_most_through b (F.logs w).seen (f_value S m.state m.cost) (below_seen w) dropped))
      (λ (kept : Has (F.logs w).owner.nodes m.state m.cost ⊎ IsMade S (F.logs w) m). ⊎_elim
      (λ (has : Has (F.logs w).owner.nodes m.state m.cost). has_covered w m.state m.cost has)
      (λ (made : IsMade S (F.logs w) m). ⊎_elim
      (λ (out : In m (list_at (F.logs w).owner.outboxes (S.owner_of m.state))). inr
      (pending.outboxes w (S.owner_of m.state) out.0 m lt out.1))
      (λ (handed : In m (F.logs w).handed). handed_covered w m handed)
      made)
      kept)
      t

  -- a state of two owners is none
  apart : (n w i j : ℕ) (x y : Node) → w < n → At (F.logs n).owner.nodes i x → At (F.logs w).owner.nodes j y
      → x.state ≡ y.state → ⊥
  apart n w i j x y lt at at' same =
      let own = ((goods n).core.own i x at).1 in
      let own' = ((goods w).core.own j y at').1 in
      let e : n ≡ w = sym own ∙ (ap S.owner_of same ∙ own') in
      omega arith

  once_to : (n : ℕ) → NoTwice (closed_of n F.logs)
  once_to zero = λ i j d lt within. absurd (omega arith)
  once_to (suc n) =
      pairs_append (λ d e. d.state ≡ e.state → ⊥) (expanded_of (F.logs n).owner.nodes) (closed_of n F.logs)
      (once_expanded (F.logs n).owner.nodes (goods n).core.apart) (once_to n)
      (all_expanded (λ d. All (λ e. d.state ≡ e.state → ⊥) (closed_of n F.logs)) (F.logs n).owner.nodes
      (λ i x at done. all_closed (λ e. x.state ≡ e.state → ⊥) n F.logs (λ w j y lt at' done'. apart n w i j x y lt at at')))

  -- no state is listed twice
  pub listed_once : NoTwice (closed_of S.owners F.logs)
  listed_once = once_to S.owners

  covers_successors : (w i : ℕ) (n : Node) → w < S.owners → At (F.logs w).owner.nodes i n → n.expanded ≡ true
      → CoversSuccessors S.task closed S.heuristic b n.state n.cost
  covers_successors w i n lt at done o = go (step S.task n.state o) refl
    where
      go : (r : Option (List ℕ)) → step S.task n.state o ≡ r → IfSome r
          (λ s. IsCovered (closed_of S.owners F.logs) S.heuristic b s (n.cost + cost_of S.task o))
      go None is = tt
      go (Some t) is = let there = successor_in S.task w i n o t is in treated_covered w _ lt ((goods w).did i n at done _ there)

  pub finished : IsFinished S.task S.heuristic b (closed_of S.owners F.logs)
  finished =
      record {
        states = all_closed (λ e. IsState (ranges S.task) e.state) S.owners F.logs
            (λ w i n lt at done. ((goods w).core.own i n at).0);
        start = has_covered (S.owner_of S.task.initial) S.task.initial 0 ((goods (S.owner_of S.task.initial)).core.begun refl);
        goals = all_closed (λ e. is_goal_state S.task e.state ≡ true → b ≤ᵈ Finite e.cost) S.owners F.logs
            (λ w i n lt at done is. at_most_through b (F.logs w).owner.best (Finite n.cost) (below_best w lt)
            ((goods w).core.goal i n at is));
        successors = all_closed (λ e. CoversSuccessors S.task (closed_of S.owners F.logs) S.heuristic b e.state e.cost)
            S.owners F.logs covers_successors;
      }
