-- Following parents gives a plan.
use Rattle.std.proofs.Common.{◌≡◌, ℕ, zero, suc, ◌+◌, ◌<◌, ◌≤◌, true, List, [], ◌∷◌, ◌++◌, Option, Some, None, reverse, refl, sym, ap, ◌∙◌, subst, inl, inr, ⊎_elim, arith}
use Rattle.std.specs.Prelude.{option_and_then, IsSomeAnd}
use Rattle.std.proofs.lemmas.Bool.{cases_lt}
use Rattle.std.proofs.lemmas.List.{reverse-append}
use Rattle.std.proofs.lemmas.List.Sums.{sum_by_push}
use Rattle.cost.specs.Distances.{Distance, Finite, ◌≤ᵈ◌}
use Rattle.cost.proofs.DistanceLaws.{at_most_itself}
use Rattle.fdr.specs.Tasks.{FiniteDomainTask, IsPlan, state_after, step, is_goal_state, plan_cost, cost_of}
use Rattle.checker_clauses.specs.ClosedLists.{IsFinished}
use Rattle.checker_clauses.proofs.Following.{bound_holds}
use Rattle.owner_theory.specs.Owners.{At, SearchSpace, Parent, Message, Node, Packet}
use Rattle.owner_theory.specs.Families.{In, IsSearchSpace, IsLowerBound, Family, IsLawful, best_of, IsSettled, closed_of, NoTwice, Follows, IsBelow, ParentBelow, IsGoalNode}
use Rattle.owner_theory.proofs.Distances.{least_of_finite}
use Rattle.owner_theory.proofs.Nodes.{RankLe, IsBorn}
use Rattle.owner_theory.proofs.Owners.{Came, Good}
use Rattle.owner_theory.proofs.Runs.{good}
use Rattle.owner_theory.proofs.Links.{taken_handed}
use Rattle.owner_theory.proofs.Closed.{finished, listed_once}
use Rattle.owner_theory.proofs.Lists.{at_once}

-- ---- operators one after another

module _ (T : FiniteDomainTask) where
  state_after_both : (xs ys : List ℕ) (s t : List ℕ) → state_after T s xs ≡ Some t → state_after T s
      (xs ++ ys) ≡ state_after T t ys
  state_after_both [] ys s t e = let same : s ≡ t = cc in ap (λ u. state_after T u ys) same
  state_after_both (o ∷ xs) ys s t e = go (step T s o) (λ u. state_after_both xs ys u t) e
    where
      go : (r : Option (List ℕ)) → ((u : List ℕ) → state_after T u xs ≡ Some t → state_after T u (xs ++ ys) ≡ state_after T t ys)
          → option_and_then (λ u. state_after T u xs) r ≡ Some t → option_and_then
          (λ u. state_after T u (xs ++ ys)) r ≡ state_after T t ys
      go None rest h = absurd (cc)
      go (Some u) rest h = rest u h

  -- one operator more
  state_after_more : (xs : List ℕ) (o : ℕ) (s t u : List ℕ) → state_after T s xs ≡ Some t → step T t o ≡ Some u
      → state_after T s (xs ++ o ∷ []) ≡ Some u
  state_after_more xs o s t u e f = state_after_both xs (o ∷ []) s t e ∙ ap (option_and_then (λ v. state_after T v [])) f

  reversed : (o : ℕ) (back : List ℕ) → reverse (o ∷ back) ≡ reverse back ++ o ∷ []
  reversed o back = reverse-append (o ∷ []) back

-- what a node's parent says, over the family
abbrev OfParent : SearchSpace → Family → Node → Option Parent → Type 0
OfParent S F e None = e.state ≡ S.task.initial
OfParent S F e (Some p) = IsBorn S.task (F.logs p.worker).owner.nodes p e.state e.cost e.steps

module _ (S : SearchSpace) (F : Family) (ok : IsSearchSpace S) (law : IsLawful S F) where
  all_good : (w : ℕ) → Good S w (F.logs w)
  all_good w = good S w (F.logs w) ok (law.runs w)

  came_of : (w : ℕ) (e : Node) (o : Option Parent) → S.owner_of e.state ≡ w → Came S w (F.logs w) e o → OfParent S F e o
  came_of w e None own c = c
  came_of w e (Some p) own c =
      ⊎_elim
      (λ (q : (p.worker ≡ w) × IsBorn S.task (F.logs w).owner.nodes p e.state e.cost e.steps). subst
      (λ k. IsBorn S.task (F.logs k).owner.nodes p e.state e.cost e.steps) (sym q.0) q.1)
      (λ (q : (from : ℕ) × In (record {
        sender = from;
        message = record
            { state = e.state; cost = e.cost; steps = e.steps; parent = p };
      }) (F.logs w).taken).
      let m : Message = record { state = e.state; cost = e.cost; steps = e.steps; parent = p } in
      let packet : Packet = record { sender = q.0; message = m } in
      let handed = taken_handed S F law packet (subst (λ k. In packet (F.logs k).taken) (sym own) q.1) in
      let ours = (all_good q.0).core.ours m (inr handed) in
      subst (λ k. IsBorn S.task (F.logs k).owner.nodes p e.state e.cost e.steps) (sym ours.worker) ours.born)
      c

  of_parent : (w i : ℕ) (e : Node) → At (F.logs w).owner.nodes i e → OfParent S F e e.parent
  of_parent w i e at = came_of w e e.parent ((all_good w).core.own i e at).1 ((all_good w).core.came i e at)

  of_some : (w i : ℕ) (e : Node) (p : Parent) → At (F.logs w).owner.nodes i e → e.parent ≡ Some p → IsBorn S.task
      (F.logs p.worker).owner.nodes p e.state e.cost e.steps
  of_some w i e p at is = subst (OfParent S F e) is (of_parent w i e at)

  below_split : (a b c d k : ℕ) → RankLe (a + k) (suc b) c d → IsBelow a b c d
  below_split a b c d k h =
      let le = h.cost in
      ⊎_elim
      (λ (q : a < c). inl q)
      (λ (q : c ≤ a). let e : a + k ≡ c = omega arith in let s = h.steps e in inr (omega arith, omega arith))
      (cases_lt a c)

  -- ranks fall along parents' present nodes
  pub parents_fall : (w i : ℕ) (e : Node) (p : Parent) → At (F.logs w).owner.nodes i e → e.parent ≡ Some p → ParentBelow F e p
  parents_fall w i e p at is =
      let born = of_some w i e p at is in
      (born.origin, born.at, below_split born.origin.cost born.origin.steps e.cost e.steps (cost_of S.task p.operator) born.rank)

  -- what following parents gives
  pub follows_lead : (back : List ℕ) (w i : ℕ) (n : Node) → At (F.logs w).owner.nodes i n → Follows F w i back
      → (state_after S.task S.task.initial (reverse back) ≡ Some n.state) × (plan_cost S.task (reverse back) ≤ n.cost)
  follows_lead [] w i n at (x, x_at, is) =
      let same = at_once (F.logs w).owner.nodes i x n x_at at in
      let none : n.parent ≡ None = subst (λ (z : Node). z.parent ≡ None) same is in
      (ap Some (sym (subst (OfParent S F n) none (of_parent w i n at))), omega arith)
  follows_lead (o ∷ back) w i n at (x, p, x_at, is, by, rest) =
      let same = at_once (F.logs w).owner.nodes i x n x_at at in
      let born = of_some w i n p at (subst (λ (z : Node). z.parent ≡ Some p) same is) in
      let earlier = follows_lead back p.worker p.index born.origin born.at rest in
      let leads : step S.task born.origin.state o ≡ Some n.state = subst
      (λ k. step S.task born.origin.state k ≡ Some n.state) by born.leads in
      let rank : born.origin.cost + cost_of S.task o ≤ n.cost = subst
      (λ k. born.origin.cost + cost_of S.task k ≤ n.cost) by born.rank.cost in (
        ap (state_after S.task S.task.initial) (reversed S.task o back) ∙ state_after_more S.task
            (reverse back) o S.task.initial born.origin.state n.state earlier.0 leads,
        let sum : plan_cost S.task (reverse (o ∷ back)) ≡ plan_cost S.task (reverse back) + cost_of S.task o = ap
            (plan_cost S.task) (reversed S.task o back) ∙ sum_by_push (cost_of S.task) (reverse back) o in
            omega (arith, earlier.1),
      )

  -- the walk ends
  abbrev Ends : ℕ → ℕ → Type 0
  Ends w i = (back : List ℕ) × Follows F w i back

  one_more : (w i : ℕ) (e : Node) (o : Option Parent) → At (F.logs w).owner.nodes i e → e.parent ≡ o
      → ((p : Parent) → o ≡ Some p → Ends p.worker p.index) → Ends w i
  one_more w i e None at is rec = ([], (e, at, is))
  one_more w i e (Some p) at is rec = let (ks, rest) = rec p refl in (p.operator ∷ ks, (e, p, at, is, refl, rest))

  ends_same : (g : ℕ) → ((w i : ℕ) (e : Node) → At (F.logs w).owner.nodes i e → e.cost < g → Ends w i)
      → (d : ℕ) (w i : ℕ) (e : Node) → At (F.logs w).owner.nodes i e → e.cost < suc g → e.steps < d → Ends w i
  ends_same g less zero w i e at lt lt' = absurd (omega arith)
  ends_same g less (suc d) w i e at lt lt' = one_more w i e e.parent at refl (λ p is.
      let (x, x_at, below) = parents_fall w i e p at is in
      ⊎_elim
      (λ (q : x.cost < e.cost). less p.worker p.index x x_at (omega arith))
      (λ (q : (x.cost ≡ e.cost) × (x.steps < e.steps)). ends_same g less d p.worker p.index x x_at
      (let q0 = q.0 in omega arith) (let q1 = q.1 in omega arith))
      below)

  ends_below : (g : ℕ) (w i : ℕ) (e : Node) → At (F.logs w).owner.nodes i e → e.cost < g → Ends w i
  ends_below zero w i e at lt = absurd (omega arith)
  ends_below (suc g) w i e at lt = ends_same g (ends_below g) (suc e.steps) w i e at lt (omega arith)

  pub walk_ends : (w i : ℕ) (e : Node) → At (F.logs w).owner.nodes i e → (back : List ℕ) × Follows F w i back
  walk_ends w i e at = ends_below (suc e.cost) w i e at (omega arith)

  -- a settled family with a finite bound has a node with a goal state and that cost
  pub best_node : (n : ℕ) → best_of S F ≡ Finite n → (w i : ℕ) × IsGoalNode S F w i n
  best_node n is =
      let (w, lt, at_w) = least_of_finite S.owners (λ v. (F.logs v).owner.best) n is in
      let (i, e, at, goal, le) = (all_good w).core.best n at_w in
      let ge : (Finite n ≤ᵈ Finite e.cost) = subst (λ x. x ≤ᵈ Finite e.cost) at_w ((all_good w).core.goal i e at goal) in
      (w, i, (e, lt, at, goal, omega arith))

-- ---- what a settled family gives

pub settled_finished : (S : SearchSpace) (F : Family) (b : Distance) → IsSearchSpace S → IsLawful S F → IsSettled S F b
    → IsFinished S.task S.heuristic b (closed_of S.owners F.logs)
settled_finished S F b ok law settled = finished S F b ok law
    (subst (λ x. b ≤ᵈ x) settled.best (at_most_itself b)) settled.pending

pub settled_once : (S : SearchSpace) (F : Family) (b : Distance) → IsSearchSpace S → IsLawful S F → IsSettled S F b
    → NoTwice (closed_of S.owners F.logs)
settled_once S F b ok law settled = listed_once S F b ok law (subst (λ x. b ≤ᵈ x) settled.best (at_most_itself b)) settled.pending

module _ (S : SearchSpace) (F : Family) (n w i : ℕ) (back : List ℕ) (ok : IsSearchSpace S)
    (low : IsLowerBound S.task S.heuristic) (law : IsLawful S F) (settled : IsSettled S F (Finite n))
    (goal : IsGoalNode S F w i n) (follows : Follows F w i back) where
  arrives : (state_after S.task S.task.initial (reverse back) ≡ Some goal.0.state)
      × (plan_cost S.task (reverse back) ≤ goal.0.cost)
  arrives = follows_lead S F ok law back w i goal.0 goal.2 follows

  pub settled_plan : IsPlan S.task (reverse back)
  settled_plan = subst (λ r. IsSomeAnd r (λ s. is_goal_state S.task s ≡ true)) (sym arrives.0) goal.3

  pub settled_plan_cost : plan_cost S.task (reverse back) ≡ n
  settled_plan_cost =
      let least : n ≤ plan_cost S.task (reverse back) =
      bound_holds S.task ok.task S.heuristic low (Finite n) (closed_of S.owners F.logs)
      (settled_finished S F (Finite n) ok law settled) (reverse back) settled_plan in
      omega (arith, arrives.1, goal.4)
