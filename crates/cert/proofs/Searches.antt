-- What the owners of a search have expanded, at its end, is a closed list.
use Rattle.std.proofs.Common.{◌≡◌, ℕ, zero, suc, ◌+◌, ◌<◌, ◌≤◌, ◌^◌, List, [], ◌∷◌, ◌++◌, length, get_or, take, refl, sym, ap, subst, ◌∙◌, arith, append_assoc}
use Rattle.std.specs.Prelude.{All}
use Rattle.std.specs.List.Sorted.{IsPermutation}
use Rattle.std.proofs.Math.Logic.{∥∥₁_elim}
use Rattle.std.proofs.Math.Nat.{ℕ_set}
use Rattle.std.proofs.lemmas.Bool.{cond_both}
use Rattle.std.proofs.lemmas.List.Elements.{All-nil, All-cons, All-head, All-tail, All-append, All-more, All-weaker}
use Rattle.std.proofs.lemmas.List.Sorted.{All-permutation, IsPermutation-refl, IsPermutation-trans, IsPermutation-append, IsPermutation-append_left, IsPermutation-append_right, IsPermutation-append_comm, length_permutation}
use native.Mathlib.Bridge.{le_prop}
use Rattle.cost.specs.Distances.{Distance, Finite, Infinite, ◌≤ᵈ◌, IsWithin, lesser}
use Rattle.cost.proofs.DistanceLaws.{at_most_through, at_most_both, at_most-prop, lesser_left, lesser_at_most_left, lesser_at_most_right}
use Rattle.fdr.specs.Tasks.{FiniteDomainTask, ranges, IsState, IsWithinLimits}
use Rattle.cert_value.specs.declared.certificate.Version.TheVariants.{Two}
use Rattle.cert_value.specs.Certificates.{Kind, Entry, CertificateValue}
use Rattle.cert_value.specs.Lawful.{IsLawfulKind, IsLawful}
use Rattle.checker_clauses.specs.ClosedLists.{IsFinished}
use Rattle.checker_clauses.specs.Violations.{IsHeld}
use Rattle.owner_theory.specs.Owners.{At, SearchSpace, Node, Log}
use Rattle.owner_theory.specs.Families as families
use Rattle.owner_theory.specs.Families.{IsSearchSpace, Family, PendingAbove, best_of, expanded_of, closed_of, NoTwice}
use Rattle.owner_theory.proofs.Closed.{finished, listed_once}
use Rattle.owner_theory.proofs.Plans.{best_node}
use Rattle.scp.specs.Partitions.{AreCostPartitioned}
use Rattle.owner.specs.Spaces.{SpaceOf}
use Rattle.owner.specs.Owned.{OwnerOf, IsKept, max_total}
use Rattle.extract.specs.Ends.{EndOf, IsForm, IsEndOf, ArePendingAbove, IsSettledAt, space_at}
use Rattle.extract.specs.Bounds.{least_pending, least_best, stated, lower_bound}
use Rattle.extract.proofs.Places.{at_some, each_at, all_at}
use Rattle.extract.proofs.Families.{best_same, pending_to_family, to_family}
use Rattle.extract.proofs.Pending.{pending_below}
use Rattle.extract.proofs.Pending as pending
use Rattle.extract.proofs.Bounds.{stated_at_most, stated_within, small_stated}
use Rattle.cert.specs.Orders.{IsInOrder, IsRising}
use Rattle.cert.specs.Expanded.{closed_in}
use Rattle.cert.proofs.Shuffles.{finished_again, once_again}
use Rattle.cert.proofs.StateOrder.{rising}
use Rattle.cert.proofs.HeldLists.{held_prop, merely_held}
use Rattle.cert.proofs.LawfulLists.{has_text}

-- ---- propositions

nothing_prop : IsProp ⊥
nothing_prop x y = absurd x

below_prop : (m n : ℕ) → IsProp (m ≤ n)
below_prop m n = hlevel le_prop

within_prop : (limit : ℕ) (d : Distance) → IsProp (IsWithin limit d)
within_prop limit Infinite x y = λ i. tt
within_prop limit (Finite n) x y = below_prop _ _ x y

once_prop : (closed : List Entry) → IsProp (NoTwice closed)
once_prop closed x y = λ i a b d low within same. nothing_prop (x a b d low within same) (y a b d low within same) i

state_prop : (rs xs : List ℕ) → IsProp (IsState rs xs)
state_prop rs xs x y = λ i. record {
  as_long = ℕ_set _ _ x.as_long y.as_long i;
  in_range = λ v low. below_prop _ _ (x.in_range v low) (y.in_range v low) i;
}

abbrev IsStateOf : FiniteDomainTask → Entry → Type 0
IsStateOf task e = IsState (ranges task) e.state

states_prop : (task : FiniteDomainTask) (closed : List Entry) → IsProp (All (IsStateOf task) closed)
states_prop task closed x y = λ i k d low. state_prop (ranges task) _ (x k d low) (y k d low) i

-- ---- one owner after the other

exchange : (xs ys zs : List Entry) → IsPermutation (xs ++ (ys ++ zs)) (ys ++ (xs ++ zs))
exchange xs ys zs = simp append_assoc at (IsPermutation-append_left zs (xs ++ ys) (ys ++ xs) (IsPermutation-append_comm xs ys))

-- the first owner's states may as well come first
closed_front : (n : ℕ) (logs : ℕ → Log) → IsPermutation (closed_of (suc n) logs) (expanded_of (logs 0).owner.nodes ++ closed_of n (λ v. logs (suc v)))
closed_front zero logs = IsPermutation-refl (closed_of 1 logs)
closed_front (suc n) logs =
    let last : List Entry = expanded_of (logs (suc n)).owner.nodes in
    let first : List Entry = expanded_of (logs 0).owner.nodes in
    let others : List Entry = closed_of n (λ v. logs (suc v)) in
    IsPermutation-trans (last ++ closed_of (suc n) logs) (last ++ (first ++ others)) (first ++ (last ++ others))
    (IsPermutation-append_right last (closed_of (suc n) logs) (first ++ others) (closed_front n logs)) (exchange last first others)

closed_by_place : {S : Type 0} (owners : List (OwnerOf S)) (logs : ℕ → Log) → ((v : ℕ) (o : OwnerOf S) → At owners v o → (logs v).owner.nodes ≡ o.nodes)
    → IsPermutation (closed_of (length owners) logs) (closed_in owners)
closed_by_place [] logs same = IsPermutation-refl []
closed_by_place (o ∷ os) logs same =
    let first : List Entry = expanded_of (logs 0).owner.nodes in
    let others : List Entry = closed_of (length os) (λ v. logs (suc v)) in
    IsPermutation-trans (closed_of (suc (length os)) logs) (first ++ others) (expanded_of o.nodes ++ closed_in os) (closed_front (length os) logs)
    (IsPermutation-append first (expanded_of o.nodes) others (closed_in os)
    (subst (λ (ns : List Node). IsPermutation first (expanded_of ns)) (same 0 o refl) (IsPermutation-refl first))
    (closed_by_place os (λ v. logs (suc v)) (λ v. same (suc v))))

-- ---- costs

abbrev IsCheapNode : Node → Type 0
IsCheapNode n = n.cost ≤ max_total

abbrev IsCheap : Entry → Type 0
IsCheap e = e.cost ≤ max_total

abbrev HasCheapNodes : {S : Type 0} → OwnerOf S → Type 0
HasCheapNodes o = All IsCheapNode o.nodes

expanded_cheap : (ns : List Node) → All IsCheapNode ns → All IsCheap (expanded_of ns)
expanded_cheap [] cheap = All-nil IsCheap
expanded_cheap (n ∷ ns) cheap =
    let rest = expanded_cheap ns (All-tail IsCheapNode n ns cheap) in
    cond_both n.expanded (families.entry_of n ∷ expanded_of ns) (expanded_of ns) (All IsCheap)
    (λ _. All-cons IsCheap (families.entry_of n) (expanded_of ns) (All-head IsCheapNode n ns cheap) rest) (λ _. rest)

closed_cheap : {S : Type 0} (owners : List (OwnerOf S)) → All HasCheapNodes owners → All IsCheap (closed_in owners)
closed_cheap [] cheap = All-nil IsCheap
closed_cheap (o ∷ os) cheap =
    All-append IsCheap (expanded_of o.nodes) (closed_in os) (expanded_cheap o.nodes (All-head HasCheapNodes o os cheap))
    (closed_cheap os (All-tail HasCheapNodes o os cheap))

-- the nodes of one owner more
pub one_kept_more : {S : Type 0} (owners : List (OwnerOf S)) (i : ℕ) (o : OwnerOf S) → i < length owners → o ≡ get_or owners i o → (space : SearchSpace) (worker : ℕ) → All (IsKept space worker) o.nodes
    → All HasCheapNodes (take i owners) → All HasCheapNodes (take (i + 1) owners)
one_kept_more owners i o low there space worker known so_far =
    All-more HasCheapNodes owners i o low so_far (subst HasCheapNodes there (All-weaker (IsKept space worker) IsCheapNode (λ n k. k.cost) o.nodes known))

-- ---- the end of a search

zero_at_most : (d : Distance) → Finite 0 ≤ᵈ d
zero_at_most (Finite n) = omega arith
zero_at_most Infinite = tt

module _ {S : Type 0} (owner : S → List ℕ → ℕ → ℕ) (e : EndOf S) where
  -- every owner's states have this many values
  pub widths : IsForm e → (space : SpaceOf S) → space ≡ e.space → (n : ℕ) → n ≡ length space.task.value_names → All (λ o. length o.space.task.value_names ≡ n) e.owners
  widths form space same n is =
      all_at (λ (o : OwnerOf S). length o.space.task.value_names ≡ n) e.owners
      (λ v o at. ap (λ (s : SpaceOf S). length s.task.value_names) ((form.each v o at).0 ∙ sym same) ∙ sym is)

  abbrev Searched : SearchSpace
  Searched = space_at owner e

  abbrev IsSettledEnd : Distance → Type 0
  IsSettledEnd bound = IsSettledAt (space_at owner e) e.owners e.left bound

  module _ (ok : IsSearchSpace (space_at owner e)) where
    module _ (family : Family) (ends : IsEndOf owner e family) where
      shuffled : IsPermutation (closed_of (length e.owners) family.logs) (closed_in e.owners)
      shuffled = closed_by_place e.owners family.logs ends.nodes

      nothing_below : PendingAbove Searched family (Finite 0)
      nothing_below = record { nodes = λ w i n low at done. zero_at_most _; outboxes = λ w v i m low at. zero_at_most _; left = λ i p at. zero_at_most _ }

      once_of : NoTwice (closed_in e.owners)
      once_of =
          once_again (closed_of (length e.owners) family.logs) (closed_in e.owners) shuffled
          (listed_once Searched family (Finite 0) ok ends.lawful (zero_at_most (best_of Searched family)) nothing_below)

      finished_of : (bound : Distance) → bound ≤ᵈ least_best e → ArePendingAbove Searched e.owners e.left bound
          → IsFinished e.space.task Searched.heuristic bound (closed_in e.owners)
      finished_of bound best pending =
          finished_again e.space.task Searched.heuristic bound (closed_of (length e.owners) family.logs) (closed_in e.owners) shuffled
          (finished Searched family bound ok ends.lawful (subst (λ (d : Distance). bound ≤ᵈ d) (best_same owner e family ends) best)
          (pending_to_family owner e family ends bound pending))

      -- a finite bound is the cost of a node
      settled_small : All HasCheapNodes e.owners → (bound : Distance) → IsSettledEnd bound → bound ≤ᵈ stated bound
      settled_small cheap Infinite settled = tt
      settled_small cheap (Finite b) settled =
          let (w, i, found) = best_node Searched family ok ends.lawful b (sym (to_family owner e family ends (Finite b) settled).best) in
          let (n, low, at, goal, cost) = found in
          let (o, at_o) = at_some e.owners w low in
          let most : n.cost ≤ max_total = each_at IsCheapNode o.nodes i n (each_at HasCheapNodes e.owners w o cheap at_o) (subst (λ (ns : List Node). At ns i n) (ends.nodes w o at_o) at) in
          small_stated b (omega (arith, most, cost))

    module _ (ends : ∥ ((family : Family) × IsEndOf owner e family) ∥₁) where
      merely_once : NoTwice (closed_in e.owners)
      merely_once = ∥∥₁_elim ends (once_prop (closed_in e.owners)) (λ known. once_of known.0 known.1)

      -- the certificate is made of the columns, the lower bound and the closed states in order
      pub record IsMade (kind : Kind) (closed : List Entry) (made : CertificateValue) : Type 0 where
        pub is : made ≡ record { version = Two; kind = kind; bound = lower_bound owner e; classes = []; columns = e.space.columns; closed = closed }
        pub moved : IsPermutation (closed_in e.owners) closed
        pub order : IsInOrder closed

      module _ (kind : Kind) (closed : List Entry) (made : CertificateValue) (is : IsMade kind closed made) where
        once : NoTwice closed
        once = once_again (closed_in e.owners) closed is.moved merely_once

        pub made_rising : IsRising made.closed
        made_rising = subst (λ (c : CertificateValue). IsRising c.closed) (sym is.is) (rising closed is.order once)

        module _ (form : IsForm e) (divided : ∥ AreCostPartitioned e.space.task e.space.columns ∥₁) where
          abbrev bound : Distance
          bound = lower_bound owner e

          abbrev whole : CertificateValue
          whole = record { version = Two; kind = kind; bound = bound; classes = []; columns = e.space.columns; closed = closed }

          below_best : bound ≤ᵈ least_best e
          below_best =
              at_most_through bound (lesser (least_best e) (least_pending owner e)) (least_best e) (stated_at_most (lesser (least_best e) (least_pending owner e)))
              (lesser_at_most_left (least_best e) (least_pending owner e))

          below_pending : ArePendingAbove Searched e.owners e.left bound
          below_pending =
              pending_below owner e form bound
              (at_most_through bound (lesser (least_best e) (least_pending owner e)) (least_pending owner e)
              (stated_at_most (lesser (least_best e) (least_pending owner e))) (lesser_at_most_right (least_best e) (least_pending owner e)))

          finished_in_order : (family : Family) → IsEndOf owner e family → IsFinished e.space.task Searched.heuristic bound closed
          finished_in_order family known = finished_again e.space.task Searched.heuristic bound (closed_in e.owners) closed is.moved (finished_of family known bound below_best below_pending)

          whole_held : IsHeld e.space.task whole
          whole_held =
              ∥∥₁_elim ends (held_prop e.space.task whole)
              (λ known. merely_held e.space.task kind bound e.space.columns closed divided (finished_in_order known.0 known.1) (rising closed is.order once))

          pub made_held : IsHeld e.space.task made
          made_held = subst (λ (c : CertificateValue). IsHeld e.space.task c) (sym is.is) whole_held

          pub made_lawful : IsWithinLimits e.space.task → All HasCheapNodes e.owners → IsLawfulKind kind → length (closed_in e.owners) < 2 ^ 32 → IsLawful made
          made_lawful limits cheap lawful few =
              let states : All (IsStateOf e.space.task) closed = ∥∥₁_elim ends (states_prop e.space.task closed) (λ known. (finished_in_order known.0 known.1).states) in
              subst IsLawful (sym is.is)
              (has_text e.space.task limits kind bound e.space.columns closed divided lawful (stated_within (lesser (least_best e) (least_pending owner e))) states
              (All-permutation IsCheap (closed_in e.owners) closed is.moved (closed_cheap e.owners cheap))
              (omega (arith, few, length_permutation (closed_in e.owners) closed is.moved)))

          -- where the end is settled, the certificate has that bound
          pub made_settled : All HasCheapNodes e.owners → (b : Distance) → IsSettledEnd b → made.bound ≡ b
          made_settled cheap b settled =
              let least_is : lesser (least_best e) (least_pending owner e) ≡ b =
              ap (λ (d : Distance). lesser d (least_pending owner e)) (sym settled.best)
              ∙ lesser_left b (least_pending owner e) (pending.below_pending owner e form b settled.pending) in
              ap (λ (c : CertificateValue). c.bound) is.is ∙ ap stated least_is
              ∙ at_most_both (stated b) b (stated_at_most b)
              (∥∥₁_elim ends (at_most-prop b (stated b)) (λ known. settled_small known.0 known.1 cheap b settled))
