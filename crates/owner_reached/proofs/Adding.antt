-- The entries of messages that are reached one after the other go into the open list.
use Rattle.std.proofs.Common.{◌≡◌, ℕ, Bool, suc, ◌+◌, ◌<◌, ◌≤◌, ◌^◌, List, [], ◌∷◌, ◌++◌, length, map, drop, fold, get_or, Some, All, refl, sym, ap, ◌∙◌, subst}
use Rattle.std.specs.List.Sorted.{IsPermutation}
use Rattle.std.proofs.lemmas.List.{drop_more}
use Rattle.std.proofs.lemmas.List.Elements.{All-head, All-tail}
use Rattle.cost.specs.Distances.{Distance, Finite, ◌+ᵈ◌}
use Rattle.owner_theory.specs.Owners.{Node}
use Rattle.openlist.specs.declared.entry.OpenEntry.{OpenEntry}
use Rattle.closed.specs.declared.message.Message.{Message}
use Rattle.closed.specs.declared.table.Outcome.{Outcome}
use Rattle.closed.specs.Tables.{reached, outcome_of, outcomes_of, arrival}
use Rattle.owner_space.specs.declared.ties.Ties.{Ties}
use Rattle.owner_space.specs.Keyed.{IsSmall}
use Rattle.owner_reached.specs.Queues.{keyed_in, AreQueued, added}
use Rattle.owner_reached.proofs.Queues.{reached_queued}

pub length-outcomes_of : (nodes ms : List Node) → length (outcomes_of nodes ms) ≡ length ms
length-outcomes_of nodes [] = refl
length-outcomes_of nodes (m ∷ ms) = ap suc (length-outcomes_of (reached nodes m) ms)

heads : {X : Type 0} (x y : X) (xs ys : List X) → x ∷ xs ≡ y ∷ ys → x ≡ y
heads x y xs ys e = cc

tails : {X : Type 0} (x y : X) (xs ys : List X) → x ∷ xs ≡ y ∷ ys → xs ≡ ys
tails x y xs ys e = cc

-- what lies at the place, and what is behind
pub at_front_of : {X : Type 0} (xs : List X) (i : ℕ) (x : X) → i < length xs → x ≡ get_or xs i x → drop i xs ≡ x ∷ drop (i + 1) xs
at_front_of xs i x lt is = drop_more xs i x lt ∙ ap (λ y. y ∷ drop (i + 1) xs) (sym is)

-- messages that are still to be added, with their f-values and outcomes: the list is that of the nodes before them, and
-- after them the nodes are these; the bits are those of all
pub record AreAdding {F : Type 0} (ties : Ties) (values : F → List ℕ) (h : List ℕ → Distance) (ever : List Bool) (after : List Node)
    (ms : List (Message F)) (fs : List ℕ) (os : List Outcome) (entries : List OpenEntry) : Type 0 where
  pub nodes : List Node
  pub f_values : map (λ m. Finite m.rank.cost +ᵈ h (values m.state)) ms ≡ map Finite fs
  pub bound : All (λ f. f ≤ 2 ^ 63) fs
  pub outcomes : os ≡ outcomes_of nodes (map (arrival values) ms)
  pub ends : fold reached nodes (map (arrival values) ms) ≡ after
  pub queued : AreQueued ties h nodes ever entries

module _ {F : Type 0} (ties : Ties) (values : F → List ℕ) (h : List ℕ → Distance) (ever : List Bool) (after : List Node) where
  abbrev f_value : Message F → Distance
  f_value m = Finite m.rank.cost +ᵈ h (values m.state)

  one_added : (m : Message F) (ms : List (Message F)) (f : ℕ) (fs : List ℕ) (o : Outcome) (os : List Outcome) (es es' : List OpenEntry)
      → IsPermutation (map (keyed_in ties ever) (added (Some f) m.rank o) ++ es) es' → All IsSmall (added (Some f) m.rank o)
      → AreAdding ties values h ever after (m ∷ ms) (f ∷ fs) (o ∷ os) es → AreAdding ties values h ever after ms fs os es'
  one_added m ms f fs o os es es' p small a =
      let rest = map (arrival values) ms in
      let next = reached a.nodes (arrival values m) in
      record {
        nodes = next;
        f_values = tails (f_value m) (Finite f) (map f_value ms) (map Finite fs) a.f_values;
        bound = All-tail (λ (k : ℕ). k ≤ 2 ^ 63) f fs a.bound;
        outcomes = tails o (outcome_of a.nodes (arrival values m)) os (outcomes_of next rest) a.outcomes;
        ends = a.ends;
        queued = reached_queued ties h a.nodes ever es es' (values m.state) m.rank (Some m.parent) (Some f) o a.queued
            (sym (heads (f_value m) (Finite f) (map f_value ms) (map Finite fs) a.f_values))
            (All-head (λ (k : ℕ). k ≤ 2 ^ 63) f fs a.bound)
            (heads o (outcome_of a.nodes (arrival values m)) os (outcomes_of next rest) a.outcomes) p small;
      }

  pub next_added : (ms : List (Message F)) (fs : List ℕ) (os : List Outcome) (i : ℕ) (m : Message F) (f : ℕ) (o : Outcome)
      (es es' : List OpenEntry) → drop i ms ≡ m ∷ drop (i + 1) ms → drop i fs ≡ f ∷ drop (i + 1) fs → drop i os ≡ o ∷ drop (i + 1) os
      → IsPermutation (map (keyed_in ties ever) (added (Some f) m.rank o) ++ es) es' → All IsSmall (added (Some f) m.rank o)
      → AreAdding ties values h ever after (drop i ms) (drop i fs) (drop i os) es
      → AreAdding ties values h ever after (drop (i + 1) ms) (drop (i + 1) fs) (drop (i + 1) os) es'
  next_added ms fs os i m f o es es' m_is f_is o_is p small a =
      one_added m (drop (i + 1) ms) f (drop (i + 1) fs) o (drop (i + 1) os) es es' p small
      (subst (λ (l : List (Message F)). AreAdding ties values h ever after l (f ∷ drop (i + 1) fs) (o ∷ drop (i + 1) os) es) m_is
      (subst (λ (l : List ℕ). AreAdding ties values h ever after (drop i ms) l (o ∷ drop (i + 1) os) es) f_is
      (subst (λ (l : List Outcome). AreAdding ties values h ever after (drop i ms) (drop i fs) l es) o_is a)))

  -- none is left
  pub all_added : (fs : List ℕ) (os : List Outcome) (es : List OpenEntry) → AreAdding ties values h ever after [] fs os es
      → AreQueued ties h after ever es
  all_added fs os es a = subst (λ (l : List Node). AreQueued ties h l ever es) a.ends a.queued
