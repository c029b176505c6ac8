-- A search begins at the abstract goals.
use Rattle.std.specs.Prelude.{Contains, IsPermutation}
use Rattle.std.proofs.Common.{◌≡◌, ℕ, ◌+◌, ◌^◌, ◌<◌, ◌≤◌, ◌⊎◌, true, List, [], ◌∷◌, slice_index, slice_set, refl, sym, ap, subst, inl, inr, ⊎_elim, below_more, arith}
use Rattle.std.proofs.Math.ListN.{length-set}
use Rattle.std.proofs.lemmas.List.Elements.{Contains-get_or, Contains-append_right}
use Rattle.std.proofs.lemmas.List.Sorted.{Contains-permutation, IsPermutation-sym}
use Rattle.abstraction.specs.Abstractions.{Abstraction}
use Rattle.pdb.specs.declared.queue.Entry.{Entry}
use Rattle.pdb.specs.declared.search.TheConstants.{UNREACHED}
use Rattle.pdb.specs.Searches.{entry_of, IsSearch, IsStart}
use Rattle.pdb.proofs.Lowering.{cases_set, cases_front, same_total}

-- the state is an abstract goal, and is queued with its value 0
abbrev pub IsQueuedGoal : Abstraction → List ℕ → List Entry → ℕ → Type 0
IsQueuedGoal a values queue k = (a.is_goal k ≡ true) × (slice_index values k ≡ 0) × Contains queue (entry_of k 0)

-- one more state, which is a goal
pub IsStart-goal : (a : Abstraction) (values : List ℕ) (before after : List Entry) (n : ℕ) → n < a.size → a.is_goal n ≡ true → IsStart a values before n →
    IsPermutation (entry_of n 0 ∷ before) after → IsStart a (slice_set values n 0) after (n + 1)
IsStart-goal a values before after n inside goal start added =
    record {
      as_long = omega (arith, length-set values n 0, start.as_long);
      goals = below_more (λ k. a.is_goal k ≡ true → slice_index (slice_set values n 0) k ≡ 0) n (λ k l h. kept k (start.goals k l h)) (λ h. here n refl);
      each = λ k l. ⊎_elim
          (λ (w : (k ≡ n) × (slice_index (slice_set values n 0) k ≡ 0)).
          inl (subst (λ (x : ℕ). a.is_goal x ≡ true) (sym w.0) goal, w.1, subst (λ (x : ℕ). Contains after (entry_of x 0)) (sym w.0) first))
          (λ (w : (k ≡ n → ⊥) × (slice_index (slice_set values n 0) k ≡ slice_index values k)). ⊎_elim
          (λ (h : IsQueuedGoal a values before k). inl (h.0, kept k h.1, later (entry_of k 0) h.2))
          (λ (h : slice_index values k ≡ UNREACHED). inr (omega (arith, w.1)))
          (start.each k l))
          (cases k);
      queued = λ e has. ⊎_elim
          (λ (is : entry_of n 0 ≡ e).
          let state : n ≡ e.state = ap (λ (x : Entry). x.state) is in
          let value : 0 ≡ e.value = ap (λ (x : Entry). x.value) is in
          (omega arith, sym value))
          (λ (h : Contains before e). start.queued e h)
          (cases_front (entry_of n 0) before e (Contains-permutation after (entry_of n 0 ∷ before) e (IsPermutation-sym (entry_of n 0 ∷ before) after added) has));
    }
  where
    first : Contains after (entry_of n 0)
    first = Contains-permutation (entry_of n 0 ∷ before) after (entry_of n 0) added (Contains-get_or (entry_of n 0 ∷ before) 0 (entry_of n 0) (omega arith))

    later : (e : Entry) → Contains before e → Contains after e
    later e h = Contains-permutation (entry_of n 0 ∷ before) after e added (Contains-append_right (entry_of n 0 ∷ []) before e h)

    cases : (k : ℕ) → ((k ≡ n) × (slice_index (slice_set values n 0) k ≡ 0)) ⊎ ((k ≡ n → ⊥) × (slice_index (slice_set values n 0) k ≡ slice_index values k))
    cases k = cases_set values n 0 k (omega (arith, start.as_long))

    here : (k : ℕ) → k ≡ n → slice_index (slice_set values n 0) k ≡ 0
    here k e = ⊎_elim
        (λ (w : (k ≡ n) × (slice_index (slice_set values n 0) k ≡ 0)). w.1)
        (λ (w : (k ≡ n → ⊥) × (slice_index (slice_set values n 0) k ≡ slice_index values k)). absurd (w.0 e))
        (cases k)

    kept : (k : ℕ) → slice_index values k ≡ 0 → slice_index (slice_set values n 0) k ≡ 0
    kept k e = ⊎_elim
        (λ (w : (k ≡ n) × (slice_index (slice_set values n 0) k ≡ 0)). w.1)
        (λ (w : (k ≡ n → ⊥) × (slice_index (slice_set values n 0) k ≡ slice_index values k)). omega arith)
        (cases k)

-- one more state, which is none
pub IsStart-other : (a : Abstraction) (values : List ℕ) (queue : List Entry) (n : ℕ) → (a.is_goal n ≡ true → ⊥) → IsStart a values queue n → IsStart a values queue (n + 1)
IsStart-other a values queue n other start =
    record {
      as_long = start.as_long;
      goals = below_more (λ k. a.is_goal k ≡ true → slice_index values k ≡ 0) n start.goals (λ h. absurd (other h));
      each = start.each;
      queued = start.queued;
    }

pub IsSearch-from_start : (a : Abstraction) (share : ℕ → ℕ) (values : List ℕ) (queue : List Entry) → a.size ≤ 2 ^ 24 → IsStart a values queue a.size → IsSearch a share values queue
IsSearch-from_start a share values queue small start =
    record {
      sound = record {
        as_long = start.as_long;
        small = small;
        totals = λ k l has. let w = reached_is_goal k l has in same_total a share k 0 (slice_index values k) (sym w.1) ([], w.0, refl);
        bounds = λ k l has. let w = reached_is_goal k l has in omega (arith, w.1);
        goals = start.goals;
        inside = λ e has. (start.queued e has).0;
        queued = λ e has. let w = start.queued e has in omega (arith, w.1);
      };
      settled = λ s l. ⊎_elim
          (λ (h : IsQueuedGoal a values queue s). inl (subst (λ (n : ℕ). Contains queue (entry_of s n)) (sym h.1) h.2))
          (λ (h : slice_index values s ≡ UNREACHED). inr (λ o i step. omega (arith, at_most i step.0)))
          (start.each s l);
    }
  where
    reached_is_goal : (k : ℕ) → k < a.size → slice_index values k < UNREACHED → IsQueuedGoal a values queue k
    reached_is_goal k l has = ⊎_elim (λ (h : IsQueuedGoal a values queue k). h) (λ (h : slice_index values k ≡ UNREACHED). absurd (omega arith)) (start.each k l)

    at_most : (k : ℕ) → k < a.size → slice_index values k ≤ UNREACHED
    at_most k l = ⊎_elim (λ (h : IsQueuedGoal a values queue k). omega (arith, h.1)) (λ (h : slice_index values k ≡ UNREACHED). omega arith) (start.each k l)
