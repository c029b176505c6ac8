-- A worker that stands beside the others, which it is one of.
use Rattle.std.proofs.Common.{◌≡◌, ◌≢◌, ◌⊎◌, ℕ, zero, suc, ◌+◌, ◌<◌, ◌≤◌, List, [], ◌∷◌, length, get_or, refl, sym, ap, ◌∙◌, subst, inl, inr, ⊎_elim, arith}
use Rattle.std.specs.Prelude.{slice_set}
use Rattle.std.specs.List.{insert, remove}
use Rattle.std.proofs.lemmas.Bool.{cases_lt}
use Rattle.std.proofs.lemmas.List.{length-set}
use Rattle.fdr.specs.Tasks.{ranges}
use Rattle.owner_theory.specs.Owners.{At}
use Rattle.owner_theory.specs.Families.{IsSearchSpace}
use Rattle.owner.specs.Spaces.{SpaceOf, searched}
use Rattle.owner.specs.Owned.{space_of}
use Rattle.extract.proofs.Places.{at_below, at_read}
use Rattle.worker.specs.Matching.{AreLinked, IsMatchedUp}
use Rattle.worker.specs.Workers.{WorkerOf, values_in, IsKept}
use Rattle.engine.specs.Teams.{AreMembers}
use Rattle.engine.specs.Draining.{IsLinkMatched}
use Rattle.engine.proofs.Fitting.{space_is}
use Rattle.engine.proofs.Matching.{matched_own, matched_two}
use Rattle.engine.proofs.Places.{at_set, at_here}

-- ---- lists
module _ {X : Type 0} where
  pub length_inserted : (xs : List X) (k : ℕ) (y : X) → length (insert xs k y) ≡ suc (length xs)
  length_inserted [] zero y = refl
  length_inserted [] (suc k) y = refl
  length_inserted (x ∷ xs) zero y = refl
  length_inserted (x ∷ xs) (suc k) y = ap suc (length_inserted xs k y)

  pub at_inserted : (xs : List X) (k : ℕ) (y : X) → k ≤ length xs → At (insert xs k y) k y
  at_inserted [] zero y le = refl
  at_inserted [] (suc k) y le = absurd (omega arith)
  at_inserted (x ∷ xs) zero y le = refl
  at_inserted (x ∷ xs) (suc k) y le = at_inserted xs k y (omega arith)

  at_before : (xs : List X) (k : ℕ) (y : X) (i : ℕ) (x : X) → i < k → At xs i x → At (insert xs k y) i x
  at_before [] k y i x lt at = absurd at
  at_before (z ∷ xs) zero y i x lt at = absurd (omega arith)
  at_before (z ∷ xs) (suc k) y zero x lt at = at
  at_before (z ∷ xs) (suc k) y (suc i) x lt at = at_before xs k y i x (omega arith) at

  at_behind : (xs : List X) (k : ℕ) (y : X) (i : ℕ) (x : X) → k ≤ i → At xs i x → At (insert xs k y) (suc i) x
  at_behind [] k y i x le at = absurd at
  at_behind (z ∷ xs) zero y i x le at = at
  at_behind (z ∷ xs) (suc k) y zero x le at = absurd (omega arith)
  at_behind (z ∷ xs) (suc k) y (suc i) x le at = at_behind xs k y i x (omega arith) at

  -- an element of the whole: the one that was put in, or one of the others
  at_insert : (xs : List X) (k : ℕ) (y : X) (i : ℕ) (x : X) → At (insert xs k y) i x → (y ≡ x) ⊎ ((j : ℕ) × At xs j x)
  at_insert [] zero y zero x at = inl at
  at_insert [] zero y (suc i) x at = absurd at
  at_insert [] (suc k) y zero x at = inl at
  at_insert [] (suc k) y (suc i) x at = absurd at
  at_insert (z ∷ xs) zero y zero x at = inl at
  at_insert (z ∷ xs) zero y (suc i) x at = inr (i, at)
  at_insert (z ∷ xs) (suc k) y zero x at = inr (0, at)
  at_insert (z ∷ xs) (suc k) y (suc i) x at = ⊎_elim (λ (e : y ≡ x). inl e) (λ (h : (j : ℕ) × At xs j x). inr (suc h.0, h.1)) (at_insert xs k y i x at)

  pub insert_here : (xs : List X) (k : ℕ) (y z : X) → k ≤ length xs → slice_set (insert xs k y) k z ≡ insert xs k z
  insert_here [] zero y z le = refl
  insert_here [] (suc k) y z le = absurd (omega arith)
  insert_here (x ∷ xs) zero y z le = refl
  insert_here (x ∷ xs) (suc k) y z le = ap (λ l. x ∷ l) (insert_here xs k y z (omega arith))

  set_before : (xs : List X) (k : ℕ) (y : X) (i : ℕ) (c d : X) → i < k → k ≤ length xs
      → insert (slice_set xs i c) k d ≡ slice_set (slice_set (insert xs k y) i c) k d
  set_before [] k y i c d lt le = absurd (omega arith)
  set_before (x ∷ xs) zero y i c d lt le = absurd (omega arith)
  set_before (x ∷ xs) (suc k) y zero c d lt le = ap (λ l. c ∷ l) (sym (insert_here xs k y d (omega arith)))
  set_before (x ∷ xs) (suc k) y (suc i) c d lt le = ap (λ l. x ∷ l) (set_before xs k y i c d (omega arith) (omega arith))

  set_behind : (xs : List X) (k : ℕ) (y : X) (i : ℕ) (c d : X) → k ≤ i → k ≤ length xs
      → insert (slice_set xs i c) k d ≡ slice_set (slice_set (insert xs k y) (suc i) c) k d
  set_behind [] zero y i c d le within = refl
  set_behind [] (suc k) y i c d le within = absurd (omega arith)
  set_behind (x ∷ xs) zero y i c d le within = refl
  set_behind (x ∷ xs) (suc k) y zero c d le within = absurd (omega arith)
  set_behind (x ∷ xs) (suc k) y (suc i) c d le within = ap (λ l. x ∷ l) (set_behind xs k y i c d (omega arith) (omega arith))

  pub same_length : (xs ys : List X) (k : ℕ) (y z : X) → length (insert ys k z) ≡ length (insert xs k y) → length ys ≡ length xs
  same_length xs ys k y z e = let a = length_inserted ys k z in let b = length_inserted xs k y in omega (arith, a, b, e)

  -- an element is taken out, and put back
  pub put_back : (xs : List X) (k : ℕ) (y : X) → k < length xs → y ≡ get_or xs k y → insert (remove xs k) k y ≡ xs
  put_back [] k y lt is = absurd (omega arith)
  put_back (x ∷ xs) zero y lt is = ap (λ z. z ∷ xs) is
  put_back (x ∷ xs) (suc k) y lt is = ap (λ l. x ∷ l) (put_back xs k y (omega arith) is)

  kept_at : (xs : List X) (k : ℕ) (y : X) (i : ℕ) (x : X) → i ≢ k → At xs i x → At (slice_set xs k y) i x
  kept_at [] k y i x ne at = absurd at
  kept_at (z ∷ xs) zero y zero x ne at = absurd (ne refl)
  kept_at (z ∷ xs) zero y (suc i) x ne at = at
  kept_at (z ∷ xs) (suc k) y zero x ne at = at
  kept_at (z ∷ xs) (suc k) y (suc i) x ne at = kept_at xs k y i x (λ e. ne (ap suc e)) at

-- there is a link from the first worker to the second
pub record HaveLink {S F : Type 0} (a b : WorkerOf S F) : Type 0 where
  pub sends : b.owner.worker < length a.outs
  pub receives : a.owner.worker < length b.ins
  pub linked : AreLinked a.outs b.owner.worker b.ins a.owner.worker

module _ {S F : Type 0} (space : SpaceOf S) (ws : List (WorkerOf S F)) (are : AreMembers space ws) where
  have_link : (u v : ℕ) (a b : WorkerOf S F) → At ws u a → At ws v b → HaveLink a b
  have_link u v a b at_a at_b =
      let u_lt = at_below ws u a at_a in let v_lt = at_below ws v b at_b in
      let first = (are.each u a at_a).number in let second = (are.each v b at_b).number in
      let outs = (are.each u a at_a).outs in let ins = (are.each v b at_b).ins in
      record {
        sends = omega (arith, v_lt, second, outs);
        receives = omega (arith, u_lt, first, ins);
        linked = subst (λ n. AreLinked a.outs n b.ins a.owner.worker) (sym second)
            (subst (λ n. AreLinked a.outs v b.ins n) (sym first) (are.links u v a b at_a at_b));
      }

  -- two workers are changed
  two_changed : (owner : S → List ℕ → ℕ → ℕ) (from to : ℕ) (a c b d : WorkerOf S F) (n : ℕ) → from ≢ to → At ws from a → At ws to b
      → IsMatchedUp b.owner.worker a.owner.worker a.outs c.outs b.ins d.ins n → c ≡ record a { outs = c.outs } → d ≡ record b { ins = d.ins }
      → (new : List (WorkerOf S F)) → new ≡ slice_set (slice_set ws from c) to d → IsLinkMatched owner from to ws new n
  two_changed owner from to a c b d n differ at_a at_b m sent received new is =
      let long = length-set ws from c in
      let from_lt = at_below ws from a at_a in
      let to_lt = at_below ws to b at_b in
      matched_two owner ws new from to a c b d n differ at_a at_b
      (ap length is ∙ (length-set (slice_set ws from c) to d ∙ long))
      (subst (λ ys. At ys from c) (sym is) (kept_at (slice_set ws from c) to d from c differ (at_here ws from c from_lt)))
      (subst (λ ys. At ys to d) (sym is) (at_here (slice_set ws from c) to d (omega (arith, to_lt, long))))
      (λ v z ne_from ne_to at. ⊎_elim
      (λ (h : (v ≡ to) × (d ≡ z)). absurd (ne_to h.0))
      (λ (h : (v ≢ to) × At (slice_set ws from c) v z). ⊎_elim
      (λ (k : (v ≡ from) × (c ≡ z)). absurd (ne_from k.0))
      (λ (k : (v ≢ from) × At ws v z). k.1)
      (at_set ws from c v z h.1))
      (at_set (slice_set ws from c) to d v z (subst (λ ys. At ys v z) is at)))
      (subst (λ p. IsMatchedUp p from a.outs c.outs b.ins d.ins n) (are.each to b at_b).number
      (subst (λ p. IsMatchedUp b.owner.worker p a.outs c.outs b.ins d.ins n) (are.each from a at_a).number m))
      sent received are.links

module _ {S F : Type 0} (owner : S → List ℕ → ℕ → ℕ) (space : SpaceOf S) (xs : List (WorkerOf S F)) (r : WorkerOf S F) (to : ℕ) (within : to ≤ length xs)
    (are : AreMembers space (insert xs to r)) where
  at_receiver : At (insert xs to r) to r
  at_receiver = at_inserted xs to r within

  pub own_link : HaveLink r r
  own_link = have_link space (insert xs to r) are to to r r at_receiver at_receiver

  pub own_ring : (from : ℕ) (s : WorkerOf S F) (n : ℕ) → from ≡ to → IsMatchedUp r.owner.worker r.owner.worker r.outs s.outs r.ins s.ins n
      → s ≡ record r { outs = s.outs; ins = s.ins } → IsLinkMatched owner from to (insert xs to r) (insert xs to s) n
  own_ring from s n same m e =
      subst (λ u. IsLinkMatched owner u to (insert xs to r) (insert xs to s) n) (sym same)
      (matched_own owner (insert xs to r) (insert xs to s) to r s n at_receiver (sym (insert_here xs to r s within))
      (subst (λ k. IsMatchedUp k k r.outs s.outs r.ins s.ins n) (are.each to r at_receiver).number m) e are.links)

  -- the sender, at its place beside the receiver
  module _ (from place : ℕ) (ne : from ≢ to) (inside : from ≤ length xs) (before : from < to → place ≡ from)
      (behind : to ≤ from → place + 1 ≡ from) where
    pub place_within : place < length xs
    place_within = ⊎_elim
        (λ (lt : from < to). let same = before lt in omega (arith, lt, same, within))
        (λ (le : to ≤ from). let same = behind le in omega (arith, le, same, inside))
        (cases_lt from to)

    set_sender : (c s : WorkerOf S F) → insert (slice_set xs place c) to s ≡ slice_set (slice_set (insert xs to r) from c) to s
    set_sender c s = ⊎_elim
        (λ (lt : from < to). let same = before lt in
        subst (λ k. insert (slice_set xs place c) to s ≡ slice_set (slice_set (insert xs to r) k c) to s) same
        (set_before xs to r place c s (omega (arith, lt, same)) within))
        (λ (le : to ≤ from). let same = behind le in let is : suc place ≡ from = omega (arith, same) in
        subst (λ k. insert (slice_set xs place c) to s ≡ slice_set (slice_set (insert xs to r) k c) to s) is
        (set_behind xs to r place c s (omega (arith, le, same, ne)) within))
        (cases_lt from to)

    module _ (a : WorkerOf S F) (is : a ≡ get_or xs place a) where
      at_sender : At (insert xs to r) from a
      at_sender = ⊎_elim
          (λ (lt : from < to). subst (λ k. At (insert xs to r) k a) (before lt)
          (at_before xs to r place a (let same = before lt in omega (arith, lt, same)) (at_read xs place a place_within is)))
          (λ (le : to ≤ from). let same = behind le in let next : suc place ≡ from = omega (arith, same) in
          subst (λ k. At (insert xs to r) k a) next
          (at_behind xs to r place a (omega (arith, le, same, ne)) (at_read xs place a place_within is)))
          (cases_lt from to)

      pub other_link : HaveLink a r
      other_link = have_link space (insert xs to r) are from to a r at_sender at_receiver

      pub other_ring : (c s : WorkerOf S F) (n : ℕ)
          → IsMatchedUp r.owner.worker a.owner.worker a.outs c.outs r.ins s.ins n
          → c ≡ record a { outs = c.outs } → s ≡ record r { ins = s.ins }
          → IsLinkMatched owner from to (insert xs to r) (insert (slice_set xs place c) to s) n
      other_ring c s n m sent received =
          two_changed space (insert xs to r) are owner from to a c r s n ne at_sender at_receiver m sent received
          (insert (slice_set xs place c) to s) (set_sender c s)

  pub count_is : (count : ℕ) → count ≡ length r.outs → count ≡ length (insert xs to r)
  count_is count is = is ∙ (are.each to r at_receiver).outs

  pub space_here : (values : List ℕ → F → List ℕ) → IsKept owner values r → IsSearchSpace (space_of owner r.owner)
      → IsSearchSpace (searched owner space (length (insert xs to r)))
  space_here values kept ok =
      subst IsSearchSpace (space_is owner values space (length (insert xs to r)) to r (are.each to r at_receiver) kept) ok

  -- the values of a form, as the receiver's task has them
  pub values_here : (values : List ℕ → F → List ℕ) → values (ranges space.task) ≡ values_in values r
  values_here values = ap (λ (s : SpaceOf S). values (ranges s.task)) (sym (are.each to r at_receiver).space)

-- what holds of all the others and of the one
pub kept_beside : {S F : Type 0} (owner : S → List ℕ → ℕ → ℕ) (values : List ℕ → F → List ℕ) (xs : List (WorkerOf S F)) (r : WorkerOf S F) (to : ℕ)
    → ((v : ℕ) (w : WorkerOf S F) → At xs v w → IsKept owner values w) → IsKept owner values r → (v : ℕ) (w : WorkerOf S F)
    → At (insert xs to r) v w → IsKept owner values w
kept_beside {S = S} owner values xs r to others one v w at = ⊎_elim
    (λ (e : r ≡ w). subst (IsKept owner values) e one)
    (λ (h : (j : ℕ) × At xs j w). others h.0 w h.1)
    (at_insert xs to r v w at)
