-- Where no step would change something, nothing is left to do.
use Rattle.std.proofs.Common.{◌≡◌, ◌≢◌, ◌⊎◌, inl, inr, ⊎_elim, ℕ, zero, suc, ◌+◌, ◌<◌, Bool, true, false, not, ◌&&◌, List, [], ◌∷◌, length, map, min, Some, refl, sym, ap, ◌∙◌, arith, cond, length-append}
use Rattle.std.specs.Prelude.{slice_get, filter, flat_map, sum_by, count_by}
use Rattle.std.specs.List.{list_all, range_with_len}
use Rattle.std.specs.Option.{option_map_or}
use Rattle.std.proofs.lemmas.Bool.{true≢false, and_from}
use Rattle.std.proofs.lemmas.List.Sums.{sum_by-cons}
use Rattle.cost.specs.Distances.{Distance}
use Rattle.owner_theory.specs.Owners.{At, list_at, Message}
use Rattle.owner_theory.specs.Worlds.{waiting, no_open, idle, is_empty}
use Rattle.owner.specs.Owned.{OwnerOf, under}
use Rattle.netcore.specs.declared.step.WorldStep.TheVariants.{Expand, Send, Offer, Look, Rest}
use Rattle.netcore.specs.Worlds.{WorldOf, space_in, left_in, would_change}
use Rattle.netcore.specs.Possible.{by_owner, sends_of, deliveries, possible_steps, below}
use Rattle.netcore.specs.Kept.{IsWorld}
use Rattle.netcore.proofs.Places.{at_some, at_below, at_read}
use Rattle.netcore.proofs.Expanding.{at_owner_here}
use Rattle.netcore.proofs.Choosing.{deliveries_length, six_lengths}

-- ---- lists without an element
module _ {X : Type 0} where
  fails : (b : Bool) (x : X) (xs : List X) → length (cond b (x ∷ xs) xs) ≡ 0 → b ≡ false
  fails true x xs e = absurd (omega arith)
  fails false x xs e = refl

  others : (b : Bool) (x : X) (xs : List X) → length (cond b (x ∷ xs) xs) ≡ 0 → length xs ≡ 0
  others true x xs e = absurd (omega arith)
  others false x xs e = e

  none_passes : (p : X → Bool) (f : ℕ → X) (i n k : ℕ) → length (filter p (map f (range_with_len i n))) ≡ 0 → k < n → p (f (i + k)) ≡ false
  none_passes p f i zero k none lt = absurd (omega arith)
  none_passes p f i (suc n) zero none lt =
      let here : i + 0 ≡ i = omega arith in
      ap (λ m. p (f m)) here ∙ fails (p (f i)) (f i) (filter p (map f (range_with_len (i + 1) n))) none
  none_passes p f i (suc n) (suc k) none lt =
      let there : i + suc k ≡ i + 1 + k = omega arith in
      ap (λ m. p (f m)) there
      ∙ none_passes p f (i + 1) n k (others (p (f i)) (f i) (filter p (map f (range_with_len (i + 1) n))) none) (omega arith)

  none_joined : (f : ℕ → List X) (i n k : ℕ) → length (flat_map f (range_with_len i n)) ≡ 0 → k < n → length (f (i + k)) ≡ 0
  none_joined f i zero k none lt = absurd (omega arith)
  none_joined f i (suc n) zero none lt =
      let here : length (f (i + 0)) ≡ length (f i) = ap (λ m. length (f m)) (omega arith) in
      let all = length-append (f i) (flat_map f (range_with_len (i + 1) n)) in
      omega arith
  none_joined f i (suc n) (suc k) none lt =
      let there : length (f (i + suc k)) ≡ length (f (i + 1 + k)) = ap (λ m. length (f m)) (omega arith) in
      let all = length-append (f i) (flat_map f (range_with_len (i + 1) n)) in
      let rest = none_joined f (i + 1) n k (omega arith) (omega arith) in
      omega arith

  sum_none : (f : X → ℕ) (xs : List X) → ((v : ℕ) (x : X) → At xs v x → f x ≡ 0) → sum_by f xs ≡ 0
  sum_none f [] each = refl
  sum_none f (x ∷ xs) each =
      let all = sum_by-cons f x xs in
      let here = each 0 x refl in
      let rest = sum_none f xs (λ v y at. each (suc v) y at) in
      omega arith

  empty_of : (q : List X) → not (is_empty q) ≡ false → q ≡ []
  empty_of [] e = refl
  empty_of (x ∷ q) e = absurd (true≢false e)

-- ---- outboxes without a message
none_waiting : (qs : List (List Message)) → ((u : ℕ) → u < length qs → list_at qs u ≡ []) → waiting qs ≡ 0
none_waiting [] each = refl
none_waiting (q ∷ qs) each =
    let here = ap length (each 0 (omega arith)) in
    let rest = none_waiting qs (λ u lt. each (suc u) (omega arith)) in
    omega arith

all_empty : (qs : List (List Message)) → ((u : ℕ) → u < length qs → list_at qs u ≡ []) → list_all is_empty qs ≡ true
all_empty [] each = refl
all_empty (q ∷ qs) each =
    and_from (is_empty q) (list_all is_empty qs) (ap is_empty (each 0 (omega arith))) (all_empty qs (λ u lt. each (suc u) (omega arith)))

-- who is idle and does not rest may rest
rests : (r i : Bool) → i ≡ true → (not r && i) ≡ false → r ≡ true
rests true i is e = refl
rests false i is e = absurd (true≢false (sym is ∙ e))

-- an owner that does not rest counts
abbrev counted : Bool → ℕ
counted r = cond (not r) 1 0

not_open : (b : Bool) → not b ≡ false → b ≡ true
not_open true e = refl
not_open false e = absurd (true≢false e)

module _ {S : Type 0} (owner : S → List ℕ → ℕ → ℕ) (w : WorldOf S) (is : IsWorld owner w) (none : length (possible_steps owner w) ≡ 0) where
  parts : length (by_owner owner w Expand) + length (flat_map (sends_of owner w) (below (length w.owners))) + length (deliveries 0 w.underway)
      + length (by_owner owner w Offer) + length (by_owner owner w Look) + length (by_owner owner w Rest) ≡ 0
  parts = sym (six_lengths (by_owner owner w Expand) (flat_map (sends_of owner w) (below (length w.owners))) (deliveries 0 w.underway)
      (by_owner owner w Offer) (by_owner owner w Look) (by_owner owner w Rest)) ∙ none

  module _ (v : ℕ) (o : OwnerOf S) (at : At w.owners v o) where
    seen_of : (b : Distance) × At w.seen v b
    seen_of = at_some w.seen v (let lt = at_below w.owners v o at in let n = is.bounds in omega arith)

    flag_of : (r : Bool) × At w.resting v r
    flag_of = at_some w.resting v (let lt = at_below w.owners v o at in let n = is.flags in omega arith)

    no_send : (to : ℕ) → to < length o.outboxes → list_at o.outboxes to ≡ []
    no_send to lt =
        let all = parts in
        let n = is.outboxes v o at in
        let here : 0 + v ≡ v = omega arith in
        let there : 0 + to ≡ to = omega arith in
        let sends = none_joined (sends_of owner w) 0 (length w.owners) v (omega arith) (at_below w.owners v o at) in
        let quiet = none_passes (would_change owner w) (Send v) 0 (length w.owners) to (ap (λ m. length (sends_of owner w m)) (sym here) ∙ sends) (omega arith) in
        empty_of (list_at o.outboxes to)
        (sym (at_owner_here owner w v o seen_of.0 (λ p b. not (is_empty (list_at p.outboxes to))) at seen_of.1)
        ∙ (ap (λ m. would_change owner w (Send v m)) (sym there) ∙ quiet))

    no_node : no_open (space_in owner w) (under o seen_of.0) ≡ true
    no_node =
        let all = parts in
        let here : 0 + v ≡ v = omega arith in
        let quiet = none_passes (would_change owner w) Expand 0 (length w.owners) v (omega arith) (at_below w.owners v o at) in
        not_open (no_open (space_in owner w) (under o seen_of.0))
        (sym (at_owner_here owner w v o seen_of.0 (λ p b. not (no_open (space_in owner w) (under p b))) at seen_of.1)
        ∙ (ap (λ m. would_change owner w (Expand m)) (sym here) ∙ quiet))

    is_idle : idle (space_in owner w) (under o seen_of.0) ≡ true
    is_idle = and_from (no_open (space_in owner w) (under o seen_of.0)) (list_all is_empty o.outboxes) no_node (all_empty o.outboxes no_send)

    at_rest : flag_of.0 ≡ true
    at_rest =
        let all = parts in
        let here : 0 + v ≡ v = omega arith in
        let quiet = none_passes (would_change owner w) Rest 0 (length w.owners) v (omega arith) (at_below w.owners v o at) in
        rests flag_of.0 (idle (space_in owner w) (under o seen_of.0)) is_idle
        (sym (at_owner_here owner w v o seen_of.0
        (λ p b. option_map_or not (slice_get w.resting v) false && idle (space_in owner w) (under p b)) at seen_of.1
        ∙ ap (λ x. option_map_or not x false && idle (space_in owner w) (under o seen_of.0)) (at_read w.resting v flag_of.0 flag_of.1))
        ∙ (ap (λ m. would_change owner w (Rest m)) (sym here) ∙ quiet))

  none_awake : (v : ℕ) (r : Bool) → At w.resting v r → counted r ≡ 0
  none_awake v r at =
      let (o, there) = at_some w.owners v (let lt = at_below w.resting v r at in let n = is.flags in omega arith) in
      let same : Some (flag_of v o there).0 ≡ Some r =
      sym (at_read w.resting v (flag_of v o there).0 (flag_of v o there).1) ∙ at_read w.resting v r at in
      ap counted (sym (some_same _ _ same) ∙ at_rest v o there)
    where
      some_same : (x y : Bool) → Some x ≡ Some y → x ≡ y
      some_same x y e = cc

  nothing_left : length (left_in w) + sum_by (λ (o : OwnerOf S). waiting o.outboxes) w.owners + count_by not w.resting ≡ 0
  nothing_left =
      let all = parts in
      let underway = deliveries_length 0 w.underway in
      let boxes = sum_none (λ (o : OwnerOf S). waiting o.outboxes) w.owners (λ v o at. none_waiting o.outboxes (no_send v o at)) in
      let flags = sum_none counted w.resting none_awake in
      omega arith

-- while there is something to do, some step would change something
pub some_step : {S : Type 0} (owner : S → List ℕ → ℕ → ℕ) (w : WorldOf S) → IsWorld owner w → (most count : ℕ)
    → count ≡ min (length (left_in w) + sum_by (λ (o : OwnerOf S). waiting o.outboxes) w.owners + count_by not w.resting) most → count ≢ 0
    → 0 < length (possible_steps owner w)
some_step {S = S} owner w is most count total some = ⊎_elim
    (λ (none : length (possible_steps owner w) ≡ 0). absurd (some (let left = nothing_left owner w is none in omega (arith, total, left))))
    (λ (there : 0 < length (possible_steps owner w)). there)
    (zero_or_more (length (possible_steps owner w)))
  where
    zero_or_more : (n : ℕ) → (n ≡ 0) ⊎ (0 < n)
    zero_or_more zero = inl refl
    zero_or_more (suc n) = inr (omega arith)
