-- Counts of messages and of owners that are active.
use Rattle.std.proofs.Common.{◌≡◌, ℕ, zero, suc, ◌+◌, ◌<◌, Bool, true, false, not, List, [], ◌∷◌, length, min, refl, sym, ap, ◌∙◌, subst, arith, cond}
use Rattle.std.specs.Prelude.{sum_by, count_by}
use Rattle.std.specs.List.Sorted.{IsPermutation}
use Rattle.std.proofs.lemmas.List.Sorted.{sum_by-IsPermutation}
use Rattle.std.proofs.lemmas.List.Sums.{sum_by-cons}
use Rattle.cost.specs.Distances.{Distance}
use Rattle.owner_theory.specs.Owners as machine
use Rattle.owner_theory.specs.Owners.{At, list_at, Message, Packet}
use Rattle.owner_theory.specs.Worlds.{World, waiting, busy, count}
use Rattle.owner.specs.Owned.{OwnerOf}
use Rattle.netcore.specs.Worlds.{WorldOf, space_in, left_in, Shows}
use Rattle.netcore.specs.Kept.{IsWorld}
use Rattle.netcore.proofs.Places.{at_some, at_below}
use Rattle.netcore.proofs.Ending.{left_of}

-- ---- numbers up to a greatest one
pub clamped : (a b most : ℕ) → min (min a most + b) most ≡ min (a + b) most
clamped a b most = omega arith

pub clamped_both : (a b most : ℕ) → min (min a most + min b most) most ≡ min (a + b) most
clamped_both a b most = omega arith

pub no_more : (a most : ℕ) → 0 < most → min a most ≡ 0 → a ≡ 0
no_more a most lt e = omega arith

-- ---- lists as far as a loop has come
as_ones : {X : Type 0} (xs : List X) → sum_by (λ _. 1) xs ≡ length xs
as_ones [] = refl
as_ones {X = X} (x ∷ xs) = let rest = as_ones xs in let more = sum_by-cons (λ (_ : X). 1) x xs in omega arith

same_length : {X : Type 0} (xs ys : List X) → IsPermutation xs ys → length xs ≡ length ys
same_length xs ys p = sym (as_ones xs) ∙ (sym (sum_by-IsPermutation (λ _. 1) xs ys p) ∙ as_ones ys)

-- ---- what an owner has to do
item : World → ℕ → ℕ
item world v = waiting (world.logs v).owner.outboxes + (cond (world.resting v) 0 1)

busy_from : World → ℕ → ℕ → ℕ
busy_from world base zero = 0
busy_from world base (suc n) = item world base + busy_from world (base + 1) n

from_last : (world : World) (base n : ℕ) → busy_from world base (suc n) ≡ item world (base + n) + busy_from world base n
unfolding busy_from
from_last world base zero = ap (λ k. item world k + 0) (omega arith)
from_last world base (suc n) =
    let rest = from_last world (base + 1) n in
    let same : item world (base + 1 + n) ≡ item world (base + suc n) = ap (item world) (omega arith) in
    omega arith

from_all : (world : World) (n : ℕ) → busy_from world 0 n ≡ busy n world
unfolding busy_from item
from_all world zero = refl
from_all world (suc n) =
    let rest = from_all world n in
    let last = from_last world 0 n in
    let same : item world (0 + n) ≡ item world n = ap (item world) (omega arith) in
    omega arith

abbrev awake : Bool → ℕ
awake true = 0
awake false = 1

is_awake : (b : Bool) → cond b 0 1 ≡ awake b
is_awake true = refl
is_awake false = refl

count_more : (b : Bool) (bs : List Bool) → count_by not (b ∷ bs) ≡ awake b + count_by not bs
count_more true bs = sum_by-cons (λ (x : Bool). cond (not x) 1 0) true bs
count_more false bs = sum_by-cons (λ (x : Bool). cond (not x) 1 0) false bs

module _ {S : Type 0} (owner : S → List ℕ → ℕ → ℕ) where
  busy_of : (world : World) (base : ℕ) (os : List (OwnerOf S)) (rs : List Bool) → length rs ≡ length os
      → ((v : ℕ) (o : OwnerOf S) → At os v o → (world.logs (base + v)).owner.outboxes ≡ o.outboxes)
      → ((v : ℕ) (r : Bool) → At rs v r → world.resting (base + v) ≡ r)
      → busy_from world base (length os) ≡ sum_by (λ (o : OwnerOf S). waiting o.outboxes) os + count_by not rs
  unfolding busy_from item
  busy_of world base [] [] e owners flags = refl
  busy_of world base (o ∷ os) (r ∷ rs) e owners flags =
      let here : base + 0 ≡ base = omega arith in
      let there : (v : ℕ) → base + 1 + v ≡ base + suc v = λ v. omega arith in
      let rest = busy_of world (base + 1) os rs (omega arith)
      (λ v p at. subst (λ k. (world.logs k).owner.outboxes ≡ p.outboxes) (sym (there v)) (owners (suc v) p at))
      (λ v p at. subst (λ k. world.resting k ≡ p) (sym (there v)) (flags (suc v) p at)) in
      let out : waiting (world.logs base).owner.outboxes ≡ waiting o.outboxes =
      ap waiting (subst (λ k. (world.logs k).owner.outboxes ≡ o.outboxes) here (owners 0 o refl)) in
      let flag : cond (world.resting base) 0 1 ≡ awake r =
      ap (λ b. cond b 0 1) (subst (λ k. world.resting k ≡ r) here (flags 0 r refl)) ∙ is_awake r in
      let more = count_more r rs in
      let most = sum_by-cons (λ (p : OwnerOf S). waiting p.outboxes) o os in
      omega arith
  busy_of world base [] (r ∷ rs) e owners flags = absurd (omega arith)
  busy_of world base (o ∷ os) [] e owners flags = absurd (omega arith)

  pub count_of : (w : WorldOf S) (world : World) → IsWorld owner w → ((state : List ℕ) → owner w.space.spread state (length w.owners) < length w.owners)
      → Shows owner w world
      → count (space_in owner w) world ≡ length (left_in w) + sum_by (λ (o : OwnerOf S). waiting o.outboxes) w.owners + count_by not w.resting
  count_of w world is below shows =
      let bound_at : (v : ℕ) (o : OwnerOf S) → At w.owners v o → (b : Distance) × At w.seen v b =
      λ v o at. at_some w.seen v (let lt = at_below w.owners v o at in let n = is.bounds in omega arith) in
      let under = same_length world.underway (left_in w) (left_of owner w world is below shows) in
      let busy_is = sym (from_all world (length w.owners)) ∙ busy_of world 0 w.owners w.resting is.flags
      (λ v o at. let (b, seen) = bound_at v o at in
      let same : v ≡ 0 + v = omega arith in
      subst (λ k. (world.logs k).owner.outboxes ≡ o.outboxes) same (ap (λ (x : machine.Owner). x.outboxes) (shows.owners v o b at seen).owner))
      (λ v r at. let same : v ≡ 0 + v = omega arith in subst (λ k. world.resting k ≡ r) same (shows.resting v r at)) in
      omega arith

-- ---- the sum of three counts
pub sum_of : (a b n most u w k m r : ℕ) → u ≡ min a most → w ≡ min b most → k ≡ n → m ≡ min (u + w) most → r ≡ min (m + k) most
    → r ≡ min (a + b + n) most
sum_of a b n most u w k m r eu ew ek em er = omega arith
