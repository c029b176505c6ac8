-- The least word offered, the sum of shares and that of parts, after one view is changed.
use Rattle.std.proofs.Common.{◌≡◌, ℕ, zero, suc, ◌+◌, ◌-◌, ◌^◌, ◌≤◌, min, List, [], ◌∷◌, ◌++◌, set, sym, refl, ap, arith, pos, ◌+ℤ◌}
use Rattle.std.proofs.lemmas.Int.{ints}
use mathlib.Core.Option.{some, some-injective, some-ne-none}
use lib.ListN.{get_elem?}
use Rattle.board.specs.declared.views.View.{View}
use Rattle.board.specs.Rule.{word_of, total_share, total_parts}
use Rattle.board.proofs.Wording.{least_word, IsFairWord}

pub least_at : (vs : List View) (i : ℕ) (v : View) → get_elem? vs i ≡ some v → least_word vs ≤ word_of v.offered
least_at [] i v e = absurd (some-ne-none v (sym e))
least_at (x ∷ xs) zero v e = let is : word_of x.offered ≡ word_of v.offered = ap (λ (m : View). word_of m.offered) (some-injective x v e) in omega arith
least_at (x ∷ xs) (suc i) v e = let r = least_at xs i v e in omega arith

pub least_small : (vs : List View) → least_word vs ≤ 2 ^ 64 - 1
least_small [] = omega arith
least_small (x ∷ xs) = let r = least_small xs in omega arith

pub least_set : (vs : List View) (i : ℕ) (v w : View) → get_elem? vs i ≡ some v → min (least_word (set vs i w)) (word_of v.offered) ≡ min (least_word vs) (word_of w.offered)
least_set [] i v w e = absurd (some-ne-none v (sym e))
least_set (x ∷ xs) zero v w e = let is : word_of x.offered ≡ word_of v.offered = ap (λ (m : View). word_of m.offered) (some-injective x v e) in omega arith
least_set (x ∷ xs) (suc i) v w e = let r = least_set xs i v w e in omega arith

pub least_snoc : (vs : List View) (w : View) → word_of w.offered ≤ 2 ^ 64 - 1 → least_word (vs ++ w ∷ []) ≡ min (least_word vs) (word_of w.offered)
least_snoc [] w h = omega arith
least_snoc (x ∷ xs) w h = let r = least_snoc xs w h in omega arith

pub share_set : (vs : List View) (i : ℕ) (v w : View) → get_elem? vs i ≡ some v → total_share (set vs i w) +ℤ v.share ≡ total_share vs +ℤ w.share
share_set [] i v w e = absurd (some-ne-none v (sym e))
share_set (x ∷ xs) zero v w e = let is : x.share ≡ v.share = ap (λ (m : View). m.share) (some-injective x v e) in omega (arith, ints)
share_set (x ∷ xs) (suc i) v w e = let r = share_set xs i v w e in omega (arith, ints)

pub share_snoc : (vs : List View) (w : View) → total_share (vs ++ w ∷ []) ≡ total_share vs +ℤ w.share
share_snoc [] w = omega (arith, ints)
share_snoc (x ∷ xs) w = let r = share_snoc xs w in omega (arith, ints)

pub parts_set : (vs : List View) (i : ℕ) (v w : View) → get_elem? vs i ≡ some v → total_parts (set vs i w) + v.parts ≡ total_parts vs + w.parts
parts_set [] i v w e = absurd (some-ne-none v (sym e))
parts_set (x ∷ xs) zero v w e = let is : x.parts ≡ v.parts = ap (λ (m : View). m.parts) (some-injective x v e) in omega arith
parts_set (x ∷ xs) (suc i) v w e = let r = parts_set xs i v w e in omega arith

pub parts_snoc : (vs : List View) (w : View) → total_parts (vs ++ w ∷ []) ≡ total_parts vs + w.parts
parts_snoc [] w = omega arith
parts_snoc (x ∷ xs) w = let r = parts_snoc xs w in omega arith

pub parts_at : (vs : List View) (i : ℕ) (v : View) → get_elem? vs i ≡ some v → v.parts ≤ total_parts vs
parts_at [] i v e = absurd (some-ne-none v (sym e))
parts_at (x ∷ xs) zero v e = let is : x.parts ≡ v.parts = ap (λ (m : View). m.parts) (some-injective x v e) in omega arith
parts_at (x ∷ xs) (suc i) v e = let r = parts_at xs i v e in omega arith

-- every view without a part is spent
abbrev pub AllFair : ℕ → List View → Type 0
AllFair b vs = (i : ℕ) (v : View) → get_elem? vs i ≡ some v → IsFairWord b v

-- views that have no part have offered and added nothing
pub none_left : (b : ℕ) (vs : List View) → AllFair b vs → total_parts vs ≡ 0 → (least_word vs ≡ 2 ^ 64 - 1) × (total_share vs ≡ pos 0)
none_left b [] fair none = (refl, refl)
none_left b (x ∷ xs) fair none =
    let here = (fair 0 x refl).spent (omega arith) in
    let later = none_left b xs (λ i. fair (suc i)) (omega arith) in
    let l : word_of x.offered ≡ 2 ^ 64 - 1 = here.0 in let l' : least_word xs ≡ 2 ^ 64 - 1 = later.0 in
    let s : x.share ≡ pos 0 = here.1 in let s' : total_share xs ≡ pos 0 = later.1 in
    (omega arith, omega (arith, ints))

-- who has every part has offered the least, and its share is the sum
pub alone : (b : ℕ) (vs : List View) (i : ℕ) (v : View) → AllFair b vs → get_elem? vs i ≡ some v → total_parts vs ≡ v.parts → (least_word vs ≡ word_of v.offered) × (total_share vs ≡ v.share)
alone b [] i v fair e all = absurd (some-ne-none v (sym e))
alone b (x ∷ xs) zero v fair e all =
    let same = some-injective x v e in
    let p : x.parts ≡ v.parts = ap (λ (m : View). m.parts) same in
    let o : word_of x.offered ≡ word_of v.offered = ap (λ (m : View). word_of m.offered) same in
    let s : x.share ≡ v.share = ap (λ (m : View). m.share) same in
    let small : word_of x.offered ≤ 2 ^ 64 - 1 = (fair 0 x refl).offered in
    let later = none_left b xs (λ i. fair (suc i)) (omega arith) in
    let l' : least_word xs ≡ 2 ^ 64 - 1 = later.0 in
    let s' : total_share xs ≡ pos 0 = later.1 in
    (omega arith, omega (arith, ints))
alone b (x ∷ xs) (suc i) v fair e all =
    let within = parts_at xs i v e in
    let here = (fair 0 x refl).spent (omega arith) in
    let l : word_of x.offered ≡ 2 ^ 64 - 1 = here.0 in let s : x.share ≡ pos 0 = here.1 in
    let later = alone b xs i v (λ j. fair (suc j)) e (omega arith) in
    let l' : least_word xs ≡ word_of v.offered = later.0 in
    let s' : total_share xs ≡ v.share = later.1 in
    let small = least_small xs in
    (omega arith, omega (arith, ints))
