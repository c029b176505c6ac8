-- Ascending numbers: what may stand before and after them.
use Rattle.std.specs.Prelude.{All, IsPermutation}
use Rattle.std.proofs.Common.{◌≡◌, ℕ, zero, suc, ◌+◌, ◌≤◌, List, [], ◌∷◌, ◌++◌, length, get_or, arith, sym, subst, ap, ◌∙◌, cond, Bool, true}
use Rattle.std.proofs.Math.Nat.{le_trans}
use Rattle.std.proofs.lemmas.List.Elements.{All-append, All-cons, All-nil}
use Rattle.std.proofs.lemmas.List.Sorted.{IsPermutation-sym, IsPermutation-to_front}
use Rattle.openlist.specs.Groups.{IsAscending}

-- a number that is at most another is at most those above it
at_most-trans : (x y : ℕ) (ys : List ℕ) → x ≤ y → All (λ z. y ≤ z) ys → All (λ z. x ≤ z) ys
at_most-trans x y ys h all = λ k d inside. le_trans h (all k d inside)

-- the first of ascending numbers is at most each of them
pub first-at_most : (x : ℕ) (xs : List ℕ) → x ≡ get_or xs 0 x → IsAscending xs → All (λ y. x ≤ y) xs
first-at_most x [] is sorted = All-nil (λ y. x ≤ y)
first-at_most x (y ∷ ys) is sorted =
    let same : x ≤ y = omega arith in
    All-cons (λ z. x ≤ z) y ys same (at_most-trans x y ys same sorted.0)

pub IsAscending-front : (x first : ℕ) (xs : List ℕ) → first ≡ get_or xs 0 first → x ≤ first → IsAscending xs →
    IsAscending (x ∷ xs)
IsAscending-front x first xs is h sorted = (at_most-trans x first xs h (first-at_most first xs is sorted), sorted)

pub IsAscending-back : (x last : ℕ) (xs : List ℕ) (n : ℕ) → n + 1 ≡ length xs → last ≡ get_or xs n last → last ≤ x →
    IsAscending xs → IsAscending (xs ++ x ∷ [])
IsAscending-back x last [] n at is h sorted = absurd (omega arith)
IsAscending-back x last (y ∷ []) zero at is h sorted = (
  All-cons (λ z. y ≤ z) x [] (omega arith) (All-nil (λ z. y ≤ z)),
  (All-nil (λ z. x ≤ z), tt),
)
IsAscending-back x last (y ∷ []) (suc n) at is h sorted = absurd (omega arith)
IsAscending-back x last (y ∷ z ∷ zs) zero at is h sorted = absurd (omega arith)
IsAscending-back x last (y ∷ z ∷ zs) (suc n) at is h sorted =
    let before : y ≤ last = subst (λ e. y ≤ e) (sym is) (sorted.0 n last (omega arith)) in (
      All-append (λ e. y ≤ e) (z ∷ zs) (x ∷ []) sorted.0
          (All-cons (λ e. y ≤ e) x [] (le_trans before h) (All-nil (λ e. y ≤ e))),
      IsAscending-back x last (z ∷ zs) n (omega arith) is h sorted.1,
    )

-- a number more at the end, if a push succeeded
pub pushed_back : (b : Bool) (x : ℕ) (xs ys : List ℕ) → ys ≡ cond b (xs ++ x ∷ []) xs → b ≡ true →
    IsPermutation (x ∷ xs) ys
pushed_back b x xs ys is pushed =
    let at : ys ≡ xs ++ x ∷ [] = is ∙ ap (λ v. cond v (xs ++ x ∷ []) xs) pushed in
    subst (IsPermutation (x ∷ xs)) (sym at) (IsPermutation-sym (xs ++ x ∷ []) (x ∷ xs) (IsPermutation-to_front xs x))
