-- The least of finitely many distances, and f-values.
use Rattle.std.proofs.Common.{◌≡◌, ℕ, zero, suc, ◌<◌, ◌≤◌, sym, ◌∙◌, subst, ⊎_elim, arith}
use Rattle.std.proofs.lemmas.Bool.{cases_lt}
use Rattle.cost.specs.Distances.{Distance, Finite, ◌≤ᵈ◌, ◌+ᵈ◌, lesser}
use Rattle.cost.proofs.DistanceLaws.{at_most_itself, at_most_through, at_most_infinite, lesser_at_most_left, lesser_at_most_right, at_most_lesser, lesser_one, sum_monotone}
use Rattle.owner_theory.specs.Families.{least_of}

-- a distance after more is no less
pub dearer : (g g' : ℕ) (x : Distance) → g ≤ g' → Finite g +ᵈ x ≤ᵈ Finite g' +ᵈ x
dearer g g' x p = sum_monotone (Finite g) x (Finite g') x p (at_most_itself x)

pub least_of_at_most : (n : ℕ) (f : ℕ → Distance) (w : ℕ) → w < n → least_of n f ≤ᵈ f w
least_of_at_most zero f w p = absurd (omega arith)
least_of_at_most (suc n) f w p =
    ⊎_elim
    (λ (h : w < n). at_most_through _ _ _ (lesser_at_most_left (least_of n f) (f n)) (least_of_at_most n f w h))
    (λ (h : n ≤ w). let e : n ≡ w = omega arith in subst (λ k. lesser (least_of n f) (f n) ≤ᵈ f k) e
    (lesser_at_most_right (least_of n f) (f n)))
    (cases_lt w n)

-- a finite least is one of the numbers
pub least_of_finite : (n : ℕ) (f : ℕ → Distance) (b : ℕ) → least_of n f ≡ Finite b → (w : ℕ) × (w < n) × (f w ≡ Finite b)
least_of_finite zero f b e = absurd (cc)
least_of_finite (suc n) f b e =
    ⊎_elim
    (λ (same : lesser (least_of n f) (f n) ≡ least_of n f). let (w, lt, at) = least_of_finite n f b (sym same ∙ e) in
    (w, omega arith, at))
    (λ (same : lesser (least_of n f) (f n) ≡ f n). (n, omega arith, sym same ∙ e))
    (lesser_one (least_of n f) (f n))

pub at_most_least_of : (n : ℕ) (f : ℕ → Distance) (b : Distance) → ((w : ℕ) → w < n → b ≤ᵈ f w) → b ≤ᵈ least_of n f
at_most_least_of zero f b p = at_most_infinite b
at_most_least_of (suc n) f b p = at_most_lesser b (least_of n f) (f n) (at_most_least_of n f b (λ w q. p w (omega arith)))
    (p n (omega arith))
