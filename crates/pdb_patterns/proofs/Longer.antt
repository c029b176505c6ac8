-- A pattern with one more variable.
use Rattle.std.proofs.Common.{◌≡◌, ℕ, zero, suc, ◌+◌, ◌*◌, ◌<◌, ◌≤◌, List, [], ◌∷◌, ◌++◌, length, refl, sym, ap, ◌∙◌, arith}
use Rattle.std.specs.Prelude.{All, slice_index}
use Rattle.std.specs.List.Sorted.{IsStrictlyIncreasing}
use Rattle.std.proofs.lemmas.List.Elements.{All-nil, All-cons, All-head, All-tail, All-append}
use Rattle.fdr.specs.Tasks.{FiniteDomainTask, ranges}
use Rattle.abstraction.specs.Projections.{size_of}
use Rattle.pdb_patterns.specs.Patterns.{IsPattern}

increasing_longer : (ps : List ℕ) (v : ℕ) → IsStrictlyIncreasing ps → All (λ p. p < v) ps → IsStrictlyIncreasing (ps ++ v ∷ [])
increasing_longer [] v h below k l = absurd (omega arith)
increasing_longer (p ∷ []) v h below zero l = All-head (λ p. p < v) p [] below
increasing_longer (p ∷ []) v h below (suc k) l = absurd (omega arith)
increasing_longer (p ∷ q ∷ ps) v h below zero l = h zero (omega arith)
increasing_longer (p ∷ q ∷ ps) v h below (suc k) l =
    let next : suc k + 1 ≡ suc (k + 1) = omega arith in
    let rest : IsStrictlyIncreasing (q ∷ ps) = λ j m. (let step : suc j + 1 ≡ suc (j + 1) = omega arith in rw step at (h (suc j) (omega arith))) in
    rw next (increasing_longer (q ∷ ps) v rest (All-tail (λ p. p < v) p (q ∷ ps) below) k (omega arith))

swap_factors : (a b c : ℕ) → a * (b * c) ≡ b * (a * c)
swap_factors a b c = grind arith

pub size_longer : (ranges ps : List ℕ) (v : ℕ) → size_of ranges (ps ++ v ∷ []) ≡ slice_index ranges v * size_of ranges ps
size_longer ranges [] v = refl
size_longer ranges (p ∷ ps) v = rw (size_longer ranges ps v) (swap_factors (slice_index ranges p) (slice_index ranges v) (size_of ranges ps))

pub below_longer : (ps : List ℕ) (v : ℕ) → All (λ p. p < v) ps → All (λ p. p < v + 1) (ps ++ v ∷ [])
below_longer ps v below =
    All-append (λ p. p < v + 1) ps (v ∷ []) (λ k d l. let low = below k d l in omega (arith, low)) (All-cons (λ p. p < v + 1) v [] (omega arith) (All-nil (λ p. p < v + 1)))

pub pattern_longer : (task : FiniteDomainTask) (limit v : ℕ) (ps : List ℕ) → IsPattern task limit ps → All (λ p. p < v) ps → v < length (ranges task)
    → slice_index (ranges task) v * size_of (ranges task) ps ≤ limit → IsPattern task limit (ps ++ v ∷ [])
pattern_longer task limit v ps is below exists fits =
    record {
      increasing = increasing_longer ps v is.increasing below;
      exist = All-append (λ p. p < length (ranges task)) ps (v ∷ []) is.exist (All-cons (λ p. p < length (ranges task)) v [] exists (All-nil (λ p. p < length (ranges task))));
      within = omega (arith, fits, size_longer (ranges task) ps v);
    }

-- what is kept of the pattern of the variables below v
abbrev pub IsSoFar : FiniteDomainTask → ℕ → ℕ → ℕ → List ℕ → Type 0
IsSoFar task limit v size ps = IsPattern task limit ps × All (λ p. p < v) ps × (size ≡ size_of (ranges task) ps)

pub kept_without : (task : FiniteDomainTask) (limit v size : ℕ) (ps : List ℕ) → IsSoFar task limit v size ps → IsSoFar task limit (v + 1) size ps
kept_without task limit v size ps h = (h.0, (λ k d l. (let low = h.1 k d l in omega (arith, low))), h.2)

pub kept_with : (task : FiniteDomainTask) (limit v size larger : ℕ) (ps : List ℕ) → IsSoFar task limit v size ps → v < length (ranges task)
    → (larger ≡ slice_index (ranges task) v * size) × (larger ≤ limit) → IsSoFar task limit (v + 1) larger (ps ++ v ∷ [])
kept_with task limit v size larger ps h exists fits =
    let same : larger ≡ slice_index (ranges task) v * size_of (ranges task) ps = rw fits.0 (ap (λ s. slice_index (ranges task) v * s) h.2) in (
      pattern_longer task limit v ps h.0 h.1 exists (rw same at fits.1),
      below_longer ps v h.1,
      same ∙ sym (size_longer (ranges task) ps v),
    )
