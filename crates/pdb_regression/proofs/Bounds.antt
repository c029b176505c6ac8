-- The numbers from which changes lead are below the product of the ranges.
use Rattle.std.proofs.Common.{◌≡◌, ℕ, zero, suc, ◌+◌, ◌*◌, ◌/◌, ◌%◌, ◌^◌, ◌-◌, ◌<◌, ◌≤◌, List, [], ◌∷◌, length, take, drop, get_or, refl, subst, arith, add-one, drop-cons}
use Rattle.std.specs.Prelude.{All}
use Rattle.std.proofs.lemmas.List.Elements.{All-head, All-tail}
use Rattle.std.proofs.Math.Nat.{mod-add-div}
use Rattle.std.proofs.lemmas.Nat.{mod_below, mul-add-lt, mul-le}
use Rattle.abstraction_groups.specs.declared.change.DigitChange.{DigitChange}
use Rattle.abstraction_groups.specs.declared.change.Change.{Change}
use Rattle.abstraction_groups.specs.declared.change.Change.TheVariants.{Kept, Required, Moved, Assigned}
use Rattle.abstraction_groups.specs.Changes.{LeadsBy, FitsIn, IsFit, size_by}
use Rattle.pdb_regression.specs.Changes.{put_at, taken_at}
use Rattle.pdb_regression.specs.Rules.{put_by, taken_by}
use Rattle.pdb_regression.specs.Tables.{no_change}
use Rattle.pdb_regression.proofs.Elements.{first_and_rest}

pub leads_below : (cs : List DigitChange) (i j : ℕ) → All IsFit cs → LeadsBy cs i j → i < size_by cs
leads_below [] i j all h = omega arith
leads_below (c ∷ cs) i j all h =
    let fit = All-head IsFit c cs all in
    let high : i / c.digit.range < size_by cs = leads_below cs (i / c.digit.range) j (All-tail IsFit c cs all) h.1 in
    let low : i % c.digit.range < c.digit.range = mod_below i c.digit.range fit.digit.range in
    omega (arith, mod-add-div i c.digit.range, mul-add-lt (i / c.digit.range) c.digit.range (i % c.digit.range) (size_by cs) high low)

pub size_behind : (cs : List DigitChange) (k : ℕ) → All IsFit cs → size_by (drop k cs) ≤ size_by cs
size_behind [] zero all = omega arith
size_behind [] (suc k) all = omega arith
size_behind (c ∷ cs) zero all = omega arith
size_behind (c ∷ cs) (suc k) all =
    let fit = All-head IsFit c cs all in
    let some = fit.digit.range in
    let less : size_by (drop k cs) ≤ size_by cs = size_behind cs k (All-tail IsFit c cs all) in
    omega (arith, mul-le 1 (size_by cs) c.digit.range (size_by cs) (omega arith) (omega arith))

pub from_place : (cs : List DigitChange) (k : ℕ) (d : DigitChange) → k < length cs → drop k cs ≡ get_or cs k d ∷ drop (k + 1) cs
from_place cs k d l = rw (add-one, drop-cons cs k d) refl

-- what the effects put there, and what they take, is below the product of the ranges
put_fits : (r : ℕ) (change : Change) → 0 < r → FitsIn r change → (put_at change < r) × (taken_at change < r)
put_fits r Kept some fits = (some, some)
put_fits r (Required c) some fits = (some, some)
put_fits r (Moved from to) some fits = (fits.1, fits.0)
put_fits r (Assigned e) some fits = (fits, some)

pub below_product : (r s x n : ℕ) → x < r → n < s → x + r * n < r * s
below_product r s x n l m =
    let more : r * (n + 1) ≤ r * s = mul-le r (n + 1) r s (omega arith) (omega arith) in omega arith

pub put_small : (cs : List DigitChange) → All IsFit cs → (put_by cs < size_by cs) × (taken_by cs < size_by cs)
put_small [] all = (omega arith, omega arith)
put_small (c ∷ cs) all =
    let fit = All-head IsFit c cs all in
    let here = put_fits c.digit.range c.change fit.digit.range fit.change in
    let rest = put_small cs (All-tail IsFit c cs all) in (
      below_product c.digit.range (size_by cs) (put_at c.change) (put_by cs) here.0 rest.0,
      below_product c.digit.range (size_by cs) (taken_at c.change) (taken_by cs) here.1 rest.1,
    )

-- one more digit: the product and the sum that put a value below its room beside a part below a size
pub digit_more : (r s x n k : ℕ) → x < r → n < s → r * s ≤ k → (r * n < k) × (x + r * n < k)
digit_more r s x n k l m small = let sum = below_product r s x n l m in (omega arith, omega arith)

-- what holds of the first change and the rest, for each way to take the changes apart
pub at_first : (P : DigitChange → List DigitChange → Type 0) (cs : List DigitChange) → 1 ≤ length cs → All IsFit cs → size_by cs ≤ 2 ^ 24 →
    ((c : DigitChange) (rest : List DigitChange) → All IsFit (c ∷ rest) → size_by (c ∷ rest) ≤ 2 ^ 24 → P c rest) → P (get_or cs 0 no_change) (take (length cs - 1) (drop 1 cs))
at_first P cs long all small each =
    let first : DigitChange = get_or cs 0 no_change in
    let rest : List DigitChange = take (length cs - 1) (drop 1 cs) in
    let whole : cs ≡ first ∷ rest = first_and_rest cs no_change long in
    each first rest (subst (All IsFit) whole all) (subst (λ (xs : List DigitChange). size_by xs ≤ 2 ^ 24) whole small)

-- the product and the sum that make up one more change
abbrev pub PutSteps : DigitChange → List DigitChange → Type 0
PutSteps c cs = (c.digit.range * put_by cs < 2 ^ 24) × (put_at c.change + c.digit.range * put_by cs < 2 ^ 24) × (c.digit.range * taken_by cs < 2 ^ 24) × (taken_at c.change + c.digit.range * taken_by cs < 2 ^ 24)

pub put_steps : (cs : List DigitChange) → 1 ≤ length cs → All IsFit cs → size_by cs ≤ 2 ^ 24 → PutSteps (get_or cs 0 no_change) (take (length cs - 1) (drop 1 cs))
put_steps cs long all small = at_first PutSteps cs long all small (λ c rest fit few.
    let digit = All-head IsFit c rest fit in
    let here = put_fits c.digit.range c.change digit.digit.range digit.change in
    let behind = put_small rest (All-tail IsFit c rest fit) in
    let put = digit_more c.digit.range (size_by rest) (put_at c.change) (put_by rest) (2 ^ 24) here.0 behind.0 few in
    let taken = digit_more c.digit.range (size_by rest) (taken_at c.change) (taken_by rest) (2 ^ 24) here.1 behind.1 few in
    (put.0, put.1, taken.0, taken.1))
