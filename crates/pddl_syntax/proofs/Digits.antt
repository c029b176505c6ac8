-- Past the limit one number is as good as another.
use Rattle.std.proofs.Common.{◌≡◌, ◌≤◌, ◌<◌, ◌==◌, ℕ, ◌+◌, ◌*◌, ◌-◌, suc, nat_le, Bool, true, false, List, [], ◌∷◌, get_or, drop, length, refl, sym, ap, ◌∙◌, arith, if◌then◌else◌}
use Rattle.std.proofs.Math.Seq.{drop-cons}
use Rattle.std.proofs.lemmas.Bool.{leb-true}
use Rattle.std.specs.List.{list_all}
use Rattle.pddl_syntax.specs.declared.number.Number.{Number}
use Rattle.pddl_syntax.specs.declared.number.Number.TheVariants.{OutOfRange, NoNumber}
use Rattle.pddl_syntax.specs.Numbers.{is_digit, in_range, by_zeros, after_point, after_digits}

in_range_great : (n : ℕ) (t : Bool) → 2147483647 < n → nat_le n 2147483647 ≡ t → in_range n ≡ OutOfRange
in_range_great n true h e = let le : n ≤ 2147483647 = leb-true n 2147483647 e in absurd (omega arith)
in_range_great n false h e = rw e refl

pub range_great : (n m : ℕ) → 2147483647 < n → 2147483647 < m → in_range n ≡ in_range m
range_great n m h k = in_range_great n (nat_le n 2147483647) h refl ∙ sym (in_range_great m (nat_le m 2147483647) k refl)

zeros_great : (n m : ℕ) (z d : Bool) → 2147483647 < n → 2147483647 < m → by_zeros z d n ≡ by_zeros z d m
zeros_great n m true d h k = range_great n m h k
zeros_great n m false true h k = refl
zeros_great n m false false h k = refl

point_great : (n m : ℕ) (bs : List ℕ) → 2147483647 < n → 2147483647 < m → after_point n bs ≡ after_point m bs
point_great n m [] h k = refl
point_great n m (b ∷ bs) h k = zeros_great n m (list_all (λ c. c == 48) (b ∷ bs)) (list_all is_digit (b ∷ bs)) h k

chosen : (d p : Bool) (x y z w v : Number) → x ≡ y → z ≡ w → (if d then x else (if p then z else v)) ≡ (if d then y else (if p then w else v))
chosen true p x y z w v e f = e
chosen false true x y z w v e f = f
chosen false false x y z w v e f = refl

pub digits_great : (n m : ℕ) (bs : List ℕ) → 2147483647 < n → 2147483647 < m → after_digits n bs ≡ after_digits m bs
digits_great n m [] h k = range_great n m h k
digits_great n m (b ∷ bs) h k =
    chosen (is_digit b) (b == 46) _ _ _ _ _ (digits_great (n * 10 + (b - 48)) (m * 10 + (b - 48)) bs (omega arith) (omega arith)) (point_great n m bs h k)

goes : (t p : Bool) (x z v : Number) → t ≡ true → (if t then x else (if p then z else v)) ≡ x
goes true p x z v e = refl
goes false p x z v e = absurd cc

stops : (t p : Bool) (x z v : Number) → t ≡ false → (if t then x else (if p then z else v)) ≡ (if p then z else v)
stops true p x z v e = absurd cc
stops false p x z v e = refl

pub at_byte : (n i : ℕ) (bytes : List ℕ) → i < length bytes → after_digits n (drop i bytes) ≡ after_digits n (get_or bytes i 0 ∷ drop (i + 1) bytes)
at_byte n i bytes lt = ap (after_digits n) (drop-cons bytes i 0 lt ∙ ap (λ (k : ℕ). get_or bytes i 0 ∷ drop k bytes) (let e : suc i ≡ i + 1 = omega arith in e))

-- a digit more
pub goes_on : (n i m : ℕ) (bytes : List ℕ) → i < length bytes → is_digit (get_or bytes i 0) ≡ true → m ≡ n * 10 + (get_or bytes i 0 - 48)
    → after_digits n (drop i bytes) ≡ after_digits m (drop (i + 1) bytes)
goes_on n i m bytes lt is m_is =
    at_byte n i bytes lt
    ∙ goes (is_digit (get_or bytes i 0)) (get_or bytes i 0 == 46) (after_digits (n * 10 + (get_or bytes i 0 - 48)) (drop (i + 1) bytes)) (after_point n (drop (i + 1) bytes)) NoNumber is
    ∙ ap (λ (k : ℕ). after_digits k (drop (i + 1) bytes)) (sym m_is)

-- a digit more, past the limit
pub goes_by : (n i : ℕ) (bytes : List ℕ) → i < length bytes → is_digit (get_or bytes i 0) ≡ true → 2147483647 < n
    → after_digits n (drop i bytes) ≡ after_digits n (drop (i + 1) bytes)
goes_by n i bytes lt is h =
    goes_on n i (n * 10 + (get_or bytes i 0 - 48)) bytes lt is refl
    ∙ digits_great (n * 10 + (get_or bytes i 0 - 48)) n (drop (i + 1) bytes) (omega arith) h

-- no digit
pub ends : (n i : ℕ) (bytes : List ℕ) → i < length bytes → is_digit (get_or bytes i 0) ≡ false
    → after_digits n (drop i bytes) ≡ (if get_or bytes i 0 == 46 then after_point n (drop (i + 1) bytes) else NoNumber)
ends n i bytes lt is =
    at_byte n i bytes lt
    ∙ stops (is_digit (get_or bytes i 0)) (get_or bytes i 0 == 46) (after_digits (n * 10 + (get_or bytes i 0 - 48)) (drop (i + 1) bytes)) (after_point n (drop (i + 1) bytes)) NoNumber is

pub goes_past : (n m i : ℕ) (bytes : List ℕ) → i < length bytes → is_digit (get_or bytes i 0) ≡ true → m ≡ n → 2147483647 < n
    → after_digits n (drop i bytes) ≡ after_digits m (drop (i + 1) bytes)
goes_past n m i bytes lt is m_is h = goes_by n i bytes lt is h ∙ ap (λ (k : ℕ). after_digits k (drop (i + 1) bytes)) (sym m_is)
