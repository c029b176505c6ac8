-- The value that is read is that of the digits in base ten.
use Rattle.std.proofs.Common.{◌≡◌, ◌≢◌, ◌≤◌, ◌==◌, ℕ, ◌+◌, ◌*◌, ◌-◌, ◌^◌, suc, ◌&&◌, nat_le, Bool, true, false, List, [], ◌∷◌, ◌++◌, length, refl, sym, ap, subst, ◌∙◌, arith, if◌then◌else◌}
use Rattle.std.specs.List.{list_all, AllByRecursion}
use Rattle.std.proofs.Math.Nat.{pow-succ'}
use Rattle.std.proofs.lemmas.Bool.{eqb-true, eq-eqb, leb-true, le-leb, and_parts}
use Rattle.std.proofs.lemmas.Bool.Decides.{nat_tests}
use Rattle.pddl_syntax.specs.Limits.{max_number}
use Rattle.pddl_syntax.specs.declared.number.Number.{Number}
use Rattle.pddl_syntax.specs.declared.number.Number.TheVariants.{Whole, Fraction, OutOfRange, NoNumber}
use Rattle.pddl_syntax.specs.Numbers.{is_digit, in_range, by_zeros, after_point, after_digits, unsigned, negated, number_of}
use Rattle.pddl_grammar.specs.WholeNumbers.{IsDigit, value_of, IsNoFraction, SpellsNumber}

-- ---- digits and zeros

digit_test : (b : ℕ) → IsDigit b → is_digit b ≡ true
digit_test b h = let low = h.0 in let high = h.1 in grind (arith, nat_tests)

digit_is : (b : ℕ) → is_digit b ≡ true → IsDigit b
digit_is b e = let parts = and_parts (nat_le 48 b) (nat_le b 57) e in (leb-true 48 b parts.0, leb-true b 57 parts.1)

no_sign : (b : ℕ) → IsDigit b → (b == 45) ≡ false
no_sign b h = let low = h.0 in grind (arith, nat_tests)

zeros_test : (zs : List ℕ) → AllByRecursion (λ (c : ℕ). c ≡ 48) zs → list_all (λ c. c == 48) zs ≡ true
zeros_test [] h = refl
zeros_test (z ∷ zs) h = ap (λ (b : Bool). b && list_all (λ c. c == 48) zs) (eq-eqb z 48 h.0) ∙ zeros_test zs h.1

zeros_are : (zs : List ℕ) → list_all (λ c. c == 48) zs ≡ true → AllByRecursion (λ (c : ℕ). c ≡ 48) zs
zeros_are [] e = tt
zeros_are (z ∷ zs) e = let parts = and_parts (z == 48) (list_all (λ c. c == 48) zs) e in (eqb-true z 48 parts.0, zeros_are zs parts.1)

-- a digit before others, where `later` is the power of ten of as many places
shift : (n m here later v : ℕ) → later ≡ 10 * here → (n * 10 + m) * here + v ≡ n * later + (m * here + v)
shift n m here later v e = omega (arith, ap (λ (x : ℕ). n * x) e)

alone : (n : ℕ) → n * 10 ^ 0 + 0 ≡ n
alone n = omega arith

-- ---- what is spelled is read

point_read : (n : ℕ) (zs : List ℕ) → zs ≢ [] → AllByRecursion (λ (c : ℕ). c ≡ 48) zs → after_point n zs ≡ in_range n
point_read n [] some h = absurd (some refl)
point_read n (z ∷ zs) some h = ap (λ (b : Bool). by_zeros b (list_all is_digit (z ∷ zs)) n) (zeros_test (z ∷ zs) h)

end_read : (n : ℕ) (behind : List ℕ) → IsNoFraction behind → after_digits n behind ≡ in_range n
end_read n [] h = refl
end_read n (b ∷ zs) h = ap (λ (c : ℕ). after_digits n (c ∷ zs)) h.0 ∙ point_read n zs h.1 h.2

digits_read : (n : ℕ) (ds behind : List ℕ) → AllByRecursion IsDigit ds → IsNoFraction behind → after_digits n (ds ++ behind) ≡ in_range (n * 10 ^ length ds + value_of ds)
digits_read n [] behind all h = end_read n behind h ∙ ap in_range (sym (alone n))
digits_read n (d ∷ ds) behind all h =
    ap (λ (b : Bool). if b then after_digits (n * 10 + (d - 48)) (ds ++ behind) else (if d == 46 then after_point n (ds ++ behind) else NoNumber)) (digit_test d all.0)
    ∙ digits_read (n * 10 + (d - 48)) ds behind all.1 h
    ∙ ap in_range (shift n (d - 48) (10 ^ length ds) (10 ^ suc (length ds)) (value_of ds) (pow-succ' 10 (length ds)))

within_read : (n : ℕ) → n ≤ max_number → in_range n ≡ Whole n
within_read n h = ap (λ (b : Bool). if b then Whole n else OutOfRange) (le-leb n max_number h)

text_read : (ds behind : List ℕ) → ds ≢ [] → AllByRecursion IsDigit ds → IsNoFraction behind → number_of (ds ++ behind) ≡ in_range (value_of ds)
text_read [] behind some all h = absurd (some refl)
text_read (d ∷ ds) behind some all h =
    ap (λ (b : Bool). if b then negated (unsigned (ds ++ behind)) else unsigned (d ∷ (ds ++ behind))) (no_sign d all.0)
    ∙ ap (λ (b : Bool). if b then after_digits (d - 48) (ds ++ behind) else NoNumber) (digit_test d all.0)
    ∙ digits_read (d - 48) ds behind all.1 h

pub spelled_read : (text : List ℕ) (n : ℕ) → SpellsNumber text n → number_of text ≡ Whole n
spelled_read text n s =
    ap number_of s.parts
    ∙ text_read s.digits s.behind s.some s.are_digits s.no_fraction
    ∙ ap in_range (sym s.value_is)
    ∙ within_read n s.within

-- ---- what is read is spelled

range_is : (n m : ℕ) → in_range n ≡ Whole m → (m ≡ n) × (m ≤ max_number)
range_is n m h = by (nat_le n max_number) refl h where
  by : (b : Bool) → nat_le n max_number ≡ b → (if b then Whole n else OutOfRange) ≡ Whole m → (m ≡ n) × (m ≤ max_number)
  by true e k = let same : m ≡ n = cc in (same, subst (λ (x : ℕ). x ≤ max_number) (sym same) (leb-true n max_number e))
  by false e k = absurd cc

-- digits whose value is added to that of others before them, and what is behind
record Rest (n : ℕ) (text : List ℕ) (m : ℕ) : Type 0 where
  digits : List ℕ
  behind : List ℕ
  parts : text ≡ digits ++ behind
  are_digits : AllByRecursion IsDigit digits
  no_fraction : IsNoFraction behind
  value_is : m ≡ n * 10 ^ length digits + value_of digits
  within : m ≤ max_number

none_left : (n : ℕ) (behind : List ℕ) (m : ℕ) → IsNoFraction behind → in_range n ≡ Whole m → Rest n behind m
none_left n behind m h k =
    let is = range_is n m k in
    record { digits = []; behind = behind; parts = refl; are_digits = tt; no_fraction = h; value_is = is.0 ∙ sym (alone n); within = is.1 }

point_is : (n b : ℕ) (zs : List ℕ) (m : ℕ) → b ≡ 46 → after_point n zs ≡ Whole m → Rest n (b ∷ zs) m
point_is n b [] m point h = absurd cc
point_is n b (z ∷ zs) m point h = by (list_all (λ c. c == 48) (z ∷ zs)) (list_all is_digit (z ∷ zs)) refl h
  where
    by : (x y : Bool) → list_all (λ c. c == 48) (z ∷ zs) ≡ x → by_zeros x y n ≡ Whole m → Rest n (b ∷ (z ∷ zs)) m
    by true y e k = none_left n (b ∷ (z ∷ zs)) m (point, (λ f. absurd cc), zeros_are (z ∷ zs) e) k
    by false true e k = absurd cc
    by false false e k = absurd cc

one_more : (n d : ℕ) (text : List ℕ) (m : ℕ) → is_digit d ≡ true → Rest (n * 10 + (d - 48)) text m → Rest n (d ∷ text) m
one_more n d text m is r = record {
  digits = d ∷ r.digits;
  behind = r.behind;
  parts = ap (λ (bs : List ℕ). d ∷ bs) r.parts;
  are_digits = (digit_is d is, r.are_digits);
  no_fraction = r.no_fraction;
  value_is = r.value_is ∙ shift n (d - 48) (10 ^ length r.digits) (10 ^ suc (length r.digits)) (value_of r.digits) (pow-succ' 10 (length r.digits));
  within = r.within;
}

rest_is : (n : ℕ) (text : List ℕ) (m : ℕ) → after_digits n text ≡ Whole m → Rest n text m
rest_is n [] m h = none_left n [] m tt h
rest_is n (d ∷ ds) m h = by (is_digit d) (d == 46) refl refl h (rest_is (n * 10 + (d - 48)) ds m)
  where
    by : (x y : Bool) → is_digit d ≡ x → (d == 46) ≡ y → (if x then after_digits (n * 10 + (d - 48)) ds else (if y then after_point n ds else NoNumber)) ≡ Whole m
        → (after_digits (n * 10 + (d - 48)) ds ≡ Whole m → Rest (n * 10 + (d - 48)) ds m) → Rest n (d ∷ ds) m
    by true y is p k later = one_more n d ds m is (later k)
    by false true is p k later = point_is n d ds m (eqb-true d 46 p) k
    by false false is p k later = absurd cc

negative_not : (x : Number) (m : ℕ) → negated x ≡ Whole m → ⊥
negative_not (Whole n) m h = absurd cc
negative_not OutOfRange m h = absurd cc
negative_not Fraction m h = absurd cc
negative_not NoNumber m h = absurd cc

pub read_spelled : (text : List ℕ) (n : ℕ) → number_of text ≡ Whole n → SpellsNumber text n
read_spelled [] n h = absurd cc
read_spelled (d ∷ ds) n h = by (d == 45) (is_digit d) refl h
  where
    by : (x y : Bool) → is_digit d ≡ y → (if x then negated (unsigned ds) else (if y then after_digits (d - 48) ds else NoNumber)) ≡ Whole n → SpellsNumber (d ∷ ds) n
    by true y is k = absurd (negative_not (unsigned ds) n k)
    by false true is k =
        let r = rest_is (d - 48) ds n k in
        record {
          digits = d ∷ r.digits;
          behind = r.behind;
          parts = ap (λ (bs : List ℕ). d ∷ bs) r.parts;
          some = λ e. absurd cc;
          are_digits = (digit_is d is, r.are_digits);
          no_fraction = r.no_fraction;
          value_is = r.value_is;
          within = r.within;
        }
    by false false is k = absurd cc
