-- The words of numbers.
use Rattle.std.proofs.Common.{◌≡◌, ℕ, ◌+◌, ◌*◌, ◌-◌, ◌^◌, ◌<◌, Bool, true, false, cond, eqb, List, [], ◌∷◌, length, get_or, Option, Some, None, inl, inr, refl, sym, ap, subst, ◌∙◌, arith, rules}
use Rattle.std.specs.Prelude.{◌&&◌, nat_le, decimal}
use Rattle.std.specs.List.{list_all}
use Rattle.std.proofs.lemmas.Bool.{cases_lt}
use Rattle.std.proofs.lemmas.Bool.Decides.{nat_tests}
use Rattle.std.proofs.lemmas.Str.Parse.{IsNumeralModel, numerals_by_fold}
use Rattle.std.proofs.lemmas.Fmt.{digits_decimal, digits_value-decimal, decimal-digits_value, decimal_nonempty, first_decimal, decimal_digit}
use Rattle.cert_text.specs.Reading.{is_digit, digits_after, number}
use Rattle.cert_text.proofs.Steps.{some_is, and_parts}

abbrev pub all_digits : List ℕ → Bool
all_digits [] = true
all_digits (d ∷ ds) = is_digit d && all_digits ds

abbrev pub value_after : ℕ → List ℕ → ℕ
value_after n [] = n
value_after n (d ∷ ds) = value_after (n * 10 + (d - 48)) ds

own : IsNumeralModel (λ ds. all_digits ds ≡ true) (value_after 0)
own = numerals_by_fold _ (search rules) value_after (search rules)

abbrev Reads : ℕ → List ℕ → ℕ → Type 0
Reads n ds m = (all_digits ds ≡ true) × (value_after n ds ≡ m)

some_by : (t rest : Bool) (o : Option ℕ) (v m : ℕ) → (o ≡ Some m → (rest ≡ true) × (v ≡ m)) → cond t o None ≡ Some m → ((t && rest) ≡ true) × (v ≡ m)
some_by true rest o v m h e = h e
some_by false rest o v m h e = absurd cc

pub digits_some : (n : ℕ) (ds : List ℕ) (m : ℕ) → digits_after n ds ≡ Some m → Reads n ds m
unfolding digits_after
digits_some n [] m e = (refl, some_is n m e)
digits_some n (d ∷ ds) m e =
    some_by (is_digit d) (all_digits ds) (digits_after (n * 10 + (d - 48)) ds) (value_after (n * 10 + (d - 48)) ds) m (digits_some (n * 10 + (d - 48)) ds m) e

are_by : (t rest : Bool) (o : Option ℕ) (v : ℕ) → (rest ≡ true → o ≡ Some v) → (t && rest) ≡ true → cond t o None ≡ Some v
are_by true rest o v h e = h e
are_by false rest o v h e = absurd cc

pub digits_are : (n : ℕ) (ds : List ℕ) → all_digits ds ≡ true → digits_after n ds ≡ Some (value_after n ds)
unfolding digits_after
digits_are n [] e = refl
digits_are n (d ∷ ds) e =
    are_by (is_digit d) (all_digits ds) (digits_after (n * 10 + (d - 48)) ds) (value_after (n * 10 + (d - 48)) ds) (digits_are (n * 10 + (d - 48)) ds) e

not_zero : (d : ℕ) → d ≡ 48 → eqb d 48 ≡ false → ⊥
not_zero d h e = grind (arith, nat_tests)

is_other : (d : ℕ) → (d ≡ 48 → ⊥) → eqb d 48 ≡ false
is_other d h = grind (arith, nat_tests)

spelled : (ds : List ℕ) (n : ℕ) → 0 < length ds → (get_or ds 0 0 ≡ 48 → length ds ≡ 1) → n < 2 ^ 64 → Reads 0 ds n → ds ≡ decimal n
spelled ds n some zero_alone small reads =
    sym (subst (λ (m : ℕ). decimal m ≡ ds) reads.1 (decimal-digits_value own ds reads.0 some zero_alone (omega (arith, reads.1))))

long_by : (t : Bool) (d : ℕ) (o : Option ℕ) (n : ℕ) → t ≡ eqb d 48 → cond t None o ≡ Some n → (eqb d 48 ≡ false) × (o ≡ Some n)
long_by true d o n is e = absurd cc
long_by false d o n is e = (sym is, e)

-- a word that is a number is that number in decimal
pub number_is : (w : List ℕ) (n : ℕ) → number w ≡ Some n → n < 2 ^ 64 → w ≡ decimal n
number_is [] n e small = absurd cc
number_is (d ∷ []) n e small = spelled (d ∷ []) n (omega arith) (λ h. refl) small (digits_some 0 (d ∷ []) n e)
number_is (d ∷ c ∷ ds) n e small =
    let parts = long_by (eqb d 48) d (digits_after 0 (d ∷ c ∷ ds)) n refl e in
    spelled (d ∷ c ∷ ds) n (omega arith) (λ h. absurd (not_zero d h parts.0)) small (digits_some 0 (d ∷ c ∷ ds) n parts.1)

again_by : (ds : List ℕ) (n : ℕ) → Reads 0 ds n → 0 < length ds → (get_or ds 0 0 ≡ 48 → length ds ≡ 1) → number ds ≡ Some n
again_by [] n reads some zero_alone = absurd (omega arith)
again_by (d ∷ []) n reads some zero_alone = digits_are 0 (d ∷ []) reads.0 ∙ ap Some reads.1
again_by (d ∷ c ∷ ds) n reads some zero_alone =
    rw (is_other d (λ h. absurd (let l = zero_alone h in omega arith))) (digits_are 0 (d ∷ c ∷ ds) reads.0 ∙ ap Some reads.1)

first_zero : (n : ℕ) → n < 2 ^ 64 → get_or (decimal n) 0 0 ≡ 48 → length (decimal n) ≡ 1
first_zero n small h = elim (cases_lt 0 n) [
  | inl lt ↦ absurd (let f = first_decimal n lt small in omega arith)
  | inr le ↦ (let z : n ≡ 0 = omega arith in ap (λ (m : ℕ). length (decimal m)) z ∙ ap (λ (w : List ℕ). length w) (decimal_digit 0 (omega arith)))
]

-- a number in decimal is that number
pub number_again : (n : ℕ) → n < 2 ^ 64 → number (decimal n) ≡ Some n
number_again n small = again_by (decimal n) n (digits_decimal own n small, digits_value-decimal own n small) (decimal_nonempty n small) (first_zero n small)

digit_is_plain : (d : ℕ) → is_digit d ≡ true → nat_le 33 d ≡ true
digit_is_plain d e = grind (arith, nat_tests)

digits_plain : (ds : List ℕ) → all_digits ds ≡ true → list_all (nat_le 33) ds ≡ true
digits_plain [] e = refl
digits_plain (d ∷ ds) e =
    let parts = and_parts (is_digit d) (all_digits ds) e in
    rw (digit_is_plain d parts.0) (digits_plain ds parts.1)

-- a number's word has no blank and no line feed
pub decimal_plain : (n : ℕ) → n < 2 ^ 64 → list_all (nat_le 33) (decimal n) ≡ true
decimal_plain n small = digits_plain (decimal n) (digits_decimal own n small)
