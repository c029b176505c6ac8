-- The last line of a plan's text is a comment.
use Rattle.std.proofs.Common.{◌≡◌, ◌≢◌, ℕ, ◌+◌, ◌*◌, ◌-◌, ◌^◌, ◌<◌, Bool, true, false, inl, inr, List, [], ◌∷◌, ◌++◌, refl, arith, rules}
use Rattle.std.specs.Prelude.{codes, decimal, nat_le, ◌&&◌, ◌==◌, not}
use Rattle.std.specs.List.{list_all}
use Rattle.std.proofs.lemmas.Bool.{and_parts}
use Rattle.std.proofs.lemmas.Bool.Decides.{nat_tests}
use Rattle.std.proofs.lemmas.Str.Parse.{IsNumeralModel, numerals_by_fold}
use Rattle.std.proofs.lemmas.Fmt.{digits_decimal}
use Rattle.sexp.specs.Grammar.{IsGap, IsComment}
use Rattle.validate.specs.Written.{cost_kind}

-- no line feed
abbrev is_inline : ℕ → Bool
is_inline b = not (b == 10)

other_by : (b : ℕ) → is_inline b ≡ true → b ≢ 10
other_by b e is = grind (arith, nat_tests)

-- a comment goes on over bytes that are no line feeds
comment_over : (bs rest : List ℕ) → list_all is_inline bs ≡ true → IsComment true rest → IsComment true (bs ++ rest)
comment_over [] rest e h = h
comment_over (b ∷ bs) rest e h = let parts = and_parts (is_inline b) (list_all is_inline bs) e in inr (other_by b parts.0, comment_over bs rest parts.1 h)

-- ---- digits

abbrev all_digits : List ℕ → Bool
all_digits [] = true
all_digits (d ∷ ds) = (nat_le 48 d && nat_le d 57) && all_digits ds

abbrev value_after : ℕ → List ℕ → ℕ
value_after n [] = n
value_after n (d ∷ ds) = value_after (n * 10 + (d - 48)) ds

own : IsNumeralModel (λ ds. all_digits ds ≡ true) (value_after 0)
own = numerals_by_fold _ (search rules) value_after (search rules)

digit_inline : (d : ℕ) → (nat_le 48 d && nat_le d 57) ≡ true → is_inline d ≡ true
digit_inline d e = grind (arith, nat_tests)

both : (a b : Bool) → a ≡ true → b ≡ true → (a && b) ≡ true
both a b e f = rw (e, f) refl

digits_inline : (ds : List ℕ) → all_digits ds ≡ true → list_all is_inline ds ≡ true
digits_inline [] e = refl
digits_inline (d ∷ ds) e =
    let parts = and_parts (nat_le 48 d && nat_le d 57) (all_digits ds) e in
    both (is_inline d) (list_all is_inline ds) (digit_inline d parts.0) (digits_inline ds parts.1)

decimal_inline : (n : ℕ) → n < 2 ^ 64 → list_all is_inline (decimal n) ≡ true
decimal_inline n room = digits_inline (decimal n) (digits_decimal own n room)

-- ---- the last line

kind_comment : (unit : Bool) → IsComment true (cost_kind unit)
kind_comment true = comment_over (codes " (unit cost)") (10 ∷ []) refl (inl (refl, tt))
kind_comment false = comment_over (codes " (general cost)") (10 ∷ []) refl (inl (refl, tt))

-- the line with the cost
abbrev pub cost_line : ℕ → Bool → List ℕ
cost_line cost unit = codes "; cost = " ++ decimal cost ++ cost_kind unit

pub cost_gap : (cost : ℕ) (unit : Bool) → cost < 2 ^ 64 → IsGap true (cost_line cost unit)
cost_gap cost unit room = inr (refl, comment_over (codes " cost = ") (decimal cost ++ cost_kind unit) refl (comment_over (decimal cost) (cost_kind unit) (decimal_inline cost room) (kind_comment unit)))
