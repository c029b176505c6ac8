-- Numbers at the start of a text.
use Rattle.std.proofs.Common.{◌≡◌, ℕ, suc, ◌+◌, ◌*◌, ◌-◌, ◌<◌, ◌≤◌, Bool, true, false, cond, List, [], ◌∷◌, ◌++◌, length, get_or, get_or-drop, take, drop, Option, Some, None, sym, ap, ◌∙◌, arith}
use Rattle.std.proofs.Math.Seq.{take-suc}
use Rattle.cert_text.specs.Reading.{is_digit, digits_after, number_in}
use Rattle.cert_text.specs.Pieces.{pieces}
use Rattle.cert_text.specs.Leading.{BeginsWithNumber, IsFirstNumber}
use Rattle.cert_text.proofs.NumberLaws.{by_more, is_digit_by}
use Rattle.cert_text.proofs.PieceLaws.{split_whole, split_first}
use Rattle.cert_text.proofs.Steps.{some_is}

behind_digit : (b : Bool) (x y : Option ℕ) (v w : ℕ) → (x ≡ Some v → y ≡ Some w) → cond b x None ≡ Some v → cond b y None ≡ Some w
behind_digit true x y v w f e = f e
behind_digit false x y v w f e = absurd cc

digit_added : (ds : List ℕ) (n v d : ℕ) → digits_after n ds ≡ Some v → 48 ≤ d → d ≤ 57 → digits_after n (ds ++ d ∷ []) ≡ Some (v * 10 + (d - 48))
unfolding digits_after
digit_added [] n v d is low high =
    by_more (is_digit d) (Some (n * 10 + (d - 48))) (is_digit_by d low high) ∙ ap (λ (k : ℕ). Some (k * 10 + (d - 48))) (some_is n v is)
digit_added (e ∷ ds) n v d is low high =
    behind_digit (is_digit e) (digits_after (n * 10 + (e - 48)) ds) (digits_after (n * 10 + (e - 48)) (ds ++ d ∷ [])) v (v * 10 + (d - 48))
    (λ h. digit_added ds (n * 10 + (e - 48)) v d h low high) is

-- one more digit is read
pub one_more_digit : (bytes : List ℕ) (count value : ℕ) → count < length bytes → digits_after 0 (take count bytes) ≡ Some value → 48 ≤ get_or bytes count 0 → get_or bytes count 0 ≤ 57
    → digits_after 0 (take (count + 1) bytes) ≡ Some (value * 10 + (get_or bytes count 0 - 48))
one_more_digit bytes count value lt so_far low high =
    let one : count + 1 ≡ suc count = omega arith in
    ap (λ (k : ℕ). digits_after 0 (take k bytes)) one ∙ ap (digits_after 0) (take-suc bytes count 0 lt) ∙ digit_added (take count bytes) 0 value (get_or bytes count 0) so_far low high

-- the only word of a text
pub only_number : (bytes front back : List ℕ) (end n count : ℕ) → BeginsWithNumber end n count bytes → front ≡ take count bytes → length back + count ≡ length bytes → length back ≡ 0 → IsFirstNumber end n (pieces 32 bytes) []
only_number bytes front back end n count begins front-is lengths none = record {
  word = front;
  words_are = split_whole 32 bytes front back count begins.within begins.one_word front-is lengths none;
  number = ap (number_in 0 end) front-is ∙ begins.number;
}

-- a word of a text that has others behind it
pub number_before_others : (bytes front back rest : List ℕ) (end n count : ℕ) → BeginsWithNumber end n count bytes → front ≡ take count bytes → back ≡ drop count bytes → length back + count ≡ length bytes → 0 < length back
    → get_or back 0 0 ≡ 32 → rest ≡ drop 1 back → IsFirstNumber end n (pieces 32 bytes) (pieces 32 rest)
number_before_others bytes front back rest end n count begins front-is back-is lengths some separator rest-is =
    let at : get_or bytes count 0 ≡ 32 = sym (ap (λ (xs : List ℕ). get_or xs 0 0) back-is ∙ get_or-drop count bytes 0 0 ∙ ap (λ (k : ℕ). get_or bytes k 0) (omega arith)) ∙ separator in
    record {
      word = front;
      words_are = split_first 32 bytes front back rest count begins.one_word (λ lt. at) front-is back-is lengths some rest-is;
      number = ap (number_in 0 end) front-is ∙ begins.number;
    }
