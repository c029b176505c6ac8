-- The lines of a text that was written line by line, the words of a line, and the numbers of words.
use Rattle.std.proofs.Common.{◌≡◌, ℕ, ◌+◌, ◌*◌, ◌-◌, ◌/◌, ◌%◌, ◌^◌, ◌<◌, ◌≤◌, Bool, true, false, cond, eqb, List, [], ◌∷◌, ◌++◌, length, map, refl, sym, ap, subst, ◌∙◌, append_assoc, arith, Option, Some, None}
use Rattle.std.specs.Prelude.{not, codes, decimal, nat_le, option_map}
use Rattle.std.specs.List.{list_all, AllByRecursion}
use Rattle.std.proofs.lemmas.Bool.Decides.{nat_tests}
use Rattle.std.proofs.lemmas.List.{length-append}
use Rattle.std.proofs.lemmas.List.Folds.{list_all-append}
use Rattle.std.proofs.lemmas.Fmt.{decimal_by_steps}
use Rattle.sasfile_reader.specs.declared.number.Number.{Number}
use Rattle.sasfile_reader.specs.declared.number.Number.TheVariants.{Natural}
use Rattle.sasfile_reader.specs.Lines.{pieces, is_end_byte, before_end, trimmed, lines, filled, words, is_text_byte, is_digit, digits_after, number}
use Rattle.sasfile_reader.specs.SasTexts.{SpellsNumbers, SpellsCount}
use Rattle.sasfile_reader.proofs.Steps.{some_is}
use Rattle.sasfile_reader.proofs.Assignments.{and_left, and_right}
use Rattle.sasfile_writer.specs.Written.{text_of_lines, pair_line}
use Rattle.sasfile_writer.specs.TextOrder.{IsName}

-- ---- lines

abbrev pub is_other : ℕ → ℕ → Bool
is_other separator b = not (eqb b separator)

-- without a line feed, and with nothing at its end that is dropped
pub record IsLine (l : List ℕ) : Type 0 where
  pub free : list_all (is_other 10) l ≡ true
  pub whole : trimmed l ≡ l

not_by : (t : Bool) → not t ≡ true → t ≡ false
not_by true e = absurd cc
not_by false e = refl

-- a piece before a separator
piece_first : (separator : ℕ) (p rest : List ℕ) → list_all (is_other separator) p ≡ true → pieces separator (p ++ separator ∷ rest) ≡ p ∷ pieces separator rest
unfolding pieces
piece_first separator [] rest free = let same : eqb separator separator ≡ true = grind (arith, nat_tests) in rw same refl
piece_first separator (b ∷ bs) rest free =
    let here : eqb b separator ≡ false = not_by (eqb b separator) (and_left (is_other separator b) (list_all (is_other separator) bs) free) in
    rw (here, piece_first separator bs rest (and_right (is_other separator b) (list_all (is_other separator) bs) free)) refl

-- a piece behind which nothing stands
piece_alone : (separator b : ℕ) (bs : List ℕ) → list_all (is_other separator) (b ∷ bs) ≡ true → pieces separator (b ∷ bs) ≡ (b ∷ bs) ∷ []
unfolding pieces
piece_alone separator b [] free =
    let here : eqb b separator ≡ false = not_by (eqb b separator) (and_left (is_other separator b) true free) in
    rw here refl
piece_alone separator b (c ∷ cs) free =
    let here : eqb b separator ≡ false = not_by (eqb b separator) (and_left (is_other separator b) (list_all (is_other separator) (c ∷ cs)) free) in
    rw (here, piece_alone separator c cs (and_right (is_other separator b) (list_all (is_other separator) (c ∷ cs)) free)) refl

pub lines_again : (ls : List (List ℕ)) → AllByRecursion IsLine ls → lines (text_of_lines ls) ≡ ls
unfolding lines pieces
lines_again [] all = refl
lines_again (l ∷ ls) all =
    ap (λ (text : List ℕ). map trimmed (pieces 10 text)) (append_assoc l (10 ∷ []) (text_of_lines ls))
    ∙ ap (map trimmed) (piece_first 10 l (text_of_lines ls) all.0.free)
    ∙ ap (λ (x : List ℕ). x ∷ map trimmed (pieces 10 (text_of_lines ls))) all.0.whole ∙ ap (λ (xs : List (List ℕ)). l ∷ xs) (lines_again ls all.1)

-- ---- words

-- without blanks and other bytes below 33
pub record IsWord (w : List ℕ) : Type 0 where
  pub plain : list_all (nat_le 33) w ≡ true
  pub some : 0 < length w

other_plain : (separator b : ℕ) → separator ≤ 32 → nat_le 33 b ≡ true → is_other separator b ≡ true
other_plain separator b le e = let h : eqb b separator ≡ false = grind (arith, nat_tests) in rw h refl

pub plain_free : (separator : ℕ) (w : List ℕ) → separator ≤ 32 → list_all (nat_le 33) w ≡ true → list_all (is_other separator) w ≡ true
plain_free separator [] le plain = refl
plain_free separator (b ∷ bs) le plain =
    rw (other_plain separator b le (and_left (nat_le 33 b) (list_all (nat_le 33) bs) plain)) (plain_free separator bs le (and_right (nat_le 33 b) (list_all (nat_le 33) bs) plain))

words_first : (w rest : List ℕ) → IsWord w → words (w ++ 32 ∷ rest) ≡ w ∷ words rest
unfolding words filled
words_first [] rest word = absurd (let h = word.some in omega arith)
words_first (b ∷ bs) rest word = ap filled (piece_first 32 (b ∷ bs) rest (plain_free 32 (b ∷ bs) (omega arith) word.plain))

words_alone : (w : List ℕ) → IsWord w → words w ≡ w ∷ []
unfolding words filled
words_alone [] word = absurd (let h = word.some in omega arith)
words_alone (b ∷ bs) word = ap filled (piece_alone 32 b bs (plain_free 32 (b ∷ bs) (omega arith) word.plain))

not_end : (b : ℕ) → nat_le 33 b ≡ true → is_end_byte b ≡ false
not_end b e =
    let blank : eqb b 32 ≡ false = grind (arith, nat_tests) in
    let return : eqb b 13 ≡ false = grind (arith, nat_tests) in
    rw (blank, return) refl

plain_whole : (w : List ℕ) → list_all (nat_le 33) w ≡ true → trimmed w ≡ w
unfolding trimmed
plain_whole [] plain = refl
plain_whole (b ∷ []) plain = rw (not_end b (and_left (nat_le 33 b) true plain)) refl
plain_whole (b ∷ c ∷ cs) plain = ap (before_end b) (plain_whole (c ∷ cs) (and_right (nat_le 33 b) (list_all (nat_le 33) (c ∷ cs)) plain))

pub plain_line : (w : List ℕ) → list_all (nat_le 33) w ≡ true → IsLine w
plain_line w plain = record { free = plain_free 10 w (omega arith) plain; whole = plain_whole w plain }

-- what stands before something that is whole
before_whole : (w : List ℕ) (b : ℕ) (rest : List ℕ) → trimmed (b ∷ rest) ≡ b ∷ rest → trimmed (w ++ b ∷ rest) ≡ w ++ b ∷ rest
unfolding trimmed
before_whole [] b rest e = e
before_whole (c ∷ []) b rest e = ap (before_end c) e
before_whole (c ∷ d ∷ ds) b rest e = ap (before_end c) (before_whole (d ∷ ds) b rest e)

blank_whole : (l : List ℕ) → 0 < length l → trimmed l ≡ l → trimmed (32 ∷ l) ≡ 32 ∷ l
unfolding trimmed
blank_whole [] some e = absurd (omega arith)
blank_whole (b ∷ bs) some e = ap (before_end 32) e

-- a word, a blank and the rest of a line
pub longer_line : (w l : List ℕ) → IsWord w → 0 < length l → IsLine l → IsLine (w ++ 32 ∷ l)
longer_line w l word some line =
    record {
      free = list_all-append (is_other 10) w (32 ∷ l) ∙ rw (plain_free 10 w (omega arith) word.plain, line.free) refl;
      whole = before_whole w 32 l (blank_whole l some line.whole);
    }

-- ---- numbers

push_by : (t : Bool) (o p : Option ℕ) (k r : ℕ) → (o ≡ Some k → p ≡ Some r) → cond t o None ≡ Some k → cond t p None ≡ Some r
push_by true o p k r more e = more e
push_by false o p k r more e = absurd cc

digit_push : (m : ℕ) (ds : List ℕ) (k d : ℕ) → digits_after m ds ≡ Some k → is_digit d ≡ true → digits_after m (ds ++ d ∷ []) ≡ Some (k * 10 + (d - 48))
unfolding digits_after
digit_push m [] k d e is = rw is (ap (λ (x : ℕ). Some (x * 10 + (d - 48))) (some_is m k e))
digit_push m (c ∷ ds) k d e is =
    push_by (is_digit c) (digits_after (m * 10 + (c - 48)) ds) (digits_after (m * 10 + (c - 48)) (ds ++ d ∷ [])) k (k * 10 + (d - 48)) (λ h. digit_push (m * 10 + (c - 48)) ds k d h is) e

-- digits that spell the number
pub record IsNumeral (n : ℕ) (ds : List ℕ) : Type 0 where
  pub value : digits_after 0 ds ≡ Some n
  pub all : list_all is_digit ds ≡ true
  pub some : 0 < length ds

digit_is : (n : ℕ) → n < 10 → is_digit (48 + n) ≡ true
digit_is n lt = grind (arith, nat_tests)

numeral_one : (n : ℕ) → n < 10 → IsNumeral n ((48 + n) ∷ [])
unfolding digits_after
numeral_one n lt =
    let same : 0 * 10 + (48 + n - 48) ≡ n = omega arith in
    record { value = rw (digit_is n lt) (ap Some same); all = rw (digit_is n lt) refl; some = omega arith }

numeral_more : (n : ℕ) (ds : List ℕ) → 10 ≤ n → IsNumeral (n / 10) ds → IsNumeral n (ds ++ (48 + n % 10) ∷ [])
numeral_more n ds big front =
    let last : is_digit (48 + n % 10) ≡ true = digit_is (n % 10) (omega arith) in
    let same : n / 10 * 10 + (48 + n % 10 - 48) ≡ n = omega arith in
    record {
      value = digit_push 0 ds (n / 10) (48 + n % 10) front.value last ∙ ap Some same;
      all = list_all-append is_digit ds ((48 + n % 10) ∷ []) ∙ rw (front.all, last) refl;
      some = omega (arith, length-append ds ((48 + n % 10) ∷ []));
    }

pub decimal_numeral : (n : ℕ) → n < 2 ^ 64 → IsNumeral n (decimal n)
decimal_numeral n small = decimal_by_steps IsNumeral numeral_one numeral_more n small

no_minus : (b : ℕ) → is_digit b ≡ true → eqb b 45 ≡ false
no_minus b e = grind (arith, nat_tests)

numeral_number : (n : ℕ) (ds : List ℕ) → IsNumeral n ds → number ds ≡ Some (Natural n)
unfolding number
numeral_number n [] is = absurd (let h = is.some in omega arith)
numeral_number n (b ∷ bs) is = rw (no_minus b (and_left (is_digit b) (list_all is_digit bs) is.all)) (ap (option_map Natural) is.value)

pub number_again : (n : ℕ) → n < 2 ^ 64 → number (decimal n) ≡ Some (Natural n)
number_again n small = numeral_number n (decimal n) (decimal_numeral n small)

all_weaker : {X : Type 0} (p q : X → Bool) → ((x : X) → p x ≡ true → q x ≡ true) → (xs : List X) → list_all p xs ≡ true → list_all q xs ≡ true
all_weaker p q weaker [] e = refl
all_weaker p q weaker (x ∷ xs) e = rw (weaker x (and_left (p x) (list_all p xs) e)) (all_weaker p q weaker xs (and_right (p x) (list_all p xs) e))

digit_plain : (d : ℕ) → is_digit d ≡ true → nat_le 33 d ≡ true
digit_plain d e = grind (arith, nat_tests)

digit_text : (d : ℕ) → is_digit d ≡ true → is_text_byte d ≡ true
digit_text d e =
    let tab : eqb d 9 ≡ false = grind (arith, nat_tests) in
    let low : nat_le 32 d ≡ true = grind (arith, nat_tests) in
    let high : nat_le d 126 ≡ true = grind (arith, nat_tests) in
    rw (tab, low, high) refl

text_free : (b : ℕ) → is_text_byte b ≡ true → is_other 10 b ≡ true
text_free b e = let h : eqb b 10 ≡ false = grind (arith, nat_tests) in rw h refl

pub decimal_word : (n : ℕ) → n < 2 ^ 64 → IsWord (decimal n)
decimal_word n small =
    let is = decimal_numeral n small in
    record { plain = all_weaker is_digit (nat_le 33) digit_plain (decimal n) is.all; some = is.some }

pub decimal_line : (n : ℕ) → n < 2 ^ 64 → IsLine (decimal n)
decimal_line n small = plain_line (decimal n) (decimal_word n small).plain

pub decimal_text : (n : ℕ) → n < 2 ^ 64 → list_all is_text_byte (decimal n) ≡ true
decimal_text n small = all_weaker is_digit is_text_byte digit_text (decimal n) (decimal_numeral n small).all

pub name_line : (name : List ℕ) → IsName name → IsLine name
name_line name is = record { free = all_weaker is_text_byte (is_other 10) text_free name is.printed; whole = is.whole }

-- ---- lines of numbers

pub word_spelled : (w : List ℕ) (k : Number) → IsWord w → number w ≡ Some k → SpellsNumbers w (k ∷ [])
word_spelled w k word e = ap (map number) (words_alone w word) ∙ ap (λ (o : Option Number). o ∷ []) e

pub more_spelled : (w rest : List ℕ) (k : Number) (ks : List Number) → IsWord w → number w ≡ Some k → SpellsNumbers rest ks → SpellsNumbers (w ++ 32 ∷ rest) (k ∷ ks)
more_spelled w rest k ks word e more =
    ap (map number) (words_first w rest word) ∙ ap (λ (o : Option Number). o ∷ map number (words rest)) e ∙ ap (λ (os : List (Option Number)). Some k ∷ os) more

pub count_spelled : (n : ℕ) → n < 2 ^ 64 → SpellsCount (decimal n) n
count_spelled n small = word_spelled (decimal n) (Natural n) (decimal_word n small) (number_again n small)

pair_is : (m n : ℕ) → pair_line m n ≡ decimal m ++ 32 ∷ decimal n
pair_is m n = append_assoc (decimal m) (codes " ") (decimal n)

pub pair_spelled : (m n : ℕ) → m < 2 ^ 64 → n < 2 ^ 64 → SpellsNumbers (pair_line m n) (Natural m ∷ Natural n ∷ [])
pair_spelled m n low high =
    ap (λ (l : List ℕ). map number (words l)) (pair_is m n)
    ∙ more_spelled (decimal m) (decimal n) (Natural m) (Natural n ∷ []) (decimal_word m low) (number_again m low) (count_spelled n high)

pub pair_is_line : (m n : ℕ) → m < 2 ^ 64 → n < 2 ^ 64 → IsLine (pair_line m n)
pair_is_line m n low high =
    subst IsLine (sym (pair_is m n)) (longer_line (decimal m) (decimal n) (decimal_word m low) (decimal_word n high).some (decimal_line n high))
