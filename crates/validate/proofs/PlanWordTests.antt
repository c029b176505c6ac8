-- The tests of plan words decide what plan words are.
use Rattle.std.proofs.Common.{◌≡◌, ℕ, Bool, true, false, List, [], ◌∷◌, length, refl, ap, sym, ◌∙◌, arith}
use Rattle.std.specs.Prelude.{◌&&◌, ◌==◌, nat_lt, String}
use Rattle.std.specs.List.{list_all, AllByRecursion}
use Rattle.std.specs.Char.{to_ascii_lowercase}
use Rattle.std.specs.String.{string_bytes}
use Rattle.std.proofs.lemmas.Bool.{and_parts}
use Rattle.std.proofs.lemmas.Bool.Decides.{nat_tests}
use Rattle.sexp.specs.declared.byte_kind.ByteKind.{ByteKind}
use Rattle.sexp.specs.declared.byte_kind.ByteKind.TheVariants.{Blank, Semicolon, Open, Close, Letter, Strange}
use Rattle.sexp.specs.Bytes.{kind}
use Rattle.pddl_names.specs.Names.{texts_of}
use Rattle.validate.specs.PlanWords.{IsPlanByte, IsPlanWord, IsPlanStep, is_letter, is_plan_byte, is_plan_word, are_plan_words}

both : (a b : Bool) → a ≡ true → b ≡ true → (a && b) ≡ true
both a b e f = rw (e, f) refl

letter_by : (k : ByteKind) → is_letter k ≡ true → k ≡ Letter
letter_by Blank e = absurd cc
letter_by Semicolon e = absurd cc
letter_by Open e = absurd cc
letter_by Close e = absurd cc
letter_by Letter e = refl
letter_by Strange e = absurd cc

same_by : (a b : ℕ) → (a == b) ≡ true → a ≡ b
same_by a b e = grind (arith, nat_tests)

same_is : (a b : ℕ) → a ≡ b → (a == b) ≡ true
same_is a b e = grind (arith, nat_tests)

byte_by : (b : ℕ) → is_plan_byte b ≡ true → IsPlanByte b
unfolding is_plan_byte
byte_by b e = let parts = and_parts (is_letter (kind b)) (to_ascii_lowercase b == b) e in (letter_by (kind b) parts.0, same_by (to_ascii_lowercase b) b parts.1)

byte_is : (b : ℕ) → IsPlanByte b → is_plan_byte b ≡ true
unfolding is_plan_byte
byte_is b h = both (is_letter (kind b)) (to_ascii_lowercase b == b) (ap is_letter h.0) (same_is (to_ascii_lowercase b) b h.1)

bytes_by : (bs : List ℕ) → list_all is_plan_byte bs ≡ true → AllByRecursion IsPlanByte bs
bytes_by [] e = tt
bytes_by (b ∷ bs) e = let parts = and_parts (is_plan_byte b) (list_all is_plan_byte bs) e in (byte_by b parts.0, bytes_by bs parts.1)

bytes_are : (bs : List ℕ) → AllByRecursion IsPlanByte bs → list_all is_plan_byte bs ≡ true
bytes_are [] h = refl
bytes_are (b ∷ bs) h = both (is_plan_byte b) (list_all is_plan_byte bs) (byte_is b h.0) (bytes_are bs h.1)

-- a word with a first byte is not empty
filled : (b : ℕ) (bs : List ℕ) → nat_lt 0 (length (b ∷ bs)) ≡ true
filled b bs = grind (arith, nat_tests)

word_by : (w : List ℕ) → is_plan_word w ≡ true → IsPlanWord w
word_by [] e = absurd cc
word_by (b ∷ bs) e = let parts = and_parts (nat_lt 0 (length (b ∷ bs))) (list_all is_plan_byte (b ∷ bs)) e in record { some = λ is. absurd cc; bytes = bytes_by (b ∷ bs) parts.1 }

word_is : (w : List ℕ) → IsPlanWord w → is_plan_word w ≡ true
word_is [] h = absurd (h.some refl)
word_is (b ∷ bs) h = both (nat_lt 0 (length (b ∷ bs))) (list_all is_plan_byte (b ∷ bs)) (filled b bs) (bytes_are (b ∷ bs) h.bytes)

words_by : {Z : Type 0} (ws : List (String Z)) → are_plan_words ws ≡ true → AllByRecursion IsPlanWord (texts_of ws)
words_by [] e = tt
words_by (w ∷ ws) e = let parts = and_parts (is_plan_word (string_bytes w)) (are_plan_words ws) e in (word_by (string_bytes w) parts.0, words_by ws parts.1)

words_are : {Z : Type 0} (ws : List (String Z)) → AllByRecursion IsPlanWord (texts_of ws) → are_plan_words ws ≡ true
words_are [] h = refl
words_are (w ∷ ws) h = both (is_plan_word (string_bytes w)) (are_plan_words ws) (word_is (string_bytes w) h.0) (words_are ws h.1)

-- the tests hold exactly for a plan step
pub step_by : {Z : Type 0} (name : List ℕ) (arguments : List (String Z)) → (is_plan_word name && are_plan_words arguments) ≡ true → IsPlanStep (record { name = name; arguments = texts_of arguments })
step_by name arguments e = let parts = and_parts (is_plan_word name) (are_plan_words arguments) e in record { name = word_by name parts.0; arguments = words_by arguments parts.1 }

pub step_is : {Z : Type 0} (name : List ℕ) (arguments : List (String Z)) → IsPlanStep (record { name = name; arguments = texts_of arguments }) → (is_plan_word name && are_plan_words arguments) ≡ true
step_is name arguments h = both (is_plan_word name) (are_plan_words arguments) (word_is name h.name) (words_are arguments h.arguments)

-- a test that failed
pub no_step_by : {Z : Type 0} (name : List ℕ) (arguments : List (String Z)) (r : Bool) → r ≡ (is_plan_word name && are_plan_words arguments) → r ≡ false → IsPlanStep (record { name = name; arguments = texts_of arguments }) → ⊥
no_step_by name arguments r is fails h = let e : false ≡ true = sym fails ∙ is ∙ step_is name arguments h in absurd cc
