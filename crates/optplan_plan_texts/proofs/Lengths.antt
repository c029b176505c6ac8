-- No byte is moved: texts, and their parts, keep their lengths.
use Rattle.std.proofs.Common.{◌≡◌, ℕ, suc, ◌+◌, Bool, true, false, cond, eqb, List, [], ◌∷◌, ◌++◌, length, Option, Some, None, refl, sym, ap, ◌∙◌, arith}
use Rattle.std.proofs.lemmas.List.{length-append, length-map}
use Rattle.optplan_plan_texts.specs.Bytes.{blanked_byte, blanked}
use Rattle.optplan_plan_texts.specs.Decimals.{Decimal}
use Rattle.optplan_plan_texts.specs.Lines.{lines, joined, is_limit, is_duration, stamp_of}
use Rattle.optplan_plan_texts.specs.Plain.{after_step, without_duration, without_stamp, ascends, plain_line, last_stamp, plain_lines, first_blanked, without_limit, without_stamps, plain}
use Rattle.optplan_plan_texts.proofs.TextLines.{joined_lines}

blanked_length : (bs : List ℕ) → length (blanked bs) ≡ length bs
blanked_length bs = length-map bs blanked_byte

blanked_if : (t : Bool) (bs : List ℕ) → length (cond t (blanked bs) bs) ≡ length bs
blanked_if true bs = blanked_length bs
blanked_if false bs = refl

duration_if : (t u : Bool) (bs : List ℕ) → length (without_duration bs) ≡ length bs → length (cond t (after_step bs) (cond u bs (without_duration bs))) ≡ length bs
duration_if true u bs h = blanked_if (is_duration bs) bs
duration_if false true bs h = refl
duration_if false false bs h = h

duration_length : (bs : List ℕ) → length (without_duration bs) ≡ length bs
duration_length [] = refl
duration_length (b ∷ bs) = ap (λ (n : ℕ). suc n) (duration_if (eqb b 41) (eqb b 59) bs (duration_length bs))

stamp_if : (t : Bool) (bs : List ℕ) → length (without_stamp bs) ≡ length bs → length (cond t (without_duration bs) (without_stamp bs)) ≡ length bs
stamp_if true bs h = duration_length bs
stamp_if false bs h = h

pub stamp_length : (bs : List ℕ) → length (without_stamp bs) ≡ length bs
stamp_length [] = refl
stamp_length (b ∷ bs) = ap (λ (n : ℕ). suc n) (stamp_if (eqb b 58) bs (stamp_length bs))

line_cond : (t : Bool) (l : List ℕ) → length (cond t (without_stamp l) l) ≡ length l
line_cond true l = stamp_length l
line_cond false l = refl

line_length : (before own : Option Decimal) (l : List ℕ) → length (plain_line before own l) ≡ length l
line_length before None l = refl
line_length before (Some stamp) l = line_cond (ascends before stamp) l

-- ---- texts

-- the lines have the same lengths, in turn
abbrev AreAsLong : List (List ℕ) → List (List ℕ) → Type 0
AreAsLong [] [] = Unit {0}
AreAsLong [] (m ∷ ms) = ⊥
AreAsLong (l ∷ ls) [] = ⊥
AreAsLong (l ∷ ls) (m ∷ ms) = (length l ≡ length m) × AreAsLong ls ms

joined_length : (ls ms : List (List ℕ)) → AreAsLong ls ms → length (joined ls) ≡ length (joined ms)
joined_length [] [] h = refl
joined_length [] (m ∷ ms) h = absurd h
joined_length (l ∷ ls) [] h = absurd h
joined_length (l ∷ []) (m ∷ []) h = h.0
joined_length (l ∷ []) (m ∷ y ∷ ms) h = absurd h.1
joined_length (l ∷ x ∷ ls) (m ∷ []) h = absurd h.1
joined_length (l ∷ x ∷ ls) (m ∷ y ∷ ms) h =
    let rest : length (joined (x ∷ ls)) ≡ length (joined (y ∷ ms)) = joined_length (x ∷ ls) (y ∷ ms) h.1 in
    omega (arith, h.0, rest, length-append l (10 ∷ joined (x ∷ ls)), length-append m (10 ∷ joined (y ∷ ms)))

same_lines : (ls : List (List ℕ)) → AreAsLong ls ls
same_lines [] = tt
same_lines (l ∷ ls) = (refl, same_lines ls)

first_lines : (ls : List (List ℕ)) → AreAsLong (first_blanked ls) ls
first_lines [] = tt
first_lines (l ∷ ls) = (blanked_if (is_limit l) l, same_lines ls)

stamp_lines : (before : Option Decimal) (ls : List (List ℕ)) → AreAsLong (plain_lines before ls) ls
stamp_lines before [] = tt
stamp_lines before (l ∷ ls) = (line_length before (stamp_of l) l, stamp_lines (last_stamp before (stamp_of l)) ls)

pub plain_length : (text : List ℕ) → length (plain text) ≡ length text
plain_length text =
    let first = without_limit text in
    joined_length (plain_lines None (lines first)) (lines first) (stamp_lines None (lines first))
    ∙ ap (λ (t : List ℕ). length t) (joined_lines first)
    ∙ joined_length (first_blanked (lines text)) (lines text) (first_lines (lines text))
    ∙ ap (λ (t : List ℕ). length t) (joined_lines text)
