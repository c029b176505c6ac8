-- The first line of a text, and the lines after it.
use Rattle.std.proofs.Common.{◌≡◌, ◌≢◌, ℕ, zero, suc, ◌+◌, ◌-◌, ◌<◌, ◌≤◌, Bool, true, false, cond, eqb, List, [], ◌∷◌, ◌++◌, length, get_or, take, drop, Option, Some, None, refl, sym, ap, ◌∙◌, arith, inl, inr, ◌⊎◌}
use Rattle.std.proofs.lemmas.Bool.{ne_eqb, eq-eqb, eqb-true, cases_lt}
use Rattle.std.proofs.lemmas.List.{take_all, drop_all, take_at, drop_at, append-nil, append_assoc, length_push, length-drop, length-take-le, take-append-drop}
use borrow.Rule.Slice.PartMut.{put_mid}
use Rattle.optplan_plan_texts.specs.Bytes.{blanked}
use Rattle.optplan_plan_texts.specs.Decimals.{Decimal}
use Rattle.optplan_plan_texts.specs.Lines.{into_first, lines, with_others, joined, stamp_of, is_limit}
use Rattle.optplan_plan_texts.specs.Plain.{ascends, plain_line, last_stamp, plain_lines, first_blanked, without_limit, without_stamp, without_stamps}
use Rattle.optplan_plan_texts.specs.Passes.{ascends_or, first_ascends, line_if, next_ascends, lines_if, text_if}

-- ---- the first line

pub lines_first : (n : ℕ) (bs : List ℕ) → n < length bs → ((k : ℕ) → k < n → get_or bs k 0 ≢ 10) → get_or bs n 0 ≡ 10 → lines bs ≡ take n bs ∷ lines (drop (suc n) bs)
lines_first n [] lt before at = absurd (omega arith)
lines_first zero (b ∷ bs) lt before at = let t : eqb b 10 ≡ true = eq-eqb b 10 at in rw t refl
lines_first (suc n) (b ∷ bs) lt before at =
    let t : eqb b 10 ≡ false = ne_eqb b 10 (before 0 (omega arith)) in
    rw (t, lines_first n bs (omega arith) (λ k h. before (suc k) (omega arith)) at) refl

pub lines_one : (bs : List ℕ) → ((k : ℕ) → k < length bs → get_or bs k 0 ≢ 10) → lines bs ≡ bs ∷ []
lines_one [] before = refl
lines_one (b ∷ bs) before =
    let t : eqb b 10 ≡ false = ne_eqb b 10 (before 0 (omega arith)) in
    rw (t, lines_one bs (λ k h. before (suc k) (omega arith))) refl

-- ---- texts

-- a list that is not empty
record IsFilled (ls : List (List ℕ)) : Type 0 where
  first : List ℕ
  others : List (List ℕ)
  are : ls ≡ first ∷ others

filled_into : (b : ℕ) (ls : List (List ℕ)) → IsFilled (into_first b ls)
filled_into b [] = record { first = b ∷ []; others = []; are = refl }
filled_into b (l ∷ ls) = record { first = b ∷ l; others = ls; are = refl }

filled_if : (t : Bool) (b : ℕ) (ls : List (List ℕ)) → IsFilled (cond t ([] ∷ ls) (into_first b ls))
filled_if true b ls = record { first = []; others = ls; are = refl }
filled_if false b ls = filled_into b ls

filled_lines : (bs : List ℕ) → IsFilled (lines bs)
filled_lines [] = record { first = []; others = []; are = refl }
filled_lines (b ∷ bs) = filled_if (eqb b 10) b (lines bs)

joined_filled : (l : List ℕ) (ls : List (List ℕ)) → IsFilled ls → joined (l ∷ ls) ≡ l ++ 10 ∷ joined ls
joined_filled l ls f = rw f.are refl

joined_into : (b : ℕ) (ls : List (List ℕ)) → joined (into_first b ls) ≡ b ∷ joined ls
joined_into b [] = refl
joined_into b (l ∷ []) = refl
joined_into b (l ∷ m ∷ ls) = refl

joined_if : (t : Bool) (b : ℕ) (bs : List ℕ) → eqb b 10 ≡ t → joined (lines bs) ≡ bs → joined (cond t ([] ∷ lines bs) (into_first b (lines bs))) ≡ b ∷ bs
joined_if true b bs e h =
    let feed : b ≡ 10 = eqb-true b 10 e in
    joined_filled [] (lines bs) (filled_lines bs) ∙ ap (λ (t : List ℕ). 10 ∷ t) h ∙ ap (λ (x : ℕ). x ∷ bs) (sym feed)
joined_if false b bs e h = joined_into b (lines bs) ∙ ap (λ (t : List ℕ). b ∷ t) h

pub joined_lines : (bs : List ℕ) → joined (lines bs) ≡ bs
joined_lines [] = refl
joined_lines (b ∷ bs) = joined_if (eqb b 10) b bs refl (joined_lines bs)

-- ---- the limit

abbrev first_if : Bool → List ℕ → List ℕ
first_if t l = cond t (blanked l) l

-- the text of a first line that is replaced
limit_joined : (l : List ℕ) (ls : List (List ℕ)) (rest : List ℕ) → joined ls ≡ rest → IsFilled ls → joined (first_blanked (l ∷ ls)) ≡ first_if (is_limit l) l ++ 10 ∷ rest
limit_joined l ls rest e f = joined_filled (first_if (is_limit l) l) ls f ∙ ap (λ (t : List ℕ). first_if (is_limit l) l ++ 10 ∷ t) e

at_feed : (n : ℕ) (bs : List ℕ) → n < length bs → get_or bs n 0 ≡ 10 → drop n bs ≡ 10 ∷ drop (suc n) bs
at_feed n [] lt at = absurd (omega arith)
at_feed zero (b ∷ bs) lt at = ap (λ (x : ℕ). x ∷ bs) at
at_feed (suc n) (b ∷ bs) lt at = at_feed n bs (omega arith) at

-- the length of the first line
pub record IsLineLength (bs : List ℕ) (n : ℕ) : Type 0 where
  pub within : n ≤ length bs
  pub before : (k : ℕ) → k < n → get_or bs k 0 ≢ 10
  pub found : n < length bs → get_or bs n 0 ≡ 10

limit_by : (bs : List ℕ) (n : ℕ) → IsLineLength bs n → (n < length bs) ⊎ (length bs ≤ n) → without_limit bs ≡ first_if (is_limit (take n bs)) (take n bs) ++ drop n bs
limit_by bs n h (inl lt) =
    ap (λ (ls : List (List ℕ)). joined (first_blanked ls)) (lines_first n bs lt h.before (h.found lt))
    ∙ limit_joined (take n bs) (lines (drop (suc n) bs)) (drop (suc n) bs) (joined_lines (drop (suc n) bs)) (filled_lines (drop (suc n) bs))
    ∙ ap (λ (t : List ℕ). first_if (is_limit (take n bs)) (take n bs) ++ t) (sym (at_feed n bs lt (h.found lt)))
limit_by bs n h (inr le) =
    ap (λ (ls : List (List ℕ)). joined (first_blanked ls)) (lines_one bs (λ k lt. h.before k (omega (arith, lt, h.within, le))))
    ∙ sym (append-nil (first_if (is_limit bs) bs))
    ∙ ap (λ (l : List ℕ). first_if (is_limit l) l ++ []) (sym (take_all n bs le))
    ∙ ap (λ (t : List ℕ). first_if (is_limit (take n bs)) (take n bs) ++ t) (sym (drop_all n bs le))

pub limit_is : (bs : List ℕ) (n : ℕ) → IsLineLength bs n → without_limit bs ≡ first_if (is_limit (take n bs)) (take n bs) ++ drop n bs
limit_is bs n h = limit_by bs n h (cases_lt n (length bs))

-- ---- the pass over the lines with stamps

pass_line : (before own : Option Decimal) (l : List ℕ) (ls : List (List ℕ))
    → plain_lines (last_stamp before own) ls ≡ lines_if (first_ascends (last_stamp before own) ls) ls
    → plain_line before own l ∷ plain_lines (last_stamp before own) ls
    ≡ line_if (ascends_or before own (first_ascends before ls)) own l ∷ lines_if (next_ascends (ascends_or before own (first_ascends before ls)) own ls) ls
pass_line before None l ls h = ap (λ (ms : List (List ℕ)). l ∷ ms) h
pass_line before (Some stamp) l ls h = ap (λ (ms : List (List ℕ)). plain_line before (Some stamp) l ∷ ms) h

pass : (before : Option Decimal) (ls : List (List ℕ)) → plain_lines before ls ≡ lines_if (first_ascends before ls) ls
pass before [] = refl
pass before (l ∷ ls) = pass_line before (stamp_of l) l ls (pass (last_stamp before (stamp_of l)) ls)

none_before : (ls : List (List ℕ)) → first_ascends None ls ≡ true
none_before [] = refl
none_before (l ∷ ls) = none_or (stamp_of l) (none_before ls)
  where
    none_or : {later : Bool} (own : Option Decimal) → later ≡ true → ascends_or None own later ≡ true
    none_or None h = h
    none_or (Some stamp) h = refl

pub stamps_are : (text : List ℕ) → text_if true text ≡ without_stamps text
stamps_are text = ap (λ (a : Bool). joined (lines_if a (lines text))) (sym (none_before (lines text))) ∙ sym (ap (λ (ls : List (List ℕ)). joined ls) (pass None (lines text)))

-- ---- one step of the pass

take_past : (at n : ℕ) (front ys : List ℕ) → length front ≡ at → take (at + n) (front ++ ys) ≡ front ++ take n ys
take_past at n [] ys e = ap (λ (k : ℕ). take (k + n) ys) (sym e) ∙ ap (λ (k : ℕ). take k ys) (omega arith)
take_past zero n (b ∷ bs) ys e = absurd (omega (arith, e))
take_past (suc at) n (b ∷ bs) ys e =
    ap (λ (k : ℕ). take k (b ∷ (bs ++ ys))) (suc_more at n) ∙ ap (λ (t : List ℕ). b ∷ t) (take_past at n bs ys (omega (arith, e)))
  where
    suc_more : (i j : ℕ) → suc i + j ≡ suc (i + j)
    suc_more i j = omega arith

drop_past : (at n : ℕ) (front ys : List ℕ) → length front ≡ at → drop (at + n) (front ++ ys) ≡ drop n ys
drop_past at n [] ys e = ap (λ (k : ℕ). drop (k + n) ys) (sym e) ∙ ap (λ (k : ℕ). drop k ys) (omega arith)
drop_past zero n (b ∷ bs) ys e = absurd (omega (arith, e))
drop_past (suc at) n (b ∷ bs) ys e =
    ap (λ (k : ℕ). drop k (b ∷ (bs ++ ys))) (suc_more at n) ∙ drop_past at n bs ys (omega (arith, e))
  where
    suc_more : (i j : ℕ) → suc i + j ≡ suc (i + j)
    suc_more i j = omega arith

filled_after : (a : Bool) (bs : List ℕ) → IsFilled (lines_if a (lines bs))
filled_after a bs = go (lines bs) (filled_lines bs)
  where
    go : (ls : List (List ℕ)) → IsFilled ls → IsFilled (lines_if a ls)
    go [] f = absurd cc
    go (l ∷ ls) f = record { first = line_if a (stamp_of l) l; others = lines_if (next_ascends a (stamp_of l) ls) ls; are = refl }

-- an empty first line has no stamp
next_after_feed : (a : Bool) (own : Option Decimal) (rest : List ℕ) → next_ascends a own ([] ∷ lines rest) ≡ next_ascends a own (lines rest)
next_after_feed a None rest = refl
next_after_feed a (Some stamp) rest = refl

next_at_end : (a : Bool) (own : Option Decimal) → next_ascends a own ([] ∷ []) ≡ next_ascends a own []
next_at_end a None = refl
next_at_end a (Some stamp) = refl

-- the text of which the first line is replaced, and then the rest
pub first_step : (a : Bool) (bs : List ℕ) (n : ℕ) (next : Bool) (line : List ℕ) → IsLineLength bs n → line ≡ line_if a (stamp_of (take n bs)) (take n bs)
    → next ≡ next_ascends a (stamp_of (take n bs)) (lines (drop n bs)) → length line ≡ n
    → text_if a bs ≡ take (n + 1) (line ++ drop n bs) ++ text_if next (drop (n + 1) (line ++ drop n bs))
first_step a bs n next line h line_is next_is long = by (cases_lt n (length bs))
  where
    by : (n < length bs) ⊎ (length bs ≤ n) → text_if a bs ≡ take (n + 1) (line ++ drop n bs) ++ text_if next (drop (n + 1) (line ++ drop n bs))
    by (inl lt) =
        let rest = drop (suc n) bs in
        let own = stamp_of (take n bs) in
        let after : drop n bs ≡ 10 ∷ rest = at_feed n bs lt (h.found lt) in
        let later : next ≡ next_ascends a own (lines rest) = next_is ∙ ap (λ (t : List ℕ). next_ascends a own (lines t)) after ∙ next_after_feed a own rest in
        ap (λ (ls : List (List ℕ)). joined (lines_if a ls)) (lines_first n bs lt h.before (h.found lt))
        ∙ joined_filled (line_if a own (take n bs)) (lines_if (next_ascends a own (lines rest)) (lines rest)) (filled_after (next_ascends a own (lines rest)) rest)
        ∙ ap (λ (l : List ℕ). l ++ 10 ∷ text_if (next_ascends a own (lines rest)) rest) (sym line_is)
        ∙ ap (λ (b : Bool). line ++ 10 ∷ text_if b rest) (sym later)
        ∙ sym (with_feed rest after)
      where
        with_feed : (rest : List ℕ) → drop n bs ≡ 10 ∷ rest → take (n + 1) (line ++ drop n bs) ++ text_if next (drop (n + 1) (line ++ drop n bs)) ≡ line ++ 10 ∷ text_if next rest
        with_feed rest after =
            let whole : line ++ drop n bs ≡ (line ++ 10 ∷ []) ++ rest = ap (λ (t : List ℕ). line ++ t) after ∙ sym (append_assoc line (10 ∷ []) rest) in
            let longer : length (line ++ 10 ∷ []) ≡ n + 1 = length_push line 10 ∙ ap (λ (k : ℕ). k + 1) long in
            ap (λ (t : List ℕ). take (n + 1) t ++ text_if next (drop (n + 1) t)) whole
            ∙ ap (λ (t : List ℕ). t ++ text_if next (drop (n + 1) ((line ++ 10 ∷ []) ++ rest))) (take_at (line ++ 10 ∷ []) rest (n + 1) longer)
            ∙ ap (λ (t : List ℕ). (line ++ 10 ∷ []) ++ text_if next t) (drop_at (line ++ 10 ∷ []) rest (n + 1) longer)
            ∙ append_assoc line (10 ∷ []) (text_if next rest)
    by (inr le) =
        ap (λ (ls : List (List ℕ)). joined (lines_if a ls)) (lines_one bs (λ k lt. h.before k (omega (arith, lt, h.within, le))))
        ∙ ap (λ (l : List ℕ). line_if a (stamp_of l) l) (sym (take_all n bs le))
        ∙ sym line_is
        ∙ sym (ap (λ (t : List ℕ). take (n + 1) (line ++ t) ++ text_if next (drop (n + 1) (line ++ t))) (drop_all n bs le)
        ∙ ap (λ (t : List ℕ). take (n + 1) t ++ text_if next (drop (n + 1) t)) (append-nil line)
        ∙ ap (λ (t : List ℕ). t ++ text_if next (drop (n + 1) line)) (take_all (n + 1) line (omega (arith, long)))
        ∙ ap (λ (t : List ℕ). line ++ text_if next t) (drop_all (n + 1) line (omega (arith, long)))
        ∙ append-nil line)

-- as the code makes the first line
pub first_blanked_step : (a : Bool) (bs : List ℕ) (n : ℕ) (blanks next : Bool) (line : List ℕ) → IsLineLength bs n
    → line_if a (stamp_of (take n bs)) (take n bs) ≡ cond blanks (without_stamp (take n bs)) (take n bs) → blanks ≡ true → line ≡ without_stamp (take n bs)
    → next ≡ next_ascends a (stamp_of (take n bs)) (lines (drop n bs)) → length line ≡ n
    → text_if a bs ≡ take (n + 1) (line ++ drop n bs) ++ text_if next (drop (n + 1) (line ++ drop n bs))
first_blanked_step a bs n blanks next line h decided blanked_is line_is next_is long =
    first_step a bs n next line h (line_is ∙ sym (decided ∙ ap (λ (t : Bool). cond t (without_stamp (take n bs)) (take n bs)) blanked_is)) next_is long

pub first_same_step : (a : Bool) (bs : List ℕ) (n : ℕ) (blanks next : Bool) → IsLineLength bs n
    → line_if a (stamp_of (take n bs)) (take n bs) ≡ cond blanks (without_stamp (take n bs)) (take n bs) → blanks ≡ false
    → next ≡ next_ascends a (stamp_of (take n bs)) (lines (drop n bs)) → text_if a bs ≡ take (n + 1) bs ++ text_if next (drop (n + 1) bs)
first_same_step a bs n blanks next h decided same_is next_is =
    first_step a bs n next (take n bs) h (sym (decided ∙ ap (λ (t : Bool). cond t (without_stamp (take n bs)) (take n bs)) same_is)) next_is (length-take-le n bs h.within)
    ∙ ap (λ (t : List ℕ). take (n + 1) t ++ text_if next (drop (n + 1) t)) (take-append-drop n bs)

-- ---- as the code splits a text at the end of its first line

nil_of : (bs : List ℕ) → length bs < 1 → bs ≡ []
nil_of [] h = refl
nil_of (b ∷ bs) h = absurd (omega arith)

pub only_line : (bs : List ℕ) (n : ℕ) (line rest : List ℕ) → IsLineLength bs n → line ≡ take n bs → rest ≡ drop n bs → length rest < 1
    → (lines bs ≡ line ∷ lines rest) ⊎ ((lines bs ≡ line ∷ []) × (rest ≡ []))
only_line bs n line rest h line_is rest_is short =
    let le : length bs ≤ n = omega (arith, length-drop n bs, ap length rest_is, short) in
    inr (lines_one bs (λ k lt. h.before k (omega (arith, lt, le))) ∙ ap (λ (l : List ℕ). l ∷ []) (sym (line_is ∙ take_all n bs le)), nil_of rest short)

drop_one : (n : ℕ) (bs : List ℕ) → drop 1 (drop n bs) ≡ drop (suc n) bs
drop_one zero [] = refl
drop_one zero (b ∷ bs) = refl
drop_one (suc n) [] = refl
drop_one (suc n) (b ∷ bs) = drop_one n bs

pub line_and_others : (bs : List ℕ) (n : ℕ) (line rest : List ℕ) → IsLineLength bs n → line ≡ take n bs → rest ≡ drop n bs → 1 ≤ length rest
    → (lines bs ≡ line ∷ lines (take (length rest - 1) (drop 1 rest))) ⊎ ((lines bs ≡ line ∷ []) × (take (length rest - 1) (drop 1 rest) ≡ []))
line_and_others bs n line rest h line_is rest_is long =
    let lt : n < length bs = omega (arith, length-drop n bs, ap length rest_is, long) in
    let whole : take (length rest - 1) (drop 1 rest) ≡ drop (suc n) bs =
    take_all (length rest - 1) (drop 1 rest) (omega (arith, length-drop 1 rest)) ∙ ap (λ (t : List ℕ). drop 1 t) rest_is ∙ drop_one n bs in
    inl (lines_first n bs lt h.before (h.found lt) ∙ ap (λ (l : List ℕ). l ∷ lines (drop (suc n) bs)) (sym line_is) ∙ ap (λ (t : List ℕ). line ∷ lines t) (sym whole))

-- ---- the first stamp of a text

no_stamp : (before : Option Decimal) (line : List ℕ) (ls : List (List ℕ)) → stamp_of line ≡ None → first_ascends before (line ∷ ls) ≡ first_ascends before ls
no_stamp before line ls none = ap (λ (s : Option Decimal). ascends_or before s (first_ascends before ls)) none

pub past_line : (before : Option Decimal) (text line rest : List ℕ) → (lines text ≡ line ∷ lines rest) ⊎ ((lines text ≡ line ∷ []) × (rest ≡ [])) → stamp_of line ≡ None
    → first_ascends before (lines rest) ≡ first_ascends before (lines text)
past_line before text line rest (inl first) none = sym (ap (λ (ls : List (List ℕ)). first_ascends before ls) first ∙ no_stamp before line (lines rest) none)
past_line before text line rest (inr (first, end)) none =
    ap (λ (t : List ℕ). first_ascends before (lines t)) end ∙ sym (ap (λ (ls : List (List ℕ)). first_ascends before ls) first ∙ no_stamp before line [] none)

with_stamp : (before : Option Decimal) (stamp : Decimal) (line : List ℕ) (ls : List (List ℕ)) → stamp_of line ≡ Some stamp → first_ascends before (line ∷ ls) ≡ ascends before stamp
with_stamp before stamp line ls some = ap (λ (s : Option Decimal). ascends_or before s (first_ascends before ls)) some

pub at_stamp : (before : Option Decimal) (stamp : Decimal) (text line rest : List ℕ) → (lines text ≡ line ∷ lines rest) ⊎ ((lines text ≡ line ∷ []) × (rest ≡ [])) → stamp_of line ≡ Some stamp
    → ascends before stamp ≡ first_ascends before (lines text)
at_stamp before stamp text line rest (inl first) some = sym (ap (λ (ls : List (List ℕ)). first_ascends before ls) first ∙ with_stamp before stamp line (lines rest) some)
at_stamp before stamp text line rest (inr (first, end)) some = sym (ap (λ (ls : List (List ℕ)). first_ascends before ls) first ∙ with_stamp before stamp line [] some)

-- ---- the loop

pub loop_step : (at n : ℕ) (a next : Bool) (xs ys whole : List ℕ) → at < length xs → length ys ≡ length xs - at
    → text_if a (drop at xs) ≡ take (n + 1) ys ++ text_if next (drop (n + 1) ys) → take at xs ++ text_if a (drop at xs) ≡ whole
    → take (at + (n + 1)) (put_mid at (length xs - at) xs ys) ++ text_if next (drop (at + (n + 1)) (put_mid at (length xs - at) xs ys)) ≡ whole
loop_step at n a next xs ys whole lt long step so_far =
    let front = take at xs in
    let front_long : length front ≡ at = length-take-le at xs (omega (arith, lt)) in
    let whole_is : put_mid at (length xs - at) xs ys ≡ front ++ ys =
    ap (λ (t : List ℕ). front ++ (ys ++ t)) (drop_all (length xs - at) (drop at xs) (omega (arith, length-drop at xs))) ∙ ap (λ (t : List ℕ). front ++ t) (append-nil ys) in
    ap (λ (t : List ℕ). take (at + (n + 1)) t ++ text_if next (drop (at + (n + 1)) t)) whole_is
    ∙ ap (λ (t : List ℕ). t ++ text_if next (drop (at + (n + 1)) (front ++ ys))) (take_past at (n + 1) front ys front_long)
    ∙ ap (λ (t : List ℕ). (front ++ take (n + 1) ys) ++ text_if next t) (drop_past at (n + 1) front ys front_long)
    ∙ append_assoc front (take (n + 1) ys) (text_if next (drop (n + 1) ys))
    ∙ ap (λ (t : List ℕ). front ++ t) (sym step)
    ∙ so_far

pub loop_done : (at : ℕ) (a : Bool) (xs text : List ℕ) → length xs ≤ at → take at xs ++ text_if a (drop at xs) ≡ text_if true text → xs ≡ without_stamps text
loop_done at a xs text le done =
    sym (append-nil xs)
    ∙ ap (λ (t : List ℕ). t ++ []) (sym (take_all at xs le))
    ∙ ap (λ (t : List ℕ). take at xs ++ text_if a t) (sym (drop_all at xs le))
    ∙ done
    ∙ stamps_are text
