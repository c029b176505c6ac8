-- The first piece of a text, the first word of a line, and the end of a line.
use Rattle.std.proofs.Common.{◌≡◌, ◌≢◌, ℕ, zero, suc, ◌+◌, ◌-◌, ◌^◌, ◌<◌, ◌≤◌, Bool, true, false, cond, eqb, List, [], ◌∷◌, ◌++◌, length, get_or, take, drop, map, refl, sym, ap, ◌∙◌, arith}
use Rattle.std.proofs.lemmas.Bool.{ne_eqb, eq-eqb}
use Rattle.std.proofs.lemmas.List.{take_all, take_more, length-drop}
use Rattle.std.specs.Prelude.{Ok, Err}
use Rattle.sasfile_reader.specs.declared.fault.SasFault.TheVariants as fault
use Rattle.sasfile_reader.specs.Reading.{line_at}
use Rattle.sasfile_reader.specs.Lines.{into_first, pieces, is_end_byte, before_end, trimmed, lines, filled, words}

-- the piece before the first separator
pub pieces_first : (s n : ℕ) (bs : List ℕ) → n < length bs → ((k : ℕ) → k < n → get_or bs k 0 ≢ s) → get_or bs n 0 ≡ s → pieces s bs ≡ take n bs ∷ pieces s (drop (suc n) bs)
unfolding pieces
pieces_first s n [] lt before at = absurd (omega arith)
pieces_first s zero (b ∷ bs) lt before at = let t : eqb b s ≡ true = eq-eqb b s at in rw t refl
pieces_first s (suc n) (b ∷ bs) lt before at =
    let t : eqb b s ≡ false = ne_eqb b s (before 0 (omega arith)) in
    rw (t, pieces_first s n bs (omega arith) (λ k h. before (suc k) (omega arith)) at) refl

-- bytes without a separator
pub pieces_one : (s : ℕ) (bs : List ℕ) → bs ≢ [] → ((k : ℕ) → k < length bs → get_or bs k 0 ≢ s) → pieces s bs ≡ bs ∷ []
unfolding pieces
pieces_one s [] ne before = absurd (ne refl)
pieces_one s (b ∷ []) ne before = let t : eqb b s ≡ false = ne_eqb b s (before 0 (omega arith)) in rw t refl
pieces_one s (b ∷ c ∷ bs) ne before =
    let t : eqb b s ≡ false = ne_eqb b s (before 0 (omega arith)) in
    rw (t, pieces_one s (c ∷ bs) (λ e. absurd cc) (λ k h. before (suc k) (omega arith))) refl

pub pieces_none : (s : ℕ) → pieces s [] ≡ []
unfolding pieces
pieces_none s = refl

nil_of : (bs : List ℕ) → length bs < 1 → bs ≡ []
nil_of [] h = refl
nil_of (b ∷ bs) h = absurd (omega arith)

drop_all : (n : ℕ) (bs : List ℕ) → length bs ≤ n → drop n bs ≡ []
drop_all zero [] h = refl
drop_all zero (b ∷ bs) h = absurd (omega arith)
drop_all (suc n) [] h = refl
drop_all (suc n) (b ∷ bs) h = drop_all n bs (omega arith)

drop_one : (n : ℕ) (bs : List ℕ) → drop 1 (drop n bs) ≡ drop (suc n) bs
drop_one zero [] = refl
drop_one zero (b ∷ bs) = refl
drop_one (suc n) [] = refl
drop_one (suc n) (b ∷ bs) = drop_one n bs

-- as the code splits them
pub split_last : (s n : ℕ) (bs front back : List ℕ) → bs ≢ [] → n ≤ length bs → ((k : ℕ) → k < n → get_or bs k 0 ≢ s) → front ≡ take n bs → back ≡ drop n bs → length back < 1
    → pieces s bs ≡ front ∷ pieces s back
split_last s n bs front back ne le before f b short =
    let len : length bs ≤ n = omega (arith, length-drop n bs, ap length b) in
    let e : pieces s bs ≡ bs ∷ [] = pieces_one s bs ne (λ k h. before k (omega arith)) in
    rw (f, nil_of back short, pieces_none s, take_all n bs len) e

pub split_first : (s n : ℕ) (bs front back : List ℕ) → n ≤ length bs → ((k : ℕ) → k < n → get_or bs k 0 ≢ s) → (n < length bs → get_or bs n 0 ≡ s) → front ≡ take n bs → back ≡ drop n bs → 1 ≤ length back
    → pieces s bs ≡ front ∷ pieces s (take (length back - 1) (drop 1 back))
split_first s n bs front back le before at f b long =
    let len : n < length bs = omega (arith, length-drop n bs, ap length b) in
    let whole : take (length back - 1) (drop 1 back) ≡ drop 1 back = take_all (length back - 1) (drop 1 back) (omega (arith, length-drop 1 back)) in
    rw (whole, f, b, drop_one n bs) (pieces_first s n bs len before (at len))

-- ---- the end of a line

trimmed_end : (xs : List ℕ) (b : ℕ) → is_end_byte b ≡ true → trimmed (xs ++ b ∷ []) ≡ trimmed xs
unfolding trimmed
trimmed_end [] b e = rw e refl
trimmed_end (x ∷ xs) b e = rw (trimmed_end xs b e) refl

before_some : (x b : ℕ) (xs : List ℕ) → before_end x (xs ++ b ∷ []) ≡ x ∷ (xs ++ b ∷ [])
before_some x b [] = refl
before_some x b (y ∷ ys) = refl

trimmed_kept : (xs : List ℕ) (b : ℕ) → is_end_byte b ≡ false → trimmed (xs ++ b ∷ []) ≡ xs ++ b ∷ []
unfolding trimmed
trimmed_kept [] b e = rw e refl
trimmed_kept (x ∷ xs) b e = rw (trimmed_kept xs b e) (before_some x b xs)

pub trimmed_less : (bs : List ℕ) (n : ℕ) → 0 < n → n ≤ length bs → is_end_byte (get_or bs (n - 1) 0) ≡ true → trimmed (take n bs) ≡ trimmed bs → trimmed (take (n - 1) bs) ≡ trimmed bs
trimmed_less bs n pos le e so_far =
    let k : n - 1 + 1 ≡ n = omega arith in
    let split : take n bs ≡ take (n - 1) bs ++ get_or bs (n - 1) 0 ∷ [] = ap (λ (m : ℕ). take m bs) (sym k) ∙ take_more bs (n - 1) 0 (omega arith) in
    sym (trimmed_end (take (n - 1) bs) (get_or bs (n - 1) 0) e) ∙ ap trimmed (sym split) ∙ so_far

pub trimmed_done : (bs : List ℕ) (n : ℕ) → 0 < n → n ≤ length bs → is_end_byte (get_or bs (n - 1) 0) ≡ false → trimmed (take n bs) ≡ trimmed bs → take n bs ≡ trimmed bs
trimmed_done bs n pos le e so_far =
    let k : n - 1 + 1 ≡ n = omega arith in
    let split : take n bs ≡ take (n - 1) bs ++ get_or bs (n - 1) 0 ∷ [] = ap (λ (m : ℕ). take m bs) (sym k) ∙ take_more bs (n - 1) 0 (omega arith) in
    split ∙ sym (trimmed_kept (take (n - 1) bs) (get_or bs (n - 1) 0) e) ∙ ap trimmed (sym split) ∙ so_far

pub trimmed_nothing : (bs : List ℕ) (n : ℕ) → n ≤ 0 → trimmed (take n bs) ≡ trimmed bs → take n bs ≡ trimmed bs
unfolding trimmed
trimmed_nothing bs zero h so_far = so_far
trimmed_nothing bs (suc n) h so_far = absurd (omega arith)

-- ---- lines and words

pub lines_first : (bs piece rest : List ℕ) → pieces 10 bs ≡ piece ∷ pieces 10 rest → lines bs ≡ trimmed piece ∷ lines rest
unfolding lines
lines_first bs piece rest e = ap (map trimmed) e

pub lines_none : lines [] ≡ []
unfolding lines pieces
lines_none = refl

pub words_none : words [] ≡ []
unfolding words pieces filled
words_none = refl

pub words_blank : (bs rest : List ℕ) → pieces 32 bs ≡ [] ∷ pieces 32 rest → words bs ≡ words rest
unfolding words filled
words_blank bs rest e = ap filled e

pub words_first : (bs word rest : List ℕ) → word ≢ [] → pieces 32 bs ≡ word ∷ pieces 32 rest → words bs ≡ word ∷ words rest
unfolding words filled
words_first bs [] rest ne e = absurd (ne refl)
words_first bs (b ∷ word) rest ne e = ap filled e

nil_by_test : (bs : List ℕ) → eqb (length bs) 0 ≡ true → bs ≡ []
nil_by_test [] h = refl
nil_by_test (b ∷ bs) h =
    let e : eqb (length (b ∷ bs)) 0 ≡ false = ne_eqb (length (b ∷ bs)) 0 (λ z. omega arith) in
    cc

pub line_none : (n : ℕ) (bs : List ℕ) → eqb (length bs) 0 ≡ true → line_at (record { number = n; lines = lines bs }) ≡ Err fault.Truncated
unfolding line_at
line_none n bs h = rw (nil_by_test bs h, lines_none) refl

pub line_first : (n : ℕ) (bs piece rest line : List ℕ) → line ≡ trimmed piece → pieces 10 bs ≡ piece ∷ pieces 10 rest
    → line_at (record { number = n; lines = lines bs }) ≡ Ok (line, record { number = n + 1; lines = lines rest })
unfolding line_at
line_first n bs piece rest line t e = rw (lines_first bs piece rest e, t) refl

pub words_first_as : (line bs word rest : List ℕ) → eqb (length word) 0 ≡ false → pieces 32 bs ≡ word ∷ pieces 32 rest → words bs ≡ words line → words line ≡ word ∷ words rest
words_first_as line bs [] rest h e so_far = absurd cc
words_first_as line bs (b ∷ word) rest h e so_far = sym so_far ∙ words_first bs (b ∷ word) rest (λ z. absurd cc) e

pub words_blank_as : (line bs word rest : List ℕ) → eqb (length word) 0 ≡ true → pieces 32 bs ≡ word ∷ pieces 32 rest → words bs ≡ words line → words rest ≡ words line
words_blank_as line bs word rest h e so_far =
    let e2 : pieces 32 bs ≡ [] ∷ pieces 32 rest = rw (← nil_by_test word h) e in
    sym (words_blank bs rest e2) ∙ so_far

pub words_end_as : (line bs : List ℕ) → eqb (length bs) 0 ≡ true → words bs ≡ words line → words line ≡ []
words_end_as line bs h so_far = sym so_far ∙ ap words (nil_by_test bs h) ∙ words_none

-- ---- there are no more lines than bytes

into_first_long : (b : ℕ) (ps : List (List ℕ)) (n : ℕ) → length ps ≤ n → length (into_first b ps) ≤ suc n
into_first_long b [] n h = omega arith
into_first_long b (p ∷ ps) n h = omega arith

cond_long : (t : Bool) (a b : List (List ℕ)) (n : ℕ) → length a ≤ n → length b ≤ n → length (cond t a b) ≤ n
cond_long true a b n p q = p
cond_long false a b n p q = q

pieces_long : (s : ℕ) (bs : List ℕ) → length (pieces s bs) ≤ length bs
unfolding pieces
pieces_long s [] = omega arith
pieces_long s (b ∷ bs) = cond_long (eqb b s) ([] ∷ pieces s bs) (into_first b (pieces s bs)) (suc (length bs)) (let h = pieces_long s bs in omega arith) (into_first_long b (pieces s bs) (length bs) (pieces_long s bs))

map_long : (ps : List (List ℕ)) → length (map trimmed ps) ≡ length ps
map_long [] = refl
map_long (p ∷ ps) = ap suc (map_long ps)

pub lines_roomy : (bs : List ℕ) → length bs < 2 ^ 64 - 1 → length (lines bs) < 2 ^ 64 - 1
unfolding lines
lines_roomy bs h = omega (arith, map_long (pieces 10 bs), pieces_long 10 bs)
