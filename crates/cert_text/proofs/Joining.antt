-- Pieces that are joined are the text, and the pieces of a text that was joined are those that it was joined of.
use Rattle.std.proofs.Common.{◌≡◌, ℕ, ◌≤◌, Bool, true, false, cond, eqb, List, [], ◌∷◌, ◌++◌, map, refl, sym, ap, ◌∙◌, arith, append_assoc}
use Rattle.std.specs.Prelude.{nat_le}
use Rattle.std.specs.List.{list_all, flat_map, AllByRecursion}
use Rattle.std.proofs.lemmas.Bool.Decides.{nat_tests}
use Rattle.std.proofs.lemmas.List.{append-nil}
use Rattle.cert_text.specs.Pieces.{pieces, into_first, joined}
use Rattle.cert_text.specs.Spelling.{text_of}
use Rattle.cert_text.proofs.Steps.{and_parts, eq_is}
use Rattle.cert_text.proofs.PieceLaws.{some_piece}

into_joined : (separator b p0 : ℕ) (qs : List (List ℕ)) (p : List ℕ) (ps : List (List ℕ)) → qs ≡ p ∷ ps → joined separator (into_first b qs) ≡ b ∷ joined separator qs
into_joined separator b p0 qs p ps e = ap (λ (xs : List (List ℕ)). joined separator (into_first b xs)) e ∙ ap (λ (xs : List (List ℕ)). b ∷ joined separator xs) (sym e)

join_by : (t : Bool) (separator b : ℕ) (bs : List ℕ) (qs : List (List ℕ)) (p : List ℕ) (ps : List (List ℕ)) → t ≡ eqb b separator → qs ≡ p ∷ ps → joined separator qs ≡ bs
    → joined separator (cond t ([] ∷ qs) (into_first b qs)) ≡ b ∷ bs
join_by true separator b bs qs p ps is e whole =
    ap (λ (xs : List (List ℕ)). flat_map (λ (q : List ℕ). separator ∷ q) xs) e
    ∙ ap (λ (xs : List ℕ). separator ∷ xs) (ap (λ (xs : List (List ℕ)). joined separator xs) (sym e) ∙ whole)
    ∙ ap (λ (x : ℕ). x ∷ bs) (sym (eq_is b separator (sym is)))
join_by false separator b bs qs p ps is e whole = into_joined separator b 0 qs p ps e ∙ ap (λ (xs : List ℕ). b ∷ xs) whole

-- a text is its pieces, joined
pub joined_pieces : (separator : ℕ) (bs : List ℕ) → joined separator (pieces separator bs) ≡ bs
unfolding pieces
joined_pieces separator [] = refl
joined_pieces separator (b ∷ bs) =
    let more = some_piece separator bs in
    join_by (eqb b separator) separator b bs (pieces separator bs) more.0 more.1 refl more.2 (joined_pieces separator bs)

-- no separator among the bytes
abbrev pub IsFree : ℕ → List ℕ → Type 0
IsFree separator bs = AllByRecursion (λ (b : ℕ). eqb b separator ≡ false) bs

pub piece_first : (separator : ℕ) (p rest : List ℕ) → IsFree separator p → pieces separator (p ++ separator ∷ rest) ≡ p ∷ pieces separator rest
unfolding pieces
piece_first separator [] rest free = let same : eqb separator separator ≡ true = grind (arith, nat_tests) in rw same refl
piece_first separator (b ∷ bs) rest free = rw (free.0, piece_first separator bs rest free.1) refl

pub piece_alone : (separator : ℕ) (p : List ℕ) → IsFree separator p → pieces separator p ≡ p ∷ []
unfolding pieces
piece_alone separator [] free = refl
piece_alone separator (b ∷ bs) free = rw (free.0, piece_alone separator bs free.1) refl

-- pieces without separators are the pieces of what is joined of them
pub pieces_joined : (separator : ℕ) (p : List ℕ) (ps : List (List ℕ)) → IsFree separator p → AllByRecursion (IsFree separator) ps → pieces separator (joined separator (p ∷ ps)) ≡ p ∷ ps
pieces_joined separator p [] free all = ap (pieces separator) (append-nil p) ∙ piece_alone separator p free
pieces_joined separator p (q ∷ qs) free all =
    piece_first separator p (joined separator (q ∷ qs)) free ∙ ap (λ (xs : List (List ℕ)). p ∷ xs) (pieces_joined separator q qs all.0 all.1)

-- no blank, no line feed and no other byte below 33
abbrev pub IsPlain : List ℕ → Type 0
IsPlain w = list_all (nat_le 33) w ≡ true

is_other : (separator b : ℕ) → separator ≤ 32 → nat_le 33 b ≡ true → eqb b separator ≡ false
is_other separator b le e = grind (arith, nat_tests)

pub plain_free : (separator : ℕ) (w : List ℕ) → separator ≤ 32 → IsPlain w → IsFree separator w
plain_free separator [] le plain = tt
plain_free separator (b ∷ bs) le plain =
    let parts = and_parts (nat_le 33 b) (list_all (nat_le 33) bs) plain in
    (is_other separator b le parts.0, plain_free separator bs le parts.1)

pub plain_all_free : (separator : ℕ) (ws : List (List ℕ)) → separator ≤ 32 → AllByRecursion IsPlain ws → AllByRecursion (IsFree separator) ws
plain_all_free separator [] le plain = tt
plain_all_free separator (w ∷ ws) le plain = (plain_free separator w le plain.0, plain_all_free separator ws le plain.1)

free_append : (separator : ℕ) (a b : List ℕ) → IsFree separator a → IsFree separator b → IsFree separator (a ++ b)
free_append separator [] b free more = more
free_append separator (x ∷ a) b free more = (free.0, free_append separator a b free.1 more)

blanks_free : (ws : List (List ℕ)) → AllByRecursion IsPlain ws → IsFree 10 (flat_map (λ (q : List ℕ). 32 ∷ q) ws)
blanks_free [] plain = tt
blanks_free (w ∷ ws) plain = (refl, free_append 10 w (flat_map (λ (q : List ℕ). 32 ∷ q) ws) (plain_free 10 w (omega arith) plain.0) (blanks_free ws plain.1))

-- a line of plain words has no line feed
pub line_free : (ws : List (List ℕ)) → AllByRecursion IsPlain ws → IsFree 10 (joined 32 ws)
line_free [] plain = tt
line_free (w ∷ ws) plain = free_append 10 w (flat_map (λ (q : List ℕ). 32 ∷ q) ws) (plain_free 10 w (omega arith) plain.0) (blanks_free ws plain.1)

-- the lines of a text that begins with lines of plain words
pub lines_behind : (ls : List (List (List ℕ))) (rest : List ℕ) → AllByRecursion (AllByRecursion IsPlain) ls → pieces 10 (text_of ls ++ rest) ≡ map (joined 32) ls ++ pieces 10 rest
lines_behind [] rest plain = refl
lines_behind (l ∷ ls) rest plain =
    ap (pieces 10) (append_assoc (joined 32 l ++ 10 ∷ []) (text_of ls) rest ∙ append_assoc (joined 32 l) (10 ∷ []) (text_of ls ++ rest))
    ∙ piece_first 10 (joined 32 l) (text_of ls ++ rest) (line_free l plain.0)
    ∙ ap (λ (xs : List (List ℕ)). joined 32 l ∷ xs) (lines_behind ls rest plain.1)

-- the lines of a text of lines of plain words
pub lines_of_text : (ls : List (List (List ℕ))) → AllByRecursion (AllByRecursion IsPlain) ls → pieces 10 (text_of ls) ≡ map (joined 32) ls ++ [] ∷ []
unfolding pieces
lines_of_text ls plain = ap (pieces 10) (sym (append-nil (text_of ls))) ∙ lines_behind ls [] plain

-- there is a last piece
ends_filled : (xs : List (List ℕ)) → (p : List ℕ) × (ps : List (List ℕ)) × (xs ++ [] ∷ [] ≡ p ∷ ps)
ends_filled [] = ([], [], refl)
ends_filled (x ∷ xs) = (x, xs ++ [] ∷ [], refl)

line_behind : (l : List ℕ) (xs : List (List ℕ)) (text : List ℕ) → (p : List ℕ) × (ps : List (List ℕ)) × (xs ≡ p ∷ ps) → joined 10 xs ≡ text → joined 10 (l ∷ xs) ≡ (l ++ 10 ∷ []) ++ text
line_behind l xs text some whole =
    ap (λ (ys : List (List ℕ)). joined 10 (l ∷ ys)) some.2
    ∙ ap (λ (t : List ℕ). l ++ 10 ∷ t) (ap (joined 10) (sym some.2) ∙ whole)
    ∙ sym (append_assoc l (10 ∷ []) text)

-- lines joined, and nothing behind the last line feed, are the text of those lines
pub text_of_lines : (ls : List (List (List ℕ))) → joined 10 (map (joined 32) ls ++ [] ∷ []) ≡ text_of ls
text_of_lines [] = refl
text_of_lines (l ∷ ls) = line_behind (joined 32 l) (map (joined 32) ls ++ [] ∷ []) (text_of ls) (ends_filled (map (joined 32) ls)) (text_of_lines ls)
