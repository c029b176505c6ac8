-- The first piece of a text, and what follows it.
use Rattle.std.proofs.Common.{◌≡◌, ◌≢◌, ℕ, zero, suc, ◌+◌, ◌<◌, ◌≤◌, Bool, true, false, cond, eqb, List, [], ◌∷◌, length, get_or, take, drop, Result, Ok, refl, sym, ap, ◌∙◌, arith}
use Rattle.std.proofs.lemmas.List.{take_all, drop-drop}
use Rattle.std.proofs.lemmas.Bool.Decides.{nat_tests}
use Rattle.cert_text.specs.Pieces.{pieces, into_first}
use Rattle.cert_text.specs.declared.fault.CertFault.{CertFault}
use Rattle.cert_text.specs.Reading.{is_nothing, first_of, Remaining}

is_same : (b c : ℕ) → b ≡ c → eqb b c ≡ true
is_same b c e = grind (arith, nat_tests)

is_other : (b c : ℕ) → b ≢ c → eqb b c ≡ false
is_other b c e = grind (arith, nat_tests)

-- no separator before the end: one piece
pub whole_piece : (separator : ℕ) (bytes : List ℕ) → ((k : ℕ) → k < length bytes → get_or bytes k 0 ≢ separator) → pieces separator bytes ≡ bytes ∷ []
unfolding pieces
whole_piece separator [] before = refl
whole_piece separator (b ∷ bs) before =
    rw (is_other b separator (before 0 (omega arith)), whole_piece separator bs (λ k lt. before (suc k) (omega arith))) refl

-- a separator behind this many bytes without one: a piece of those bytes
pub first_piece : (separator : ℕ) (bytes : List ℕ) (n : ℕ) → n < length bytes → get_or bytes n 0 ≡ separator → ((k : ℕ) → k < n → get_or bytes k 0 ≢ separator)
    → pieces separator bytes ≡ take n bytes ∷ pieces separator (drop (suc n) bytes)
unfolding pieces
first_piece separator [] n lt at before = absurd (omega arith)
first_piece separator (b ∷ bs) zero lt at before = rw (is_same b separator at) refl
first_piece separator (b ∷ bs) (suc n) lt at before =
    rw (is_other b separator (before 0 (omega arith)), first_piece separator bs n (omega arith) at (λ k k_lt. before (suc k) (omega arith))) refl

some_by : (t : Bool) (b : ℕ) (qs : List (List ℕ)) (p : List ℕ) (ps : List (List ℕ)) → qs ≡ p ∷ ps → (q : List ℕ) × (rest : List (List ℕ)) × (cond t ([] ∷ qs) (into_first b qs) ≡ q ∷ rest)
some_by true b qs p ps e = ([], qs, refl)
some_by false b qs p ps e = (b ∷ p, ps, ap (into_first b) e)

-- there is always a piece
pub some_piece : (separator : ℕ) (bytes : List ℕ) → (p : List ℕ) × (ps : List (List ℕ)) × (pieces separator bytes ≡ p ∷ ps)
unfolding pieces
some_piece separator [] = ([], [], refl)
some_piece separator (b ∷ bs) =
    let more = some_piece separator bs in
    some_by (eqb b separator) b (pieces separator bs) more.0 more.1 more.2

filled_first : (t : Bool) (b : ℕ) (qs : List (List ℕ)) (p : List ℕ) (ps : List (List ℕ)) → qs ≡ p ∷ ps → is_nothing (cond t ([] ∷ qs) (into_first b qs)) ≡ false
filled_first true b qs p ps e = ap (λ (xs : List (List ℕ)). is_nothing ([] ∷ xs)) e
filled_first false b qs p ps e = ap (λ (xs : List (List ℕ)). is_nothing (into_first b xs)) e

-- nothing is left where no byte is
pub nothing_is : (bytes : List ℕ) (b : Bool) → b ≡ eqb (length bytes) 0 → b ≡ is_nothing (pieces 10 bytes)
unfolding pieces
nothing_is [] b e = e
nothing_is (x ∷ xs) b e =
    let more = some_piece 10 xs in
    let t : b ≡ false = e ∙ is_other (suc (length xs)) 0 (λ h. absurd (omega arith)) in
    t ∙ sym (filled_first (eqb x 10) x (pieces 10 xs) more.0 more.1 more.2)

-- a text that was split where its first piece ends
pub split_whole : (separator : ℕ) (bytes front back : List ℕ) (n : ℕ) → n ≤ length bytes → ((k : ℕ) → k < n → get_or bytes k 0 ≢ separator) → front ≡ take n bytes → length back + n ≡ length bytes
    → length back ≡ 0 → pieces separator bytes ≡ front ∷ []
split_whole separator bytes front back n le before front-is lengths none =
    whole_piece separator bytes (λ k lt. before k (omega arith)) ∙ ap (λ (p : List ℕ). p ∷ []) (sym (front-is ∙ take_all n bytes (omega arith)))

pub split_first : (separator : ℕ) (bytes front back rest : List ℕ) (n : ℕ) → ((k : ℕ) → k < n → get_or bytes k 0 ≢ separator) → (n < length bytes → get_or bytes n 0 ≡ separator)
    → front ≡ take n bytes → back ≡ drop n bytes → length back + n ≡ length bytes → 0 < length back → rest ≡ drop 1 back → pieces separator bytes ≡ front ∷ pieces separator rest
split_first separator bytes front back rest n before found front-is back-is lengths some rest-is =
    let lt : n < length bytes = omega arith in
    let one : n + 1 ≡ suc n = omega arith in
    let r : rest ≡ drop (suc n) bytes = rest-is ∙ ap (drop 1) back-is ∙ drop-drop 1 n bytes ∙ ap (λ (k : ℕ). drop k bytes) one in
    rw (front-is, r) (first_piece separator bytes n lt (found lt) before)

read_line : ℕ → List ℕ → List (List ℕ) → Result (List ℕ × Remaining) CertFault
read_line number front ls = Ok (front, record { number = number + 1; lines = ls })

-- a line that has a line feed behind it is read
pub first_line : (number : ℕ) (bytes front rest : List ℕ) → pieces 10 bytes ≡ front ∷ pieces 10 rest → first_of number (pieces 10 bytes) ≡ Ok (front, record { number = number + 1; lines = pieces 10 rest })
unfolding read_line
first_line number bytes front rest e =
    let more = some_piece 10 rest in
    ap (first_of number) (e ∙ ap (λ (ls : List (List ℕ)). front ∷ ls) more.2) ∙ ap (read_line number front) (sym more.2)
