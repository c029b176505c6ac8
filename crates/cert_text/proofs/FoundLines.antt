-- What is read was spelled so, part by part.
use Rattle.std.proofs.Common.{◌≡◌, ◌≢◌, ℕ, zero, suc, ◌+◌, ◌^◌, ◌<◌, ◌≤◌, true, false, eqb, List, [], ◌∷◌, length, map, Option, Ok, refl, sym, ap, subst, ◌∙◌, arith}
use Rattle.std.specs.Prelude.{nat_le, nat_lt, decimal, codes}
use Rattle.std.specs.List.{list_all, flat_map, AllByRecursion}
use Rattle.std.proofs.lemmas.List.{length-map}
use Rattle.std.proofs.lemmas.Fmt.{decimal_digit}
use Rattle.cost.specs.Distances.{Distance, IsWithin, distance_text}
use Rattle.cert_value.specs.declared.table.Share.{Share}
use Rattle.cert_value.specs.Certificates.{Variable, Entry}
use Rattle.cert_text.specs.Pieces.{pieces}
use Rattle.cert_text.specs.Spelling.{counted, flag_text, variable_line, share_words, entry_line}
use Rattle.cert_value.specs.Lawful.{IsPrinted, IsAtomWord, IsAtom, IsVariable, IsShare, IsPattern, AreShares, AreValues, IsEntry}
use Rattle.cert_text.specs.Reading.{◌>>=◌, number_in, numbers_in, distance_in, distances_in, shares_in, is_increasing, filled, formed, numbered, ordered, second_of, counted_of, headed_of, bound_of, is_printed, is_atom_word, atom_of, variable_of, pattern_of, shares_of, values_of, has_width, entry_numbers, entry_of}
use Rattle.cert_text.proofs.Steps.{bind_ok, formed_ok, ordered_ok, numbered_ok, ok_is, and_parts, le_is, lt_is}
use Rattle.cert_text.proofs.PieceLaws.{some_piece}
use Rattle.cert_text.proofs.Found.{number_found, distance_found, second_found, numbers_found, distances_found, shares_found, increasing_found, counted_found, headed_found, count_is}

pub bound_found : (line : ℕ) (ws : List (List ℕ)) (d : Distance) → bound_of line ws ≡ Ok d → (ws ≡ codes "bound" ∷ distance_text d ∷ []) × IsWithin (2 ^ 62) d
unfolding bound_of
bound_found line ws d e =
    let a = bind_ok (second_of line (codes "bound") ws) (λ word. numbered line (distance_in (2 ^ 62 + 1) word)) d e in
    let f = distance_found (2 ^ 62) a.0 d (omega arith) (numbered_ok line (distance_in (2 ^ 62 + 1) a.0) d a.2) in
    (second_found line (codes "bound") ws a.0 a.1 ∙ ap (λ (w : List ℕ). codes "bound" ∷ w ∷ []) f.0, f.1)

pub not_empty : {X : Type 0} (xs : List X) → 1 ≤ length xs → xs ≢ []
not_empty xs le e = let l = ap (λ ys. length ys) e in absurd (omega arith)

-- a count and numbers
pub same_words : (k c : List ℕ) (ws : List (List ℕ)) (n : ℕ) (ns : List ℕ) → c ≡ decimal n → ws ≡ map decimal ns → n ≡ length ns → k ∷ c ∷ ws ≡ counted k (length ns) (map decimal ns)
same_words k c ws n ns is words count =
    ap (λ (w : List ℕ). k ∷ w ∷ ws) (is ∙ ap decimal count) ∙ ap (λ (vs : List (List ℕ)). k ∷ decimal (length ns) ∷ vs) words

pub pattern_found : (line : ℕ) (ws : List (List ℕ)) (p : List ℕ) → pattern_of line ws ≡ Ok p → (ws ≡ counted (codes "table") (length p) (map decimal p)) × IsPattern p
unfolding pattern_of
pattern_found line ws p e =
    let a = bind_ok (headed_of line (codes "table") false ws) (λ form. numbered line (number_in 1 (2 ^ 32) form.count) >>= λ count. numbered line (numbers_in (2 ^ 32) form.words) >>= λ pattern. ordered line (is_increasing pattern) pattern) p e in
    let b = bind_ok (numbered line (number_in 1 (2 ^ 32) a.0.count)) (λ count. numbered line (numbers_in (2 ^ 32) a.0.words) >>= λ pattern. ordered line (is_increasing pattern) pattern) p a.2 in
    let c = bind_ok (numbered line (numbers_in (2 ^ 32) a.0.words)) (λ pattern. ordered line (is_increasing pattern) pattern) p b.2 in
    let o = ordered_ok line (is_increasing c.0) c.0 p c.2 in
    let h = headed_found line (codes "table") false ws a.0 a.1 in
    let n = number_found 1 (2 ^ 32) a.0.count b.0 (omega arith) (numbered_ok line (number_in 1 (2 ^ 32) a.0.count) b.0 b.1) in
    let m = numbers_found (2 ^ 32) [] a.0.words c.0 (omega arith) (numbered_ok line (numbers_in (2 ^ 32) a.0.words) c.0 c.1) in
    let same : m.items ≡ p = sym m.is_behind ∙ o.1 in
    let count = count_is false a.0.first a.0.count a.0.words b.0 h.1 n.3 in
    let long : length a.0.words ≡ length p = ap (λ (vs : List (List ℕ)). length vs) m.words_are ∙ length-map m.items decimal ∙ ap (λ (xs : List ℕ). length xs) same in
    let words : a.0.words ≡ map decimal p = m.words_are ∙ ap (map decimal) same in (
      h.0 ∙ same_words (codes "table") a.0.count a.0.words b.0 p n.0 words (omega arith),
      record {
        some = not_empty p (omega (arith, n.1));
        few = omega (arith, n.2);
        variables = subst (AllByRecursion (λ k. k < 2 ^ 32)) same m.each;
        increasing = increasing_found 0 p (ap is_increasing (sym o.1) ∙ o.0);
      },
    )

double : (n m : ℕ) → m ≡ n + n → (l : ℕ) → m ≡ l + l → n ≡ l
double n m e l f = omega arith

length_shares : (ss : List Share) → length (flat_map share_words ss) ≡ length ss + length ss
length_shares [] = refl
length_shares (s ∷ ss) = let h = length_shares ss in omega arith

pub shares_line_found : (line : ℕ) (ws : List (List ℕ)) (ss : List Share) → shares_of line ws ≡ Ok ss → (ws ≡ counted (codes "shares") (length ss) (flat_map share_words ss)) × AreShares ss
unfolding shares_of
shares_line_found line ws ss e =
    let a = bind_ok (headed_of line (codes "shares") true ws) (λ form. numbered line (number_in 0 (2 ^ 32) form.count) >>= λ count. numbered line (shares_in form.words) >>= λ shares. ordered line (is_increasing (map (λ s. s.operator) shares)) shares) ss e in
    let b = bind_ok (numbered line (number_in 0 (2 ^ 32) a.0.count)) (λ count. numbered line (shares_in a.0.words) >>= λ shares. ordered line (is_increasing (map (λ s. s.operator) shares)) shares) ss a.2 in
    let c = bind_ok (numbered line (shares_in a.0.words)) (λ shares. ordered line (is_increasing (map (λ s. s.operator) shares)) shares) ss b.2 in
    let o = ordered_ok line (is_increasing (map (λ s. s.operator) c.0)) c.0 ss c.2 in
    let h = headed_found line (codes "shares") true ws a.0 a.1 in
    let n = number_found 0 (2 ^ 32) a.0.count b.0 (omega arith) (numbered_ok line (number_in 0 (2 ^ 32) a.0.count) b.0 b.1) in
    let m = shares_found [] a.0.words c.0 (numbered_ok line (shares_in a.0.words) c.0 c.1) in
    let same : m.items ≡ ss = sym m.is_behind ∙ o.1 in
    let count = count_is true a.0.first a.0.count a.0.words b.0 h.1 n.3 in
    let long : length a.0.words ≡ length ss + length ss = ap (λ (vs : List (List ℕ)). length vs) m.words_are ∙ length_shares m.items ∙ ap (λ (xs : List Share). length xs + length xs) same in
    let many : b.0 ≡ length ss = double b.0 (length a.0.words) count (length ss) long in
    let words : a.0.words ≡ flat_map share_words ss = m.words_are ∙ ap (flat_map share_words) same in (
      h.0 ∙ ap (λ (w : List ℕ). codes "shares" ∷ w ∷ a.0.words) (n.0 ∙ ap decimal many) ∙ ap (λ (vs : List (List ℕ)). codes "shares" ∷ decimal (length ss) ∷ vs) words,
      record {
        few = omega (arith, n.2);
        each = subst (AllByRecursion IsShare) same m.each;
        increasing = increasing_found 0 (map (λ s. s.operator) ss) (ap (λ (xs : List Share). is_increasing (map (λ s. s.operator) xs)) (sym o.1) ∙ o.0);
      },
    )

pub values_found : (line : ℕ) (ws : List (List ℕ)) (ds : List Distance) → values_of line ws ≡ Ok ds → (ws ≡ counted (codes "values") (length ds) (map distance_text ds)) × AreValues ds
unfolding values_of
values_found line ws ds e =
    let a = bind_ok (headed_of line (codes "values") false ws) (λ form. numbered line (number_in 0 (2 ^ 24 + 1) form.count) >>= λ count. numbered line (distances_in (2 ^ 55 + 1) form.words)) ds e in
    let b = bind_ok (numbered line (number_in 0 (2 ^ 24 + 1) a.0.count)) (λ count. numbered line (distances_in (2 ^ 55 + 1) a.0.words)) ds a.2 in
    let h = headed_found line (codes "values") false ws a.0 a.1 in
    let n = number_found 0 (2 ^ 24 + 1) a.0.count b.0 (omega arith) (numbered_ok line (number_in 0 (2 ^ 24 + 1) a.0.count) b.0 b.1) in
    let m = distances_found (2 ^ 55) [] a.0.words ds (omega arith) (numbered_ok line (distances_in (2 ^ 55 + 1) a.0.words) ds b.2) in
    let same : m.items ≡ ds = sym m.is_behind in
    let count = count_is false a.0.first a.0.count a.0.words b.0 h.1 n.3 in
    let long : length a.0.words ≡ length ds = ap (λ (vs : List (List ℕ)). length vs) m.words_are ∙ length-map m.items distance_text ∙ ap (λ (xs : List Distance). length xs) same in
    let many : b.0 ≡ length ds = omega arith in
    let words : a.0.words ≡ map distance_text ds = m.words_are ∙ ap (map distance_text) same in (
      h.0 ∙ ap (λ (w : List ℕ). codes "values" ∷ w ∷ a.0.words) (n.0 ∙ ap decimal many) ∙ ap (λ (vs : List (List ℕ)). codes "values" ∷ decimal (length ds) ∷ vs) words,
      record { few = omega (arith, n.2); each = subst (AllByRecursion (IsWithin (2 ^ 55))) same m.each },
    )

-- ---- variables

flag_found : (n : ℕ) → n < 2 → decimal n ≡ flag_text (eqb n 1)
flag_found zero lt = decimal_digit 0 (omega arith)
flag_found (suc zero) lt = decimal_digit 1 (omega arith)
flag_found (suc (suc n)) lt = absurd (omega arith)

pub variable_found : (atoms line : ℕ) (ws : List (List ℕ)) (v : Variable) → atoms < 2 ^ 32 → variable_of atoms line ws ≡ Ok v → (ws ≡ variable_line v) × IsVariable atoms v
unfolding variable_of
variable_found atoms line ws v small e =
    let a = bind_ok (counted_of line false ws) (λ form. numbered line (number_in 0 2 form.first) >>= λ flag. numbered line (number_in 1 (2 ^ 32) form.count) >>= λ count. numbered line (numbers_in atoms form.words) >>= λ numbers. ordered line (is_increasing numbers) (record { has_none_value = eqb flag 1; atoms = numbers })) v e in
    let b = bind_ok (numbered line (number_in 0 2 a.0.first)) (λ flag. numbered line (number_in 1 (2 ^ 32) a.0.count) >>= λ count. numbered line (numbers_in atoms a.0.words) >>= λ numbers. ordered line (is_increasing numbers) (record { has_none_value = eqb flag 1; atoms = numbers })) v a.2 in
    let c = bind_ok (numbered line (number_in 1 (2 ^ 32) a.0.count)) (λ count. numbered line (numbers_in atoms a.0.words) >>= λ numbers. ordered line (is_increasing numbers) (record { has_none_value = eqb b.0 1; atoms = numbers })) v b.2 in
    let d = bind_ok (numbered line (numbers_in atoms a.0.words)) (λ numbers. ordered line (is_increasing numbers) (record { has_none_value = eqb b.0 1; atoms = numbers })) v c.2 in
    let made : Variable = record { has_none_value = eqb b.0 1; atoms = d.0 } in
    let o = ordered_ok line (is_increasing d.0) made v d.2 in
    let h = counted_found line false ws a.0 a.1 in
    let f = number_found 0 2 a.0.first b.0 (omega arith) (numbered_ok line (number_in 0 2 a.0.first) b.0 b.1) in
    let n = number_found 1 (2 ^ 32) a.0.count c.0 (omega arith) (numbered_ok line (number_in 1 (2 ^ 32) a.0.count) c.0 c.1) in
    let m = numbers_found atoms [] a.0.words d.0 (omega arith) (numbered_ok line (numbers_in atoms a.0.words) d.0 d.1) in
    let same : m.items ≡ d.0 = sym m.is_behind in
    let count = count_is false a.0.first a.0.count a.0.words c.0 h.1 n.3 in
    let long : length a.0.words ≡ length d.0 = ap (λ (vs : List (List ℕ)). length vs) m.words_are ∙ length-map m.items decimal ∙ ap (λ (xs : List ℕ). length xs) same in
    let words : a.0.words ≡ map decimal d.0 = m.words_are ∙ ap (map decimal) same in
    subst (λ (x : Variable). (ws ≡ variable_line x) × IsVariable atoms x) o.1 (
      h.0 ∙ ap (λ (w : List ℕ). w ∷ a.0.count ∷ a.0.words) (f.0 ∙ flag_found b.0 f.2) ∙ same_words (flag_text (eqb b.0 1)) a.0.count a.0.words c.0 d.0 n.0 words (omega arith),
      record {
        some = not_empty d.0 (omega (arith, n.1));
        few = omega (arith, n.2);
        atoms = subst (AllByRecursion (λ k. k < atoms)) same m.each;
        increasing = increasing_found 0 d.0 o.0;
      },
    )

-- ---- atoms

printed_found : (w : List ℕ) → list_all is_printed w ≡ true → AllByRecursion IsPrinted w
printed_found [] e = tt
printed_found (b ∷ bs) e =
    let a = and_parts (is_printed b) (list_all is_printed bs) e in
    let c = and_parts (nat_le 33 b) (nat_le b 126) a.0 in
    ((le_is 33 b c.0, le_is b 126 c.1), printed_found bs a.1)

word_found : (w : List ℕ) → is_atom_word w ≡ true → IsAtomWord w
word_found w e =
    let a = and_parts (nat_lt 0 (length w)) (list_all is_printed w) e in
    record { some = not_empty w (lt_is 0 (length w) a.0); printed = printed_found w a.1 }

words_found : (ws : List (List ℕ)) → list_all is_atom_word ws ≡ true → AllByRecursion IsAtomWord ws
words_found [] e = tt
words_found (w ∷ ws) e =
    let a = and_parts (is_atom_word w) (list_all is_atom_word ws) e in
    (word_found w a.0, words_found ws a.1)

pub atom_found : (line : ℕ) (l : List ℕ) (atom : List (List ℕ)) → atom_of line (pieces 32 l) ≡ Ok atom → (pieces 32 l ≡ atom) × IsAtom atom
unfolding atom_of
atom_found line l atom e =
    let f = formed_ok line (list_all is_atom_word (pieces 32 l)) (pieces 32 l) atom e in
    let p = some_piece 32 l in
    (f.1, subst IsAtom f.1 (record { some = λ none. absurd (let h : p.0 ∷ p.1 ≡ [] = sym p.2 ∙ none in cc); each_word = words_found (pieces 32 l) f.0 }))

-- ---- states

entry_words_found : (line : ℕ) (ws : List (List ℕ)) (x : Entry) → entry_numbers line ws ≡ Ok x → (ws ≡ entry_line x) × IsEntry (length x.state) x
entry_words_found line [] x e = absurd cc
entry_words_found line (g ∷ ws) x e =
    let a = bind_ok (numbered line (number_in 0 (2 ^ 62 + 1) g)) (λ cost. numbered line (numbers_in (2 ^ 32) ws) >>= λ state. Ok (record { cost = cost; state = state })) x e in
    let b = bind_ok (numbered line (numbers_in (2 ^ 32) ws)) (λ state. Ok (record { cost = a.0; state = state })) x a.2 in
    let made : Entry = record { cost = a.0; state = b.0 } in
    let n = number_found 0 (2 ^ 62 + 1) g a.0 (omega arith) (numbered_ok line (number_in 0 (2 ^ 62 + 1) g) a.0 a.1) in
    let m = numbers_found (2 ^ 32) [] ws b.0 (omega arith) (numbered_ok line (numbers_in (2 ^ 32) ws) b.0 b.1) in
    let same : m.items ≡ b.0 = sym m.is_behind in
    subst (λ (y : Entry). (g ∷ ws ≡ entry_line y) × IsEntry (length y.state) y) (ok_is made x b.2) (
      ap (λ (w : List ℕ). w ∷ ws) n.0 ∙ ap (λ (vs : List (List ℕ)). decimal a.0 ∷ vs) (m.words_are ∙ ap (map decimal) same),
      record { cost = omega (arith, n.2); as_wide = refl; values = subst (AllByRecursion (λ k. k < 2 ^ 32)) same m.each },
    )

pub entry_found : (width : Option ℕ) (line : ℕ) (ws : List (List ℕ)) (x : Entry) → entry_of width line ws ≡ Ok x → (ws ≡ entry_line x) × IsEntry (length x.state) x
unfolding entry_of
entry_found width line ws x e =
    let a = bind_ok (formed line (has_width width (filled ws)) ws) (entry_numbers line) x e in
    let f = formed_ok line (has_width width (filled ws)) ws a.0 a.1 in
    entry_words_found line ws x (ap (entry_numbers line) f.1 ∙ a.2)
