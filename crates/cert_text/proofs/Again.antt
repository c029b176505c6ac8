-- What is spelled is read again, line by line.
use Rattle.std.proofs.Common.{◌≡◌, ◌≢◌, ℕ, suc, ◌+◌, ◌^◌, ◌<◌, ◌≤◌, Bool, true, false, cond, eqb, List, [], ◌∷◌, ◌++◌, length, map, Option, Some, None, Ok, refl, sym, ap, ◌∙◌, arith, append_assoc, ◌⊎◌, inl, inr}
use Rattle.std.specs.Prelude.{◌&&◌, nat_le, nat_lt, decimal, codes, option_map}
use Rattle.std.specs.Str.{bytes_eq}
use Rattle.std.specs.List.{list_all, flat_map, AllByRecursion}
use Rattle.std.proofs.lemmas.Slice.Eq.{bytes_eq-Decides}
use Rattle.std.proofs.lemmas.Bool.Decides.{nat_tests}
use Rattle.std.proofs.lemmas.Fmt.{decimal_nonempty, decimal_digit}
use Rattle.std.proofs.lemmas.List.{append-nil, length-map}
use Rattle.cost.specs.Distances.{Distance, Finite, Infinite, IsWithin, distance_text}
use Rattle.cert_value.specs.declared.table.Share.{Share}
use Rattle.cert_value.specs.Certificates.{Variable, Entry}
use Rattle.cert_text.specs.Pieces.{pieces, joined}
use Rattle.cert_text.specs.Spelling.{counted, flag_text, variable_line, share_words, entry_line}
use Rattle.cert_value.specs.Lawful.{IsIncreasing, IsPrinted, IsAtomWord, IsAtom, IsVariable, IsShare, IsPattern, AreShares, AreValues, IsEntry}
use Rattle.cert_text.specs.Reading.{◌>>?◌, Remaining, line_at, digits_after, number, number_in, between, numbers_behind, distance_in, distances_behind, share_in, shares_behind, increases_from, is_increasing, filled_behind, filled, second_of, count_at, counted_of, headed_of, bound_of, is_printed, is_atom_word, atom_of, variable_of, pattern_of, shares_of, values_of, has_width, entry_of}
use Rattle.cert_text.proofs.Steps.{some_is}
use Rattle.cert_text.proofs.Decimals.{number_again, decimal_plain}
use Rattle.cert_text.proofs.Joining.{IsPlain, plain_free, plain_all_free, pieces_joined}

-- the lines from a number on
abbrev pub lines_from : ℕ → List (List ℕ) → Remaining
lines_from n ls = record { number = n; lines = ls }

pub line_again : (n : ℕ) (l : List ℕ) (tail : List (List ℕ)) → 0 < length tail → line_at (lines_from n (l ∷ tail)) ≡ Ok (l, lines_from (n + 1) tail)
unfolding line_at
line_again n l [] some = absurd (omega arith)
line_again n l (m ∷ ms) some = refl

-- a word: no byte below 33, and one byte or more
pub record IsWord (w : List ℕ) : Type 0 where
  pub plain : IsPlain w
  pub filled : 0 < length w

pub plain_words : (ws : List (List ℕ)) → AllByRecursion IsWord ws → AllByRecursion IsPlain ws
plain_words [] all = tt
plain_words (w ∷ ws) all = (all.0.plain, plain_words ws all.1)

pub words_again : (w : List ℕ) (ws : List (List ℕ)) → AllByRecursion IsWord (w ∷ ws) → pieces 32 (joined 32 (w ∷ ws)) ≡ w ∷ ws
words_again w ws all = pieces_joined 32 w ws (plain_free 32 w (omega arith) all.0.plain) (plain_all_free 32 ws (omega arith) (plain_words ws all.1))

pub decimal_word : (n : ℕ) → n < 2 ^ 64 → IsWord (decimal n)
decimal_word n small = record { plain = decimal_plain n small; filled = decimal_nonempty n small }

pub decimal_words : (end : ℕ) (ns : List ℕ) → end ≤ 2 ^ 64 → AllByRecursion (λ n. n < end) ns → AllByRecursion IsWord (map decimal ns)
decimal_words end [] small all = tt
decimal_words end (n ∷ ns) small all = (decimal_word n (omega (arith, all.0)), decimal_words end ns small all.1)

pub distance_word : (limit : ℕ) (d : Distance) → limit < 2 ^ 64 → IsWithin limit d → IsWord (distance_text d)
distance_word limit Infinite small within = record { plain = refl; filled = omega arith }
distance_word limit (Finite n) small within = decimal_word n (omega (arith, within))

pub distance_words : (limit : ℕ) (ds : List Distance) → limit < 2 ^ 64 → AllByRecursion (IsWithin limit) ds → AllByRecursion IsWord (map distance_text ds)
distance_words limit [] small all = tt
distance_words limit (d ∷ ds) small all = (distance_word limit d small all.0, distance_words limit ds small all.1)

pub shares_words : (ss : List Share) → AllByRecursion IsShare ss → AllByRecursion IsWord (flat_map share_words ss)
shares_words [] all = tt
shares_words (s ∷ ss) all = (decimal_word s.operator (omega (arith, all.0.operator)), (decimal_word s.amount (omega (arith, all.0.most)), shares_words ss all.1))

pub same_again : (a : List ℕ) → bytes_eq a a ≡ true
same_again a = (bytes_eq-Decides a a).1 refl

-- ---- numbers

pub number_in_again : (least end n : ℕ) → end ≤ 2 ^ 64 → least ≤ n → n < end → number_in least end (decimal n) ≡ Some n
number_in_again least end n small low high =
    let test : (nat_le least n && nat_lt n end) ≡ true = grind (arith, nat_tests) in
    ap (between least end) (number_again n (omega arith)) ∙ rw test refl

pub numbers_again : (end : ℕ) (ns xs : List ℕ) → end ≤ 2 ^ 64 → AllByRecursion (λ n. n < end) xs → numbers_behind end ns (map decimal xs) ≡ Some (ns ++ xs)
unfolding numbers_behind
numbers_again end ns [] small all = ap Some (sym (append-nil ns))
numbers_again end ns (x ∷ xs) small all =
    ap (λ o. o >>? λ n. numbers_behind end (ns ++ n ∷ []) (map decimal xs)) (number_in_again 0 end x small (omega arith) all.0)
    ∙ numbers_again end (ns ++ x ∷ []) xs small all.1 ∙ ap Some (append_assoc ns (x ∷ []) xs)

inf_is_none : number (codes "inf") ≡ None
unfolding digits_after
inf_is_none = refl

not_infinite : (n : ℕ) → n < 2 ^ 64 → bytes_eq (decimal n) (codes "inf") ≡ false
not_infinite n small = elim (bytes_eq (decimal n) (codes "inf")) as (λ b. b ≡ bytes_eq (decimal n) (codes "inf") → b ≡ false) [
  | true ↦ λ e. absurd (let h : number (decimal n) ≡ None = ap number ((bytes_eq-Decides (decimal n) (codes "inf")).0 (sym e)) ∙ inf_is_none in let k : Some n ≡ None = sym (number_again n small) ∙ h in cc)
  | false ↦ λ e. refl
] refl

pub distance_again : (limit : ℕ) (d : Distance) → limit + 1 ≤ 2 ^ 64 → IsWithin limit d → distance_in (limit + 1) (distance_text d) ≡ Some d
unfolding distance_in
distance_again limit Infinite small within = refl
distance_again limit (Finite n) small within =
    rw (not_infinite n (omega (arith, within))) (ap (option_map Finite) (number_in_again 0 (limit + 1) n small (omega arith) (omega (arith, within))))

pub distances_again : (limit : ℕ) (ds xs : List Distance) → limit + 1 ≤ 2 ^ 64 → AllByRecursion (IsWithin limit) xs → distances_behind (limit + 1) ds (map distance_text xs) ≡ Some (ds ++ xs)
unfolding distances_behind
distances_again limit ds [] small all = ap Some (sym (append-nil ds))
distances_again limit ds (x ∷ xs) small all =
    ap (λ o. o >>? λ d. distances_behind (limit + 1) (ds ++ d ∷ []) (map distance_text xs)) (distance_again limit x small all.0)
    ∙ distances_again limit (ds ++ x ∷ []) xs small all.1 ∙ ap Some (append_assoc ds (x ∷ []) xs)

share_again : (s : Share) → IsShare s → share_in (decimal s.operator) (decimal s.amount) ≡ Some s
unfolding share_in
share_again s ok =
    ap (λ o. o >>? λ operator. number_in 1 (2 ^ 31) (decimal s.amount) >>? λ amount. Some (record { operator = operator; amount = amount })) (number_in_again 0 (2 ^ 32) s.operator (omega arith) (omega arith) ok.operator)
    ∙ ap (λ o. o >>? λ amount. Some (record { operator = s.operator; amount = amount })) (number_in_again 1 (2 ^ 31) s.amount (omega arith) ok.least ok.most)

pub shares_again : (ss xs : List Share) → AllByRecursion IsShare xs → shares_behind ss (flat_map share_words xs) ≡ Some (ss ++ xs)
unfolding shares_behind
shares_again ss [] all = ap Some (sym (append-nil ss))
shares_again ss (x ∷ xs) all =
    ap (λ o. o >>? λ s. shares_behind (ss ++ s ∷ []) (flat_map share_words xs)) (share_again x all.0)
    ∙ shares_again (ss ++ x ∷ []) xs all.1 ∙ ap Some (append_assoc ss (x ∷ []) xs)

increasing_from : (least n : ℕ) (ns : List ℕ) → least ≤ n → IsIncreasing (n ∷ ns) → increases_from least (n ∷ ns) ≡ true
unfolding increases_from
increasing_from least n [] le up = let t : nat_le least n ≡ true = grind (arith, nat_tests) in rw t refl
increasing_from least n (m ∷ ns) le up = let t : nat_le least n ≡ true = grind (arith, nat_tests) in rw t (increasing_from (n + 1) m ns (omega (arith, up.0)) up.1)

pub increasing_again : (ns : List ℕ) → IsIncreasing ns → is_increasing ns ≡ true
unfolding increases_from
increasing_again [] up = refl
increasing_again (n ∷ ns) up = increasing_from 0 n ns (omega arith) up

-- ---- forms

pub filled_again : (n : ℕ) (ws : List (List ℕ)) → AllByRecursion IsWord ws → filled_behind n ws ≡ Some (n + length ws)
unfolding filled_behind
filled_again n [] all = ap Some (omega arith)
filled_again n ([] ∷ ws) all = absurd (let h = all.0.filled in omega arith)
filled_again n ((b ∷ bs) ∷ ws) all = filled_again (n + 1) ws all.1 ∙ ap Some (omega arith)

pub second_again : (line : ℕ) (k w : List ℕ) → IsWord w → second_of line k (k ∷ w ∷ []) ≡ Ok w
second_again line k [] word = absurd (let h = word.filled in omega arith)
second_again line k (b ∷ bs) word = rw (same_again k) refl

pub count_again : (keyword : List ℕ) (least end n k : ℕ) (tail : List (List ℕ)) → end ≤ 2 ^ 64 → least ≤ k → k < end → IsWord keyword → 0 < length tail
    → count_at keyword least end (lines_from n (joined 32 (counted keyword k []) ∷ tail)) ≡ Ok (k, lines_from (n + 1) tail)
unfolding count_at
count_again keyword least end n k tail small low high word some =
    let d = decimal_word k (omega arith) in
    rw (line_again n (joined 32 (counted keyword k [])) tail some, words_again keyword (decimal k ∷ []) (word, (d, tt)), second_again n keyword (decimal k) d, number_in_again least end k small low high) refl

pub counted_again : (line : ℕ) (pairs : Bool) (k : List ℕ) (n : ℕ) (ws : List (List ℕ)) → n < 2 ^ 64 → IsWord k → AllByRecursion IsWord ws → length ws ≡ cond pairs (n + n) n
    → counted_of line pairs (k ∷ decimal n ∷ ws) ≡ Ok (record { first = k; count = decimal n; words = ws })
counted_again line pairs k n ws small word all count =
    let f : filled (k ∷ decimal n ∷ ws) ≡ Some (2 + cond pairs (n + n) n) = filled_again 0 (k ∷ decimal n ∷ ws) (word, (decimal_word n small, all)) ∙ ap Some (omega arith) in
    let t : eqb (2 + cond pairs (n + n) n) (2 + cond pairs (n + n) n) ≡ true = grind (arith, nat_tests) in
    rw (f, number_again n small, t) refl

pub headed_again : (line : ℕ) (pairs : Bool) (k : List ℕ) (n : ℕ) (ws : List (List ℕ)) → n < 2 ^ 64 → IsWord k → AllByRecursion IsWord ws → length ws ≡ cond pairs (n + n) n
    → headed_of line k pairs (k ∷ decimal n ∷ ws) ≡ Ok (record { first = k; count = decimal n; words = ws })
unfolding headed_of
headed_again line pairs k n ws small word all count = rw (counted_again line pairs k n ws small word all count, same_again k) refl

pub some_items : {X : Type 0} (xs : List X) → xs ≢ [] → 1 ≤ length xs
some_items [] h = absurd (h refl)
some_items (x ∷ xs) h = omega arith

pub bound_again : (line : ℕ) (d : Distance) → IsWithin (2 ^ 62) d → bound_of line (codes "bound" ∷ distance_text d ∷ []) ≡ Ok d
unfolding bound_of
bound_again line d within = rw (second_again line (codes "bound") (distance_text d) (distance_word (2 ^ 62) d (omega arith) within), distance_again (2 ^ 62) d (omega arith) within) refl

pub pattern_again : (line : ℕ) (p : List ℕ) → IsPattern p → pattern_of line (counted (codes "table") (length p) (map decimal p)) ≡ Ok p
unfolding pattern_of
pattern_again line p ok =
    rw (
      headed_again line false (codes "table") (length p) (map decimal p) (omega (arith, ok.few)) (record { plain = refl; filled = omega arith }) (decimal_words (2 ^ 32) p (omega arith) ok.variables) (length-map p decimal),
      number_in_again 1 (2 ^ 32) (length p) (omega arith) (some_items p ok.some) ok.few,
      numbers_again (2 ^ 32) [] p (omega arith) ok.variables,
      increasing_again p ok.increasing,
    ) refl

length_shares : (ss : List Share) → length (flat_map share_words ss) ≡ length ss + length ss
length_shares [] = refl
length_shares (s ∷ ss) = let h = length_shares ss in omega arith

pub shares_line_again : (line : ℕ) (ss : List Share) → AreShares ss → shares_of line (counted (codes "shares") (length ss) (flat_map share_words ss)) ≡ Ok ss
unfolding shares_of
shares_line_again line ss ok =
    rw (
      headed_again line true (codes "shares") (length ss) (flat_map share_words ss) (omega (arith, ok.few)) (record { plain = refl; filled = omega arith }) (shares_words ss ok.each) (length_shares ss),
      number_in_again 0 (2 ^ 32) (length ss) (omega arith) (omega arith) ok.few,
      shares_again [] ss ok.each,
      increasing_again (map (λ s. s.operator) ss) ok.increasing,
    ) refl

pub values_again : (line : ℕ) (ds : List Distance) → AreValues ds → values_of line (counted (codes "values") (length ds) (map distance_text ds)) ≡ Ok ds
unfolding values_of
values_again line ds ok =
    rw (
      headed_again line false (codes "values") (length ds) (map distance_text ds) (omega (arith, ok.few)) (record { plain = refl; filled = omega arith }) (distance_words (2 ^ 55) ds (omega arith) ok.each) (length-map ds distance_text),
      number_in_again 0 (2 ^ 24 + 1) (length ds) (omega arith) (omega arith) (omega (arith, ok.few)),
      distances_again (2 ^ 55) [] ds (omega arith) ok.each,
    ) refl

-- ---- variables, atoms and states

flag_word : (b : Bool) → IsWord (flag_text b)
flag_word true = record { plain = refl; filled = omega arith }
flag_word false = record { plain = refl; filled = omega arith }

flag_number : Bool → ℕ
flag_number true = 1
flag_number false = 0

flag_again : (b : Bool) → (number_in 0 2 (flag_text b) ≡ Some (flag_number b)) × (eqb (flag_number b) 1 ≡ b)
unfolding flag_number
flag_again true = (ap (number_in 0 2) (sym (decimal_digit 1 (omega arith))) ∙ number_in_again 0 2 1 (omega arith) (omega arith) (omega arith), refl)
flag_again false = (ap (number_in 0 2) (sym (decimal_digit 0 (omega arith))) ∙ number_in_again 0 2 0 (omega arith) (omega arith) (omega arith), refl)

pub variable_words : (atoms : ℕ) (v : Variable) → atoms < 2 ^ 32 → IsVariable atoms v → AllByRecursion IsWord (variable_line v)
variable_words atoms v small ok = (flag_word v.has_none_value, (decimal_word (length v.atoms) (omega (arith, ok.few)), decimal_words atoms v.atoms (omega arith) ok.atoms))

pub variable_again : (atoms line : ℕ) (v : Variable) → atoms < 2 ^ 32 → IsVariable atoms v → variable_of atoms line (variable_line v) ≡ Ok v
unfolding variable_of
variable_again atoms line v small ok =
    let f = flag_again v.has_none_value in
    rw (
      counted_again line false (flag_text v.has_none_value) (length v.atoms) (map decimal v.atoms) (omega (arith, ok.few)) (flag_word v.has_none_value) (decimal_words atoms v.atoms (omega arith) ok.atoms) (length-map v.atoms decimal),
      f.0,
      number_in_again 1 (2 ^ 32) (length v.atoms) (omega arith) (some_items v.atoms ok.some) ok.few,
      numbers_again atoms [] v.atoms (omega arith) ok.atoms,
      increasing_again v.atoms ok.increasing,
      f.1,
    ) refl

printed_again : (w : List ℕ) → AllByRecursion IsPrinted w → (list_all is_printed w ≡ true) × IsPlain w
printed_again [] all = (refl, refl)
printed_again (b ∷ bs) all =
    let low : nat_le 33 b ≡ true = (let h = all.0.0 in grind (arith, nat_tests)) in
    let high : nat_le b 126 ≡ true = (let h = all.0.1 in grind (arith, nat_tests)) in
    let more = printed_again bs all.1 in
    (rw (low, high) more.0, rw low more.1)

atom_word : (w : List ℕ) → IsAtomWord w → IsWord w
atom_word w ok = record { plain = (printed_again w ok.printed).1; filled = some_items w ok.some }

atom_word_again : (w : List ℕ) → IsAtomWord w → is_atom_word w ≡ true
atom_word_again w ok =
    let long = some_items w ok.some in
    let t : nat_lt 0 (length w) ≡ true = grind (arith, nat_tests) in
    rw t (printed_again w ok.printed).0

pub atom_words : (ws : List (List ℕ)) → AllByRecursion IsAtomWord ws → AllByRecursion IsWord ws
atom_words [] all = tt
atom_words (w ∷ ws) all = (atom_word w all.0, atom_words ws all.1)

atom_words_again : (ws : List (List ℕ)) → AllByRecursion IsAtomWord ws → list_all is_atom_word ws ≡ true
atom_words_again [] all = refl
atom_words_again (w ∷ ws) all = rw (atom_word_again w all.0) (atom_words_again ws all.1)

pub atom_again : (line : ℕ) (atom : List (List ℕ)) → IsAtom atom → atom_of line atom ≡ Ok atom
unfolding atom_of
atom_again line atom ok = rw (atom_words_again atom ok.each_word) refl

pub entry_words : (width : ℕ) (e : Entry) → IsEntry width e → AllByRecursion IsWord (entry_line e)
entry_words width e ok = (decimal_word e.cost (omega (arith, ok.cost)), decimal_words (2 ^ 32) e.state (omega arith) ok.values)

fits_again : (asked : Option ℕ) (width : ℕ) → (asked ≡ None) ⊎ (asked ≡ Some width) → has_width asked (Some (suc width)) ≡ true
fits_again None width h = refl
fits_again (Some w) width (inl e) = absurd cc
fits_again (Some w) width (inr e) = let same : w ≡ width = some_is w width e in grind (arith, nat_tests)

pub entry_again : (asked : Option ℕ) (width line : ℕ) (e : Entry) → (asked ≡ None) ⊎ (asked ≡ Some width) → IsEntry width e → entry_of asked line (entry_line e) ≡ Ok e
unfolding entry_of
entry_again asked width line e asks ok =
    let wide = ok.as_wide in
    let f : filled (entry_line e) ≡ Some (suc width) = filled_again 0 (entry_line e) (entry_words width e ok) ∙ ap Some (omega (arith, length-map e.state decimal)) in
    rw (f, fits_again asked width asks, number_in_again 0 (2 ^ 62 + 1) e.cost (omega arith) (omega arith) (omega (arith, ok.cost)), numbers_again (2 ^ 32) [] e.state (omega arith) ok.values) refl
