-- Where fields lie, and what the words of a state hold: no word overflows, and each value is read back.
use Rattle.std.proofs.Common.{◌≡◌, ◌≢◌, ℕ, zero, suc, ◌+◌, ◌*◌, ◌/◌, ◌%◌, ◌^◌, ◌<◌, ◌≤◌, eqb, eq-eqb, List, [], ◌∷◌, ◌++◌, length, drop, get_or, map, refl, sym, ap, subst, ◌∙◌, arith, ne_eqb, append_assoc, add-one, drop-cons}
use Rattle.std.specs.Prelude.{All, slice_index, nat_le}
use Rattle.std.proofs.Math.Logic.{⊎_elim}
use Rattle.std.proofs.Math.Nat.{pow-le-pow_right, zero-add}
use Rattle.std.proofs.lemmas.Nat.{pow-add, shr_high, mod_low, mul-add-lt}
use Rattle.std.proofs.lemmas.Bool.{cond-true, cond-false, cases_eq, cond_both, leb-true, leb-false}
use Rattle.std.proofs.lemmas.List.{get_or-map, get_or_default, length-map}
use Rattle.std.proofs.lemmas.List.FromFn.{get_or-map-range_with_len}
use Rattle.std.proofs.lemmas.List.Elements.{All-nil, All-cons, All-head, All-tail, All-weaker}
use Rattle.fdr.specs.Tasks.{IsState}
use Rattle.packed.specs.declared.field.Field.{Field}
use Rattle.packed.specs.Fields.{width_of, place, fields_from, fields, words_from, word_count, word_at, words_of, value_in, values_in, AreWithinLimits, IsPlaced, ArePacked}
use Rattle.packed.proofs.Digits.{width_enough, width_le}

-- what holds of a field in the rest of the word and of one at the beginning of the next holds of the field that is placed
place_both : (word bit width : ℕ) (P : Field → Type 0)
    → (bit + width ≤ 64 → P (record { word = word; shift = bit; width = width }))
    → (64 < bit + width → P (record { word = word + 1; shift = 0; width = width }))
    → P (place word bit width)
place_both word bit width P fits over =
    cond_both (nat_le (bit + width) 64) (record { word = word; shift = bit; width = width }) (record { word = word + 1; shift = 0; width = width }) P
    (λ e. fits (leb-true (bit + width) 64 e)) (λ e. over (leb-false (bit + width) 64 e))

-- ---- states, value by value

head_in_range : (range value : ℕ) (ranges values : List ℕ) → IsState (range ∷ ranges) (value ∷ values) → value < range
head_in_range range value ranges values s = s.in_range 0 (omega arith)

tail_state : (range value : ℕ) (ranges values : List ℕ) → IsState (range ∷ ranges) (value ∷ values) → IsState ranges values
tail_state range value ranges values s =
    record { as_long = omega (arith, s.as_long); in_range = λ v l. s.in_range (suc v) (omega arith) }

head_in_width : (range value : ℕ) (ranges values : List ℕ) → IsState (range ∷ ranges) (value ∷ values) → value < 2 ^ width_of range
head_in_width range value ranges values s = omega (arith, head_in_range range value ranges values s, width_enough range)

-- ---- one word

pub own_field : (k : ℕ) (field : Field) (rest : List Field) (value : ℕ) (values : List ℕ) → field.word ≡ k
    → word_at k (field ∷ rest) (value ∷ values) ≡ value * 2 ^ field.shift + word_at k rest values
own_field k field rest value values own =
    ap (λ n. n + word_at k rest values) (cond-true (eqb field.word k) (value * 2 ^ field.shift) 0 (eq-eqb field.word k own))

pub other_field : (k : ℕ) (field : Field) (rest : List Field) (value : ℕ) (values : List ℕ) → field.word ≢ k
    → word_at k (field ∷ rest) (value ∷ values) ≡ word_at k rest values
other_field k field rest value values other =
    ap (λ n. n + word_at k rest values) (cond-false (eqb field.word k) (value * 2 ^ field.shift) 0 (ne_eqb field.word k other))
    ∙ zero-add (word_at k rest values)

-- words before the one in use hold nothing
nothing_before : (word bit k : ℕ) (ranges values : List ℕ) → k < word → word_at k (fields_from word bit ranges) values ≡ 0
nothing_before word bit k [] values before = refl
nothing_before word bit k (range ∷ ranges) [] before = refl
nothing_before word bit k (range ∷ ranges) (value ∷ values) before =
    place_both word bit (width_of range)
    (λ field. word_at k (field ∷ fields_from field.word (field.shift + field.width) ranges) (value ∷ values) ≡ 0)
    (λ fits. other_field k (record { word = word; shift = bit; width = width_of range }) (fields_from word (bit + width_of range) ranges) value values (λ e. omega (arith, e))
    ∙ nothing_before word (bit + width_of range) k ranges values before)
    (λ over. other_field k (record { word = word + 1; shift = 0; width = width_of range }) (fields_from (word + 1) (0 + width_of range) ranges) value values (λ e. omega (arith, e))
    ∙ nothing_before (word + 1) (0 + width_of range) k ranges values (omega arith))

-- the word in use holds nothing more below the bit up to which it is in use
nothing_below : (word bit : ℕ) (ranges values : List ℕ) → (q : ℕ) × (word_at word (fields_from word bit ranges) values ≡ q * 2 ^ bit)
nothing_below word bit [] values = (0, omega arith)
nothing_below word bit (range ∷ ranges) [] = (0, omega arith)
nothing_below word bit (range ∷ ranges) (value ∷ values) =
    place_both word bit width
    (λ field. (q : ℕ) × (word_at word (field ∷ fields_from field.word (field.shift + field.width) ranges) (value ∷ values) ≡ q * 2 ^ bit))
    (λ fits.
    let rest = nothing_below word (bit + width) ranges values in
    let own = own_field word (record { word = word; shift = bit; width = width }) (fields_from word (bit + width) ranges) value values refl in
    (value + rest.0 * 2 ^ width, omega (arith, own, rest.1, ap (λ p. rest.0 * p) (pow-add 2 bit width))))
    (λ over. (
      0,
      omega (
        arith,
        other_field word (record { word = word + 1; shift = 0; width = width }) (fields_from (word + 1) (0 + width) ranges) value values (λ e. omega (arith, e)),
        nothing_before (word + 1) (0 + width) word ranges values (omega arith),
      ),
    ))
  where
    width : ℕ
    width = width_of range

-- ---- no word overflows

abbrev IsShort : ℕ → Type 0
IsShort range = range ≤ 2 ^ 64

word_fits : (word bit low : ℕ) (ranges values : List ℕ) → All IsShort ranges → IsState ranges values → low < 2 ^ bit → bit ≤ 64
    → low + word_at word (fields_from word bit ranges) values < 2 ^ 64
word_fits word bit low [] values short state below in_word = omega (arith, pow-le-pow_right {n = 2} (omega arith) {i = bit} {j = 64} in_word)
word_fits word bit low (range ∷ ranges) [] short state below in_word = absurd (omega (arith, state.as_long))
word_fits word bit low (range ∷ ranges) (value ∷ values) short state below in_word =
    place_both word bit width
    (λ field. low + word_at word (field ∷ fields_from field.word (field.shift + field.width) ranges) (value ∷ values) < 2 ^ 64)
    (λ fits.
    let below_more : low + value * 2 ^ bit < 2 ^ (bit + width) = rw (pow-add 2 bit width) (omega (arith, mul-add-lt value (2 ^ bit) low (2 ^ width) narrow below)) in
    omega (
      arith,
      own_field word (record { word = word; shift = bit; width = width }) (fields_from word (bit + width) ranges) value values refl,
      word_fits word (bit + width) (low + value * 2 ^ bit) ranges values (All-tail IsShort range ranges short) (tail_state range value ranges values state) below_more fits,
    ))
    (λ over.
    omega (
      arith,
      other_field word (record { word = word + 1; shift = 0; width = width }) (fields_from (word + 1) (0 + width) ranges) value values (λ e. omega (arith, e)),
      nothing_before (word + 1) (0 + width) word ranges values (omega arith),
      pow-le-pow_right {n = 2} (omega arith) {i = bit} {j = 64} in_word,
    ))
  where
    width : ℕ
    width = width_of range

    narrow : value < 2 ^ width
    narrow = head_in_width range value ranges values state

later_word_fits : (word bit k : ℕ) (ranges values : List ℕ) → All IsShort ranges → IsState ranges values → word < k
    → word_at k (fields_from word bit ranges) values < 2 ^ 64
later_word_fits word bit k [] values short state later = omega arith
later_word_fits word bit k (range ∷ ranges) [] short state later = omega arith
later_word_fits word bit k (range ∷ ranges) (value ∷ values) short state later =
    place_both word bit width
    (λ field. word_at k (field ∷ fields_from field.word (field.shift + field.width) ranges) (value ∷ values) < 2 ^ 64)
    (λ fits.
    omega (
      arith,
      other_field k (record { word = word; shift = bit; width = width }) (fields_from word (bit + width) ranges) value values (λ e. omega (arith, e)),
      later_word_fits word (bit + width) k ranges values rest_short rest_state later,
    ))
    (λ over.
    ⊎_elim
    (λ here.
    let from_next : word_at k (fields_from (word + 1) (0 + width) ranges) values ≡ word_at (word + 1) (fields_from (word + 1) (0 + width) ranges) values =
    ap (λ n. word_at n (fields_from (word + 1) (0 + width) ranges) values) (sym here) in
    omega (
      arith,
      own_field k (record { word = word + 1; shift = 0; width = width }) (fields_from (word + 1) (0 + width) ranges) value values here,
      from_next,
      word_fits (word + 1) (0 + width) value ranges values rest_short rest_state (rw (zero-add width) narrow) (omega (arith, width_le range 64 (All-head IsShort range ranges short))),
    ))
    (λ apart.
    omega (
      arith,
      other_field k (record { word = word + 1; shift = 0; width = width }) (fields_from (word + 1) (0 + width) ranges) value values apart,
      later_word_fits (word + 1) (0 + width) k ranges values rest_short rest_state (omega arith),
    ))
    (cases_eq (word + 1) k))
  where
    width : ℕ
    width = width_of range

    narrow : value < 2 ^ width
    narrow = head_in_width range value ranges values state

    rest_short : All IsShort ranges
    rest_short = All-tail IsShort range ranges short

    rest_state : IsState ranges values
    rest_state = tail_state range value ranges values state

-- a word of a state has 64 bits
pub words_fit : (k : ℕ) (ranges values : List ℕ) → All IsShort ranges → IsState ranges values → word_at k (fields ranges) values < 2 ^ 64
words_fit zero ranges values short state = omega (arith, word_fits 0 0 0 ranges values short state (omega arith) (omega arith))
words_fit (suc k) ranges values short state = later_word_fits 0 0 (suc k) ranges values short state (omega arith)

-- ---- what is read back

words_from_above : (word bit : ℕ) (ranges : List ℕ) → word < words_from word bit ranges
words_from_above word bit [] = omega arith
words_from_above word bit (range ∷ ranges) =
    place_both word bit (width_of range)
    (λ field. word < words_from field.word (field.shift + field.width) ranges)
    (λ fits. words_from_above word (bit + width_of range) ranges)
    (λ over. omega (arith, words_from_above (word + 1) (0 + width_of range) ranges))

-- the value of a field, from the number in its word: what lies below the field, the value, and what lies above
read_value : (low value above bit width : ℕ) → low < 2 ^ bit → value < 2 ^ width
    → (low + (value * 2 ^ bit + above * 2 ^ (bit + width))) / 2 ^ bit % 2 ^ width ≡ value
read_value low value above bit width below narrow =
    let parts : low + (value * 2 ^ bit + above * 2 ^ (bit + width)) ≡ (above * 2 ^ width + value) * 2 ^ bit + low =
    omega (arith, ap (λ p. above * p) (pow-add 2 bit width)) in
    rw (parts, shr_high (above * 2 ^ width + value) bit low below) (mod_low above width value narrow)

both_parts : (x y : ℕ) (xs ys : List ℕ) → x ≡ y → xs ≡ ys → x ∷ xs ≡ y ∷ ys
both_parts x y xs ys head tail = ap (λ z. z ∷ xs) head ∙ ap (λ zs. y ∷ zs) tail

-- the fields of the word in use and of those after it are read back from words that hold the values, whatever lies below the
-- bit up to which the word is in use
read_back : (words : List ℕ) (word bit low : ℕ) (ranges values : List ℕ) → IsState ranges values → low < 2 ^ bit
    → slice_index words word ≡ low + word_at word (fields_from word bit ranges) values
    → ((k : ℕ) → word < k → k < words_from word bit ranges → slice_index words k ≡ word_at k (fields_from word bit ranges) values)
    → map (value_in words) (fields_from word bit ranges) ≡ values
read_back words word bit low [] [] state below this later = refl
read_back words word bit low [] (value ∷ values) state below this later = absurd (omega (arith, state.as_long))
read_back words word bit low (range ∷ ranges) [] state below this later = absurd (omega (arith, state.as_long))
read_back words word bit low (range ∷ ranges) (value ∷ values) state below this later =
    place_both word bit width
    (λ field.
    slice_index words word ≡ low + word_at word (field ∷ fields_from field.word (field.shift + field.width) ranges) (value ∷ values)
    → ((k : ℕ) → word < k → k < words_from field.word (field.shift + field.width) ranges
    → slice_index words k ≡ word_at k (field ∷ fields_from field.word (field.shift + field.width) ranges) (value ∷ values))
    → map (value_in words) (field ∷ fields_from field.word (field.shift + field.width) ranges) ≡ value ∷ values)
    (λ fits this later.
    let field : Field = record { word = word; shift = bit; width = width } in
    let others = fields_from word (bit + width) ranges in
    let own = own_field word field others value values refl in
    let above = nothing_below word (bit + width) ranges values in
    let below_more : low + value * 2 ^ bit < 2 ^ (bit + width) = rw (pow-add 2 bit width) (omega (arith, mul-add-lt value (2 ^ bit) low (2 ^ width) narrow below)) in
    let parts : slice_index words word ≡ low + (value * 2 ^ bit + above.0 * 2 ^ (bit + width)) = omega (arith, this, own, above.1) in
    both_parts (value_in words field) value (map (value_in words) others) values
    (ap (λ n. n / 2 ^ bit % 2 ^ width) parts ∙ read_value low value above.0 bit width below narrow)
    (read_back words word (bit + width) (low + value * 2 ^ bit) ranges values rest_state below_more (omega (arith, this, own))
    (λ k after within. later k after within ∙ other_field k field others value values (λ e. omega (arith, e)))))
    (λ over this later.
    let field : Field = record { word = word + 1; shift = 0; width = width } in
    let others = fields_from (word + 1) (0 + width) ranges in
    let above = nothing_below (word + 1) (0 + width) ranges values in
    let next = later (word + 1) (omega arith) (words_from_above (word + 1) (0 + width) ranges) ∙ own_field (word + 1) field others value values refl in
    let parts : slice_index words (word + 1) ≡ 0 + (value * 2 ^ 0 + above.0 * 2 ^ (0 + width)) = omega (arith, next, above.1) in
    both_parts (value_in words field) value (map (value_in words) others) values
    (ap (λ n. n / 2 ^ 0 % 2 ^ width) parts ∙ read_value 0 value above.0 0 width (omega arith) narrow)
    (read_back words (word + 1) (0 + width) value ranges values rest_state (rw (zero-add width) narrow) (omega (arith, next))
    (λ k after within. later k (omega arith) within ∙ other_field k field others value values (λ e. omega (arith, e)))))
    this later
  where
    width : ℕ
    width = width_of range

    narrow : value < 2 ^ width
    narrow = head_in_width range value ranges values state

    rest_state : IsState ranges values
    rest_state = tail_state range value ranges values state

pub word_of : (count : ℕ) (ranges values : List ℕ) (k : ℕ) → k < count → slice_index (words_of count ranges values) k ≡ word_at k (fields ranges) values
word_of count ranges values k within = get_or-map-range_with_len (λ k. word_at k (fields ranges) values) 0 count k k 0 within (omega arith)

-- the values of a state are read back from its words
pub packed_back : (count : ℕ) (ranges values : List ℕ) → word_count ranges ≤ count → IsState ranges values
    → values_in (words_of count ranges values) ranges ≡ values
packed_back count ranges values fits state =
    read_back (words_of count ranges values) 0 0 0 ranges values state (omega arith)
    (word_of count ranges values 0 (omega (arith, words_from_above 0 0 ranges)) ∙ sym (zero-add (word_at 0 (fields ranges) values)))
    (λ k after within. word_of count ranges values k (omega arith))

-- the words of a state are packed
pub words_are_packed : (count : ℕ) (ranges values : List ℕ) → word_count ranges ≤ count → IsState ranges values
    → ArePacked count ranges (words_of count ranges values)
words_are_packed count ranges values fits state =
    let back = packed_back count ranges values fits state in
    record {
      fits = fits;
      state = subst (λ vs. IsState ranges vs) (sym back) state;
      no_other_bits = ap (words_of count ranges) (sym back);
    }

-- ---- fields of ranges up to 65536

abbrev IsLimited : ℕ → Type 0
IsLimited range = range ≤ 65536

words_few : (word bit : ℕ) (ranges : List ℕ) → words_from word bit ranges ≤ word + length ranges + 1
words_few word bit [] = omega arith
words_few word bit (range ∷ ranges) =
    place_both word bit (width_of range)
    (λ field. words_from field.word (field.shift + field.width) ranges ≤ word + suc (length ranges) + 1)
    (λ fits. omega (arith, words_few word (bit + width_of range) ranges))
    (λ over. omega (arith, words_few (word + 1) (0 + width_of range) ranges))

word_count_few : (ranges : List ℕ) → word_count ranges ≤ length ranges + 1
word_count_few ranges = omega (arith, words_few 0 0 ranges)

-- where a field lies, in words up to this many
record LiesIn (count : ℕ) (field : Field) : Type 0 where
  inside : field.word < count
  in_one_word : field.shift + field.width ≤ 64
  narrow : field.width ≤ 16

lie_in : (word bit : ℕ) (ranges : List ℕ) → bit ≤ 64 → All IsLimited ranges
    → All (LiesIn (words_from word bit ranges)) (fields_from word bit ranges)
lie_in word bit [] in_word limited = All-nil (LiesIn (word + 1))
lie_in word bit (range ∷ ranges) in_word limited =
    place_both word bit (width_of range)
    (λ field. All (LiesIn (words_from field.word (field.shift + field.width) ranges)) (field ∷ fields_from field.word (field.shift + field.width) ranges))
    (λ fits.
    All-cons (LiesIn (words_from word (bit + width_of range) ranges)) (record { word = word; shift = bit; width = width_of range }) (fields_from word (bit + width_of range) ranges)
    (record { inside = words_from_above word (bit + width_of range) ranges; in_one_word = fits; narrow = narrow })
    (lie_in word (bit + width_of range) ranges fits rest_limited))
    (λ over.
    All-cons (LiesIn (words_from (word + 1) (0 + width_of range) ranges)) (record { word = word + 1; shift = 0; width = width_of range }) (fields_from (word + 1) (0 + width_of range) ranges)
    (record { inside = words_from_above (word + 1) (0 + width_of range) ranges; in_one_word = omega (arith, narrow); narrow = narrow })
    (lie_in (word + 1) (0 + width_of range) ranges (omega (arith, narrow)) rest_limited))
  where
    narrow : width_of range ≤ 16
    narrow = width_le range 16 (All-head IsLimited range ranges limited)

    rest_limited : All IsLimited ranges
    rest_limited = All-tail IsLimited range ranges limited

placed_since : (count : ℕ) (ranges : List ℕ) → word_count ranges ≤ count → AreWithinLimits ranges → (field : Field) → LiesIn (word_count ranges) field → IsPlaced count field
placed_since count ranges room limits field lies =
    record {
      inside = omega (arith, lies.inside);
      near = omega (arith, lies.inside, word_count_few ranges, limits.variables);
      in_one_word = lies.in_one_word;
      narrow = lies.narrow;
    }

fields_placed : (count : ℕ) (ranges : List ℕ) → word_count ranges ≤ count → AreWithinLimits ranges → All (IsPlaced count) (fields ranges)
fields_placed count ranges room limits =
    All-weaker (LiesIn (word_count ranges)) (IsPlaced count) (placed_since count ranges room limits) (fields ranges)
    (lie_in 0 0 ranges (omega arith) limits.values)

-- the field that belongs to a variable
pub record IsFieldOf (count : ℕ) (ranges : List ℕ) (variable : ℕ) (field : Field) : Type 0 where
  pub exists : variable < length (fields ranges)
  pub is : field ≡ get_or (fields ranges) variable field
  pub placed : IsPlaced count field

-- a loop over a list of the fields reads the field of each variable
pub field_of : (count : ℕ) (ranges : List ℕ) (found : List Field) (variable : ℕ)
    → word_count ranges ≤ count → AreWithinLimits ranges → found ≡ fields ranges → variable < length found
    → IsFieldOf count ranges variable (get_or found variable (record { word = 0; shift = 0; width = 0 }))
field_of count ranges found variable room limits found_is within =
    record { exists = exists; is = is; placed = subst (λ f. IsPlaced count f) (sym is) (fields_placed count ranges room limits variable field exists) }
  where
    field : Field
    field = get_or found variable (record { word = 0; shift = 0; width = 0 })

    exists : variable < length (fields ranges)
    exists = omega (arith, within, ap length found_is)

    is : field ≡ get_or (fields ranges) variable field
    is =
        ap (λ fs. get_or fs variable (record { word = 0; shift = 0; width = 0 })) found_is
        ∙ get_or_default (fields ranges) variable (record { word = 0; shift = 0; width = 0 }) field exists

length_from : (word bit : ℕ) (ranges : List ℕ) → length (fields_from word bit ranges) ≡ length ranges
length_from word bit [] = refl
length_from word bit (range ∷ ranges) =
    let field = place word bit (width_of range) in ap suc (length_from field.word (field.shift + field.width) ranges)

pub length-fields : (ranges : List ℕ) → length (fields ranges) ≡ length ranges
length-fields ranges = length_from 0 0 ranges

-- the field of a variable is as wide as its range asks
wide : (word bit : ℕ) (ranges : List ℕ) (v : ℕ) (d : Field) → v < length ranges → (get_or (fields_from word bit ranges) v d).width ≡ width_of (get_or ranges v 0)
wide word bit [] v d within = absurd (omega arith)
wide word bit (range ∷ ranges) zero d within =
    place_both word bit (width_of range) (λ field. field.width ≡ width_of range) (λ _. refl) (λ _. refl)
wide word bit (range ∷ ranges) (suc v) d within =
    let field = place word bit (width_of range) in wide field.word (field.shift + field.width) ranges v d (omega arith)

pub narrow_value : (count : ℕ) (ranges : List ℕ) (v value : ℕ) (field : Field) → v < length ranges → value < get_or ranges v 0 → IsFieldOf count ranges v field
    → value < 2 ^ field.width
narrow_value count ranges v value field exists below at =
    let width : field.width ≡ width_of (get_or ranges v 0) = ap (λ (f : Field). f.width) at.is ∙ wide 0 0 ranges v field exists in
    omega (arith, below, width_enough (get_or ranges v 0), ap (λ w. 2 ^ w) width)

-- in more words it is the same field
pub field_among : (count more : ℕ) (ranges : List ℕ) (v : ℕ) (field : Field) → count ≤ more → IsFieldOf count ranges v field → IsFieldOf more ranges v field
field_among count more ranges v field room at =
    record {
      exists = at.exists;
      is = at.is;
      placed = record {
        inside = omega (arith, at.placed.inside);
        near = at.placed.near;
        in_one_word = at.placed.in_one_word;
        narrow = at.placed.narrow;
      };
    }

-- the value of a variable is the number in its field
pub value_at : (count : ℕ) (words ranges : List ℕ) (variable : ℕ) (field : Field) → IsFieldOf count ranges variable field
    → get_or (values_in words ranges) variable 0 ≡ value_in words field
value_at count words ranges variable field at =
    get_or-map (value_in words) (fields ranges) variable field 0 at.exists ∙ ap (value_in words) (sym at.is)

pub length-values_in : (words ranges : List ℕ) → length (values_in words ranges) ≡ length ranges
length-values_in words ranges = length-map (fields ranges) (value_in words) ∙ length-fields ranges

-- ---- the loop that places fields

-- fields are placed up to this variable, where this word is in use up to this bit
pub record IsPlacing (ranges : List ℕ) (done : ℕ) (placed : List Field) (word bit : ℕ) : Type 0 where
  pub in_word : bit ≤ 64
  pub few : word ≤ done
  pub fields : placed ++ fields_from word bit (drop done ranges) ≡ fields ranges
  pub word_count : words_from word bit (drop done ranges) ≡ word_count ranges

-- the next field is placed
placing_field : (ranges : List ℕ) (done : ℕ) (placed : List Field) (word bit : ℕ) (field : Field)
    → done < length ranges → IsPlacing ranges done placed word bit
    → field ≡ place word bit (width_of (get_or ranges done 0)) → field.word ≤ done + 1 → field.shift + field.width ≤ 64
    → IsPlacing ranges (done + 1) (placed ++ field ∷ []) field.word (field.shift + field.width)
placing_field ranges done placed word bit field more before is few in_word =
    record {
      in_word = in_word;
      few = few;
      fields =
          append_assoc placed (field ∷ []) (fields_from field.word (field.shift + field.width) (drop (done + 1) ranges))
          ∙ ap (λ f. placed ++ f ∷ fields_from f.word (f.shift + f.width) (drop (done + 1) ranges)) is
          ∙ ap (λ rs. placed ++ fields_from word bit rs) (sym next)
          ∙ before.fields;
      word_count =
          ap (λ f. words_from f.word (f.shift + f.width) (drop (done + 1) ranges)) is
          ∙ ap (λ rs. words_from word bit rs) (sym next)
          ∙ before.word_count;
    }
  where
    next : drop done ranges ≡ get_or ranges done 0 ∷ drop (done + 1) ranges
    next = drop-cons ranges done 0 more ∙ ap (λ i. get_or ranges done 0 ∷ drop i ranges) (sym (add-one done))

-- in the rest of the word
pub placing_here : (ranges : List ℕ) (done : ℕ) (placed : List Field) (word bit width : ℕ)
    → done < length ranges → IsPlacing ranges done placed word bit → width ≡ width_of (get_or ranges done 0) → bit + width ≤ 64
    → IsPlacing ranges (done + 1) (placed ++ record { word = word; shift = bit; width = width } ∷ []) word (bit + width)
placing_here ranges done placed word bit width more before is fits =
    placing_field ranges done placed word bit (record { word = word; shift = bit; width = width }) more before here (omega (arith, before.few)) fits
  where
    here : record { word = word; shift = bit; width = width } ≡ place word bit (width_of (get_or ranges done 0))
    here =
        place_both word bit (width_of (get_or ranges done 0)) (λ field. record { word = word; shift = bit; width = width } ≡ field)
        (λ _. ap (λ w. record { word = word; shift = bit; width = w }) is)
        (λ over. absurd (omega (arith, over, is)))

-- at the beginning of the next word
pub placing_next : (ranges : List ℕ) (done : ℕ) (placed : List Field) (word bit width : ℕ)
    → done < length ranges → IsPlacing ranges done placed word bit → width ≡ width_of (get_or ranges done 0) → 64 < bit + width → width ≤ 64
    → IsPlacing ranges (done + 1) (placed ++ record { word = word + 1; shift = 0; width = width } ∷ []) (word + 1) (0 + width)
placing_next ranges done placed word bit width more before is over narrow =
    placing_field ranges done placed word bit (record { word = word + 1; shift = 0; width = width }) more before next (omega (arith, before.few)) (omega (arith, narrow))
  where
    next : record { word = word + 1; shift = 0; width = width } ≡ place word bit (width_of (get_or ranges done 0))
    next =
        place_both word bit (width_of (get_or ranges done 0)) (λ field. record { word = word + 1; shift = 0; width = width } ≡ field)
        (λ fits. absurd (omega (arith, fits, is)))
        (λ _. ap (λ w. record { word = word + 1; shift = 0; width = w }) is)
