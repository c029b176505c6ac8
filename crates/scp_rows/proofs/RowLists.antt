-- The words in lists of rows while values are added to them.
use Rattle.std.proofs.Common.{◌≡◌, ◌≢◌, ℕ, zero, suc, ◌+◌, ◌<◌, ◌≤◌, List, [], ◌∷◌, ◌++◌, length, map, get_or, set, min, Some, refl, sym, ap, ◌∙◌, arith, ⊎_elim, ne_eqb, eq-eqb}
use Rattle.std.specs.Prelude.{slice_index, slice_get, slice_index_or}
use Rattle.std.proofs.lemmas.Bool.{cases_lt, cases_eq}
use Rattle.std.proofs.lemmas.List.{map-append, map-set, length-map, length-set, get_or-map, get_or-set_same, get_or-set_other, get_or_append_left, get_or-append_right}
use Rattle.std.proofs.lemmas.Option.{get_or_from_slice_get}
use Rattle.cost.specs.Distances.{Distance, Infinite}
use Rattle.scp_rows.specs.Rows.{word_of, word_in, added}

module _ {R : Type 0} (words : R → List ℕ) (rows : List R) where
  -- the words of a row that is read
  pub word_read : (i lane : ℕ) (x : R) → i < length rows → word_in (map words rows) i lane ≡ slice_index (words (get_or rows i x)) lane
  word_read i lane x l = ap (λ ws. slice_index ws lane) (get_or-map words rows i x [] l)

  pub word_set_same : (i lane : ℕ) (r : R) → i < length rows → word_in (map words (set rows i r)) i lane ≡ slice_index (words r) lane
  word_set_same i lane r l =
      ap (λ ws. slice_index ws lane) (ap (λ rs. get_or rs i []) (map-set words rows i r) ∙ get_or-set_same (map words rows) i (words r) [] (omega (arith, l, length-map rows words)))

  pub word_set_other : (i k lane : ℕ) (r : R) → k ≢ i → word_in (map words (set rows i r)) k lane ≡ word_in (map words rows) k lane
  word_set_other i k lane r ne =
      ap (λ ws. slice_index ws lane) (ap (λ rs. get_or rs k []) (map-set words rows i r) ∙ get_or-set_other (map words rows) i k (words r) [] ne)

  -- a row of zeros more
  pub zero_more : (r : R) → ((lane : ℕ) → slice_index (words r) lane ≡ 0) → ((i lane : ℕ) → word_in (map words rows) i lane ≡ 0) → (i lane : ℕ) → word_in (map words (rows ++ r ∷ [])) i lane ≡ 0
  zero_more r none all i lane = ap (λ rs. word_in rs i lane) (map-append words rows (r ∷ [])) ∙ ⊎_elim front back (cases_lt i (length (map words rows)))
    where
      front : i < length (map words rows) → word_in (map words rows ++ words r ∷ []) i lane ≡ 0
      front l = ap (λ ws. slice_index ws lane) (get_or_append_left (map words rows) (words r ∷ []) [] i l) ∙ all i lane

      last : (k : ℕ) → word_in (words r ∷ []) k lane ≡ 0
      last zero = none lane
      last (suc k) = refl

      back : length (map words rows) ≤ i → word_in (map words rows ++ words r ∷ []) i lane ≡ 0
      back l = ap (λ ws. slice_index ws lane) (get_or-append_right (map words rows) (words r ∷ []) (length (map words rows)) i [] refl l) ∙ last _

-- the words of the first n values are added in one lane
pub record AreAdded {R : Type 0} (words : R → List ℕ) (most lane : ℕ) (old : List R) (values : List Distance) (n : ℕ) (rows : List R) : Type 0 where
  pub as_long : length rows ≡ length old
  pub done : (i : ℕ) → i < n → word_in (map words rows) i lane ≡ min (word_in (map words old) i lane + word_of most (slice_index_or values i Infinite)) most
  pub left : (i : ℕ) → n ≤ i → word_in (map words rows) i lane ≡ word_in (map words old) i lane
  pub others : (i other : ℕ) → other ≢ lane → word_in (map words rows) i other ≡ word_in (map words old) i other

module _ {R : Type 0} (words : R → List ℕ) (most lane : ℕ) (old : List R) (values : List Distance) (n : ℕ) (rows : List R) (so_far : AreAdded words most lane old values n rows)
    (l : n < length rows) (r x : R) (d : Distance) (value : slice_get values n ≡ Some d)
    (at : slice_index (words r) lane ≡ min (slice_index (words (get_or rows n x)) lane + word_of most d) most)
    (else : (other : ℕ) → other ≢ lane → slice_index (words r) other ≡ slice_index (words (get_or rows n x)) other) where
  here : word_in (map words (set rows n r)) n lane ≡ min (word_in (map words old) n lane + word_of most (slice_index_or values n Infinite)) most
  here =
      word_set_same words rows n lane r l ∙ at
      ∙ ap (λ w. min (w + word_of most d) most) (sym (word_read words rows n lane x l) ∙ so_far.left n (omega arith))
      ∙ ap (λ e. min (word_in (map words old) n lane + word_of most e) most) (sym (get_or_from_slice_get values n d Infinite value))

  pub one_more : AreAdded words most lane old values (n + 1) (set rows n r)
  one_more = record {
    as_long = length-set rows n r ∙ so_far.as_long;
    done = λ i k. ⊎_elim
        (λ (e : i ≡ n). rw e here)
        (λ (ne : i ≡ n → ⊥). word_set_other words rows n i lane r ne ∙ so_far.done i (omega (arith, k, ne)))
        (cases_eq i n);
    left = λ i k. word_set_other words rows n i lane r (λ e. absurd (omega (arith, e, k))) ∙ so_far.left i (omega (arith, k));
    others = λ i other ne. ⊎_elim
        (λ (e : i ≡ n). rw e (word_set_same words rows n other r l ∙ else other ne ∙ sym (word_read words rows n other x l) ∙ so_far.others n other ne))
        (λ (no : i ≡ n → ⊥). word_set_other words rows n i other r no ∙ so_far.others i other ne)
        (cases_eq i n);
  }

-- what a table adds in each lane
pub table_added : {R : Type 0} (words : R → List ℕ) (most lane : ℕ) (old new : List R) (values : List Distance) (i other : ℕ)
    → word_in (map words new) i lane ≡ min (word_in (map words old) i lane + word_of most (slice_index_or values i Infinite)) most
    → (other ≢ lane → word_in (map words new) i other ≡ word_in (map words old) i other)
    → min (word_in (map words new) i other) most ≡ min (word_in (map words old) i other + added most lane (slice_index_or values i Infinite) other) most
table_added words most lane old new values i other at else = ⊎_elim same apart (cases_eq other lane)
  where
    same : other ≡ lane → min (word_in (map words new) i other) most ≡ min (word_in (map words old) i other + added most lane (slice_index_or values i Infinite) other) most
    same e = rw (e, eq-eqb lane lane refl) (omega (arith, at))

    apart : (other ≡ lane → ⊥) → min (word_in (map words new) i other) most ≡ min (word_in (map words old) i other + added most lane (slice_index_or values i Infinite) other) most
    apart ne = rw (ne_eqb other lane ne) (omega (arith, else ne))
