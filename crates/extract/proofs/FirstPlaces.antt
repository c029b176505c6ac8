-- The first element that passes a test, in a list and in rows.
use Rattle.std.proofs.Common.{◌≡◌, ◌⊎◌, ℕ, zero, suc, ◌+◌, ◌<◌, ◌≤◌, Bool, true, false, if◌then◌else◌, List, [], ◌∷◌, length, drop, get_or, Option, Some, None, refl, sym, ap, subst, ◌∙◌, inl, inr, arith, true≢false, add-one}
use Rattle.std.proofs.lemmas.Bool.{cond_both}
use Rattle.std.specs.Prelude.{slice_get}
use Rattle.std.proofs.lemmas.List.{drop_more}
use Rattle.std.proofs.lemmas.Option.{slice_get-get_or}
use Rattle.owner_theory.specs.Owners.{At}
use Rattle.extract.specs.Goals.{first_from, here_or_later, first_in_rows}

-- ---- in a list

module _ {X : Type 0} (test : X → Bool) where
  -- none passes
  abbrev pub NonePasses : List X → Type 0
  NonePasses xs = (k : ℕ) (x : X) → At xs k x → test x ≡ true → ⊥

  -- the one at index `k` passes, and none before it
  abbrev pub IsFirstAt : List X → ℕ → Type 0
  IsFirstAt xs k = (x : X) × At xs k x × (test x ≡ true) × ((l : ℕ) (y : X) → At xs l y → test y ≡ true → k ≤ l)

  -- if the list's elements have the indices from `i` on
  abbrev pub IsFirstFrom : ℕ → List X → Option ℕ → Type 0
  IsFirstFrom i xs None = NonePasses xs
  IsFirstFrom i xs (Some j) = (k : ℕ) × (j ≡ i + k) × IsFirstAt xs k

  none_later : (x : X) (xs : List X) → test x ≡ false → NonePasses xs → NonePasses (x ∷ xs)
  none_later x xs fails none zero y at passes = true≢false (sym passes ∙ ap test (sym at) ∙ fails)
  none_later x xs fails none (suc k) y at passes = none k y at passes

  least_later : (x : X) (xs : List X) (k : ℕ) → test x ≡ false → ((l : ℕ) (y : X) → At xs l y → test y ≡ true → k ≤ l)
      → (l : ℕ) (y : X) → At (x ∷ xs) l y → test y ≡ true → suc k ≤ l
  least_later x xs k fails least zero y at passes = absurd (true≢false (sym passes ∙ ap test (sym at) ∙ fails))
  least_later x xs k fails least (suc l) y at passes = let le = least l y at passes in omega (arith, le)

  first_later : (x : X) (xs : List X) (i : ℕ) (r : Option ℕ) → test x ≡ false → IsFirstFrom (suc i) xs r → IsFirstFrom i (x ∷ xs) r
  first_later x xs i None fails none = none_later x xs fails none
  first_later x xs i (Some j) fails (k, is, (y, at, passes, least)) = (suc k, omega (arith, is), (y, at, passes, least_later x xs k fails least))

  pub first_is_first : (xs : List X) (i : ℕ) → IsFirstFrom i xs (first_from test i xs)
  first_is_first [] i = λ k x at passes. at
  first_is_first (x ∷ xs) i =
      cond_both (test x) (Some i) (first_from test (suc i) xs) (IsFirstFrom i (x ∷ xs))
      (λ passes. (0, omega arith, (x, refl, passes, λ l y at is. omega arith)))
      (λ fails. first_later x xs i (first_from test (suc i) xs) fails (first_is_first xs (suc i)))

  passes_here : (xs : List X) (i : ℕ) (d : X) → i < length xs → test (get_or xs i d) ≡ true → first_from test i (drop i xs) ≡ Some i
  passes_here xs i d low passes =
      ap (first_from test i) (drop_more xs i d low) ∙ ap (λ (b : Bool). if b then Some i else first_from test (suc i) (drop (i + 1) xs)) passes

  fails_here : (xs : List X) (i : ℕ) (d : X) → i < length xs → test (get_or xs i d) ≡ false
      → first_from test (i + 1) (drop (i + 1) xs) ≡ first_from test i (drop i xs)
  fails_here xs i d low fails =
      ap (λ k. first_from test k (drop (i + 1) xs)) (add-one i)
      ∙ sym (ap (first_from test i) (drop_more xs i d low) ∙ ap (λ (b : Bool). if b then Some i else first_from test (suc i) (drop (i + 1) xs)) fails)

  -- as a test of the element there answers
  pub found_here : (xs : List X) (i : ℕ) (b : Bool) → i < length xs → ((x : X) → slice_get xs i ≡ Some x → b ≡ test x) → b ≡ true
      → Some i ≡ first_from test i (drop i xs)
  found_here [] i b low is so = absurd (omega (arith, low))
  found_here (x ∷ xs) i b low is so =
      sym (passes_here (x ∷ xs) i x low (sym (is (get_or (x ∷ xs) i x) (slice_get-get_or (x ∷ xs) i x low)) ∙ so))

  pub not_here : (xs : List X) (i : ℕ) (b : Bool) → i < length xs → ((x : X) → slice_get xs i ≡ Some x → b ≡ test x) → b ≡ false
      → first_from test (i + 1) (drop (i + 1) xs) ≡ first_from test i (drop i xs)
  not_here [] i b low is so = absurd (omega (arith, low))
  not_here (x ∷ xs) i b low is so =
      fails_here (x ∷ xs) i x low (sym (is (get_or (x ∷ xs) i x) (slice_get-get_or (x ∷ xs) i x low)) ∙ so)

-- ---- in rows

-- the pair (row, index) comes before the other one, or is equal to it
abbrev pub IsNotLater : ℕ → ℕ → ℕ → ℕ → Type 0
IsNotLater v i w j = (v < w) ⊎ ((v ≡ w) × (i ≤ j))

module _ {X Y : Type 0} (row : Y → List X) (test : X → Bool) where
  -- the element at this index of this row passes
  pub record PassesAt (ys : List Y) (k j : ℕ) : Type 0 where
    pub holder : Y
    pub there : At ys k holder
    pub element : X
    pub at : At (row holder) j element
    pub passes : test element ≡ true

  abbrev pub IsFirstPlace : ℕ → List Y → Option (ℕ × ℕ) → Type 0
  IsFirstPlace v ys None = (k j : ℕ) → PassesAt ys k j → ⊥
  IsFirstPlace v ys (Some (w, i)) = (k : ℕ) × (w ≡ v + k) × PassesAt ys k i × ((l j : ℕ) → PassesAt ys l j → IsNotLater k i l j)

  none_in_later : (y : Y) (ys : List Y) → NonePasses test (row y) → ((k j : ℕ) → PassesAt ys k j → ⊥) → (k j : ℕ) → PassesAt (y ∷ ys) k j → ⊥
  none_in_later y ys none later zero j p = none j p.element (subst (λ (z : Y). At (row z) j p.element) (sym p.there) p.at) p.passes
  none_in_later y ys none later (suc k) j p =
      later k j (record { holder = p.holder; there = p.there; element = p.element; at = p.at; passes = p.passes })

  first_here : (y : Y) (ys : List Y) (i : ℕ) → ((l : ℕ) (x : X) → At (row y) l x → test x ≡ true → i ≤ l) → (l j : ℕ) → PassesAt (y ∷ ys) l j → IsNotLater 0 i l j
  first_here y ys i least zero j p = inr (refl, least j p.element (subst (λ (z : Y). At (row z) j p.element) (sym p.there) p.at) p.passes)
  first_here y ys i least (suc l) j p = inl (omega arith)

  next_row : (k i l j : ℕ) → IsNotLater k i l j → IsNotLater (suc k) i (suc l) j
  next_row k i l j (inl lt) = inl (omega (arith, lt))
  next_row k i l j (inr (same, le)) = inr (ap suc same, le)

  first_in_later : (y : Y) (ys : List Y) (k i : ℕ) → NonePasses test (row y) → ((l j : ℕ) → PassesAt ys l j → IsNotLater k i l j)
      → (l j : ℕ) → PassesAt (y ∷ ys) l j → IsNotLater (suc k) i l j
  first_in_later y ys k i none least zero j p = absurd (none j p.element (subst (λ (z : Y). At (row z) j p.element) (sym p.there) p.at) p.passes)
  first_in_later y ys k i none least (suc l) j p =
      next_row k i l j (least l j (record { holder = p.holder; there = p.there; element = p.element; at = p.at; passes = p.passes }))

  place_later : (y : Y) (ys : List Y) (v : ℕ) (r : Option (ℕ × ℕ)) → NonePasses test (row y) → IsFirstPlace (suc v) ys r → IsFirstPlace v (y ∷ ys) r
  place_later y ys v None none later = none_in_later y ys none later
  place_later y ys v (Some (w, i)) none (k, is, p, least) = (
    suc k,
    omega (arith, is),
    record { holder = p.holder; there = p.there; element = p.element; at = p.at; passes = p.passes },
    first_in_later y ys k i none least,
  )

  place_here_or_later : (y : Y) (ys : List Y) (v : ℕ) (r : Option ℕ) (later : Option (ℕ × ℕ)) → IsFirstFrom test 0 (row y) r
      → IsFirstPlace (suc v) ys later → IsFirstPlace v (y ∷ ys) (here_or_later v r later)
  place_here_or_later y ys v None later none rest = place_later y ys v later none rest
  place_here_or_later y ys v (Some i) later (k, is, (x, at, passes, least)) rest =
      let same : k ≡ i = omega (arith, is) in (
        0,
        omega arith,
        record { holder = y; there = refl; element = x; at = subst (λ n. At (row y) n x) same at; passes = passes },
        first_here y ys i (subst (λ n. (l : ℕ) (z : X) → At (row y) l z → test z ≡ true → n ≤ l) same least),
      )

  pub place_is_first : (ys : List Y) (v : ℕ) → IsFirstPlace v ys (first_in_rows row test v ys)
  place_is_first [] v = λ k j p. p.there
  place_is_first (y ∷ ys) v =
      place_here_or_later y ys v (first_from test 0 (row y)) (first_in_rows row test (suc v) ys) (first_is_first test (row y) 0) (place_is_first ys (suc v))

  row_has : (ys : List Y) (v i : ℕ) (d : Y) → v < length ys → first_from test 0 (row (get_or ys v d)) ≡ Some i
      → first_in_rows row test v (drop v ys) ≡ Some (v, i)
  row_has ys v i d low has =
      ap (first_in_rows row test v) (drop_more ys v d low) ∙ ap (λ (r : Option ℕ). here_or_later v r (first_in_rows row test (suc v) (drop (v + 1) ys))) has

  row_lacks : (ys : List Y) (v : ℕ) (d : Y) → v < length ys → first_from test 0 (row (get_or ys v d)) ≡ None
      → first_in_rows row test (v + 1) (drop (v + 1) ys) ≡ first_in_rows row test v (drop v ys)
  row_lacks ys v d low lacks =
      ap (λ k. first_in_rows row test k (drop (v + 1) ys)) (add-one v)
      ∙ sym (ap (first_in_rows row test v) (drop_more ys v d low) ∙ ap (λ (r : Option ℕ). here_or_later v r (first_in_rows row test (suc v) (drop (v + 1) ys))) lacks)

  none_there : (r : Option ℕ) → ((i : ℕ) → r ≡ Some i → ⊥) → r ≡ None
  none_there None none = refl
  none_there (Some i) none = absurd (none i refl)

  -- as a search of the row there answers
  pub found_in_row : (ys : List Y) (v i : ℕ) (y : Y) (r : Option ℕ) → v < length ys → y ≡ get_or ys v y → r ≡ first_from test 0 (row y) → r ≡ Some i
      → Some (v, i) ≡ first_in_rows row test v (drop v ys)
  found_in_row ys v i y r low at is some = sym (row_has ys v i y low (ap (λ z. first_from test 0 (row z)) (sym at) ∙ sym is ∙ some))

  pub not_in_row : (ys : List Y) (v : ℕ) (y : Y) (r : Option ℕ) → v < length ys → y ≡ get_or ys v y → r ≡ first_from test 0 (row y) → ((i : ℕ) → r ≡ Some i → ⊥)
      → first_in_rows row test (v + 1) (drop (v + 1) ys) ≡ first_in_rows row test v (drop v ys)
  not_in_row ys v y r low at is none = row_lacks ys v y low (ap (λ z. first_from test 0 (row z)) (sym at) ∙ sym is ∙ none_there r none)
