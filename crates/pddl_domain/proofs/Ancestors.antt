-- Walks from supertype to supertype: one of enough steps ends on a cycle.
use Rattle.std.proofs.Common.{◌≡◌, ◌<◌, ◌≤◌, ◌+◌, ◌-◌, ◌*◌, ◌==◌, suc, zero, ℕ, Bool, true, false, ◌⊎◌, inl, inr, eqb, List, [], ◌∷◌, length, map, get_or, refl, sym, ap, subst, ◌∙◌, arith, ◌||◌}
use Rattle.std.specs.List.{All, AllByRecursion, IsDistinct, list_any, range_with_len}
use Rattle.std.proofs.lemmas.Bool.{eqb-true, eq-eqb, false≢true}
use Rattle.std.proofs.lemmas.List.{get_or-map, get_or_default, length-map}
use Rattle.std.proofs.lemmas.List.Folds.{Any-from_list_any, list_any_at}
use Rattle.std.proofs.lemmas.List.FromFn.{length-map-range_with_len, get_or-map-range_with_len, length-range_with_len, get_or-range_with_len, fill_by_all}
use Rattle.std.proofs.lemmas.Map.Keys.{IsDistinct-cons}
use Rattle.std.proofs.lemmas.Map.Steps.{length-le_from_distinct_below}
use Rattle.pddl_domain.specs.Cycles.{ancestor, LiesOnCycle, lies_on_cycle}

-- ---- two equal numbers among many

-- two places have one number
abbrev Meet : List ℕ → Type 0
Meet xs = (i : ℕ) × (j : ℕ) × (i < j) × (j < length xs) × (get_or xs i 0 ≡ get_or xs j 0)

none_is : (x : ℕ) (xs : List ℕ) → list_any (eqb x) xs ≡ false → AllByRecursion (λ (y : ℕ). eqb x y ≡ false) xs
none_is x [] h = tt
none_is x (y ∷ ys) h = by (eqb x y) refl h (none_is x ys)
  where
    by : (b : Bool) → eqb x y ≡ b → (b || list_any (eqb x) ys) ≡ false → (list_any (eqb x) ys ≡ false → AllByRecursion (λ (z : ℕ). eqb x z ≡ false) ys)
        → AllByRecursion (λ (z : ℕ). eqb x z ≡ false) (y ∷ ys)
    by true e k later = absurd (false≢true (sym k))
    by false e k later = (e, later k)

found : (x : ℕ) (xs : List ℕ) → list_any (eqb x) xs ≡ true → Meet (x ∷ xs)
found x xs h =
    let at = Any-from_list_any (eqb x) xs h in
    (0, suc at.0, omega arith, omega (arith, at.2), eqb-true x at.1 at.4 ∙ sym at.3 ∙ get_or_default xs at.0 at.1 0 at.2)

behind : (x : ℕ) (xs : List ℕ) → Meet xs → Meet (x ∷ xs)
behind x xs m = (suc m.0, suc m.1, omega (arith, m.2), omega (arith, m.3), m.4)

meet_or_distinct : (xs : List ℕ) → Meet xs ⊎ IsDistinct eqb xs
unfolding IsDistinct
meet_or_distinct [] = inr tt
meet_or_distinct (x ∷ xs) = by (list_any (eqb x) xs) refl (meet_or_distinct xs)
  where
    by : (b : Bool) → list_any (eqb x) xs ≡ b → Meet xs ⊎ IsDistinct eqb xs → Meet (x ∷ xs) ⊎ IsDistinct eqb (x ∷ xs)
    by true e later = inl (found x xs e)
    by false e (inl m) = inl (behind x xs m)
    by false e (inr d) = inr (IsDistinct-cons eqb x xs (none_is x xs e) d)

meet : (xs : List ℕ) (n : ℕ) → All (λ (x : ℕ). x < n) xs → n < length xs → Meet xs
meet xs n all h = by (meet_or_distinct xs)
  where
    below : (q : ℕ) → list_any (eqb q) xs ≡ true → q < n
    below q e =
        let at = Any-from_list_any (eqb q) xs e in
        subst (λ (k : ℕ). k < n) (sym (eqb-true q at.1 at.4 ∙ sym at.3)) (all at.0 at.1 at.2)

    by : Meet xs ⊎ IsDistinct eqb xs → Meet xs
    by (inl m) = m
    by (inr d) = absurd (omega (arith, length-le_from_distinct_below xs n d below, h))

-- ---- walks

-- where the walks of each number of steps up to that of the types end
abbrev walks : List ℕ → ℕ → List ℕ
walks f n = map (λ (k : ℕ). ancestor f k n) (range_with_len 0 (suc (length f)))

module _ (f : List ℕ) where
  pub ancestor-add : (a b n : ℕ) → ancestor f (a + b) n ≡ ancestor f b (ancestor f a n)
  ancestor-add zero b n = ap (λ (k : ℕ). ancestor f k n) (let e : 0 + b ≡ b = omega arith in e)
  ancestor-add (suc a) b n =
      ap (λ (k : ℕ). ancestor f k n) (let e : suc a + b ≡ suc (a + b) = omega arith in e)
      ∙ ancestor-add a b (get_or f n 0)

  -- a walk that leads back does so again and again
  ancestor-round : (k n : ℕ) → ancestor f k n ≡ n → (m : ℕ) → ancestor f (m * k) n ≡ n
  ancestor-round k n e zero = ap (λ (j : ℕ). ancestor f j n) (let z : 0 * k ≡ 0 = omega arith in z)
  ancestor-round k n e (suc m) =
      ap (λ (j : ℕ). ancestor f j n) (let z : suc m * k ≡ k + m * k = omega arith in z)
      ∙ ancestor-add k (m * k) n
      ∙ ap (λ (j : ℕ). ancestor f (m * k) j) e
      ∙ ancestor-round k n e m

  module _ (all : All (λ (s : ℕ). s < length f) f) where
    pub ancestor-within : (steps n : ℕ) → n < length f → ancestor f steps n < length f
    ancestor-within zero n h = h
    ancestor-within (suc steps) n h = ancestor-within steps (get_or f n 0) (all n 0 h)

    -- a walk of enough steps ends on a cycle that has no more steps than there are types
    ends_on_cycle : (steps n : ℕ) → length f ≤ steps → n < length f
        → (k : ℕ) × (1 ≤ k) × (k ≤ length f) × (ancestor f k (ancestor f steps n) ≡ ancestor f steps n)
    ends_on_cycle steps n long h = at (meet (walks f n) (length f) within more)
      where
        count : length (walks f n) ≡ suc (length f)
        count = length-map-range_with_len (λ (k : ℕ). ancestor f k n) 0 (suc (length f))

        walk : (k d : ℕ) → k < suc (length f) → get_or (walks f n) k d ≡ ancestor f k n
        walk k d lt = get_or-map-range_with_len (λ (j : ℕ). ancestor f j n) 0 (suc (length f)) k k d lt (omega arith)

        within : All (λ (x : ℕ). x < length f) (walks f n)
        within k d lt = subst (λ (x : ℕ). x < length f) (sym (walk k d (omega (arith, count, lt)))) (ancestor-within k n h)

        more : length f < length (walks f n)
        more = omega (arith, count)

        at : Meet (walks f n) → (k : ℕ) × (1 ≤ k) × (k ≤ length f) × (ancestor f k (ancestor f steps n) ≡ ancestor f steps n)
        at m =
            let i = m.0 in let j = m.1 in
            let same : ancestor f i n ≡ ancestor f j n = sym (walk i 0 (omega (arith, m.2, m.3, count))) ∙ m.4 ∙ walk j 0 (omega (arith, m.3, count)) in (
              j - i,
              omega (arith, m.2),
              omega (arith, m.2, m.3, count),
              sym (ancestor-add steps (j - i) n)
                  ∙ ap (λ (k : ℕ). ancestor f k n) (let e : steps + (j - i) ≡ j + (steps - i) = omega (arith, m.2, m.3, count, long) in e)
                  ∙ ancestor-add j (steps - i) n
                  ∙ ap (ancestor f (steps - i)) (sym same)
                  ∙ sym (ancestor-add i (steps - i) n)
                  ∙ ap (λ (k : ℕ). ancestor f k n) (let e : i + (steps - i) ≡ steps = omega (arith, m.2, m.3, count, long) in e),
            )

    -- what lies on a cycle is the end of a walk of this many steps
    comes_from : (n : ℕ) → n < length f → (k : ℕ) → 1 ≤ k → ancestor f k n ≡ n → (steps : ℕ) → (m : ℕ) × (m < length f) × (ancestor f steps m ≡ n)
    comes_from n h zero one e steps = absurd (omega (arith, one))
    comes_from n h (suc k) one e steps = (
      ancestor f (steps * k) n,
      ancestor-within (steps * k) n h,
      sym (ancestor-add (steps * k) steps n)
          ∙ ap (λ (j : ℕ). ancestor f j n) (let z : steps * k + steps ≡ steps * suc k = omega arith in z)
          ∙ ancestor-round (suc k) n e steps,
    )

    -- ---- the test

    lies_within : (n k : ℕ) → 1 ≤ k → k ≤ length f → ancestor f k n ≡ n → lies_on_cycle f n ≡ true
    lies_within n k one short e =
        list_any_at (λ (steps : ℕ). ancestor f steps n == n) (range_with_len 1 (length f)) (k - 1) 0
        (omega (arith, length-range_with_len 1 (length f), one, short))
        (eq-eqb (ancestor f (get_or (range_with_len 1 (length f)) (k - 1) 0) n) n
        (ap (λ (j : ℕ). ancestor f j n) (get_or-range_with_len 1 (length f) (k - 1) 0 (omega (arith, one, short)) ∙ (let z : 1 + (k - 1) ≡ k = omega (arith, one) in z)) ∙ e))

    pub lies : (n : ℕ) → lies_on_cycle f n ≡ true → LiesOnCycle f n
    lies n t =
        let at = Any-from_list_any (λ (steps : ℕ). ancestor f steps n == n) (range_with_len 1 (length f)) t in
        let i = at.0 in let y = at.1 in
        let is : y ≡ 1 + i = sym at.3 ∙ get_or-range_with_len 1 (length f) i y (omega (arith, at.2, length-range_with_len 1 (length f))) in
        (y, omega (arith, is), eqb-true (ancestor f y n) n at.4)

    pub ends_lie : (steps n : ℕ) → length f ≤ steps → n < length f → lies_on_cycle f (ancestor f steps n) ≡ true
    ends_lie steps n long h =
        let c = ends_on_cycle steps n long h in lies_within (ancestor f steps n) c.0 c.1 c.2 c.3

    pub found_on_cycle : (n : ℕ) → n < length f → LiesOnCycle f n → lies_on_cycle f n ≡ true
    found_on_cycle n h c =
        let from = comes_from n h c.0 c.1 c.2 (length f) in
        subst (λ (x : ℕ). lies_on_cycle f x ≡ true) from.2 (ends_lie (length f) from.0 (omega arith) from.1)

    -- the ends of walks of enough steps, one from each type, are those on cycles
    is_end : (steps n : ℕ) → n < length f → lies_on_cycle f n ≡ true → list_any (λ (t : ℕ). t == n) (map (ancestor f steps) (range_with_len 0 (length f))) ≡ true
    is_end steps n h t =
        let c = lies n t in let from = comes_from n h c.0 c.1 c.2 steps in
        list_any_at (λ (x : ℕ). x == n) (map (ancestor f steps) (range_with_len 0 (length f))) from.0 0
        (omega (arith, from.1, length-map-range_with_len (ancestor f steps) 0 (length f)))
        (eq-eqb (get_or (map (ancestor f steps) (range_with_len 0 (length f))) from.0 0) n
        (get_or-map-range_with_len (ancestor f steps) 0 (length f) from.0 from.0 0 from.1 (omega arith) ∙ from.2))

    end_lies : (steps n : ℕ) → length f ≤ steps → list_any (λ (t : ℕ). t == n) (map (ancestor f steps) (range_with_len 0 (length f))) ≡ true → lies_on_cycle f n ≡ true
    end_lies steps n long t =
        let at = Any-from_list_any (λ (x : ℕ). x == n) (map (ancestor f steps) (range_with_len 0 (length f))) t in
        let i = at.0 in let y = at.1 in
        let lt : i < length f = omega (arith, at.2, length-map-range_with_len (ancestor f steps) 0 (length f)) in
        let is : ancestor f steps i ≡ n = sym (get_or-map-range_with_len (ancestor f steps) 0 (length f) i i y lt (omega arith)) ∙ at.3 ∙ eqb-true y n at.4 in
        subst (λ (x : ℕ). lies_on_cycle f x ≡ true) is (ends_lie steps i long lt)

    pub ends_are : (steps n : ℕ) → length f ≤ steps → n < length f
        → list_any (λ (t : ℕ). t == n) (map (ancestor f steps) (range_with_len 0 (length f))) ≡ lies_on_cycle f n
    ends_are steps n long h = same _ _ (end_lies steps n long) (is_end steps n h)
      where
        same : (a b : Bool) → (a ≡ true → b ≡ true) → (b ≡ true → a ≡ true) → a ≡ b
        same true b there back = sym (there refl)
        same false true there back = back refl
        same false false there back = refl

    -- walks of twice as many steps
    pub doubled_ends : (far : List ℕ) (steps : ℕ) → far ≡ map (ancestor f steps) (range_with_len 0 (length f))
        → map (λ (n : ℕ). get_or far n 0) far ≡ map (ancestor f (steps * 2)) (range_with_len 0 (length f))
    doubled_ends far steps is =
        fill_by_all (ancestor f (steps * 2)) (map (λ (n : ℕ). get_or far n 0) far) (length f) 0
        (simp length-map count) each
      where
        count : length far ≡ length f
        count = ap length is ∙ length-map-range_with_len (ancestor f steps) 0 (length f)

        walk : (k : ℕ) → k < length f → get_or far k 0 ≡ ancestor f steps k
        walk k lt = ap (λ (xs : List ℕ). get_or xs k 0) is ∙ get_or-map-range_with_len (ancestor f steps) 0 (length f) k k 0 lt (omega arith)

        each : (k : ℕ) → k < length f → get_or (map (λ (n : ℕ). get_or far n 0) far) k 0 ≡ ancestor f (steps * 2) k
        each k lt =
            get_or-map (λ (n : ℕ). get_or far n 0) far k 0 0 (omega (arith, count, lt))
            ∙ ap (λ (n : ℕ). get_or far n 0) (walk k lt)
            ∙ walk (ancestor f steps k) (ancestor-within steps k lt)
            ∙ sym (ancestor-add steps steps k)
            ∙ ap (λ (j : ℕ). ancestor f j k) (let z : steps + steps ≡ steps * 2 = omega arith in z)

    pub ends_within : (steps : ℕ) (far : List ℕ) (n : ℕ) → far ≡ map (ancestor f steps) (range_with_len 0 (length f)) → n ≡ length f → All (λ (s : ℕ). s < n) far
    ends_within steps far n is same k d lt =
        let short : k < length f = omega (arith, ap length is, length-map-range_with_len (ancestor f steps) 0 (length f), lt) in
        let at : get_or far k d ≡ ancestor f steps k =
        ap (λ (xs : List ℕ). get_or xs k d) is ∙ get_or-map-range_with_len (ancestor f steps) 0 (length f) k k d short (omega arith) in
        omega (arith, at, ancestor-within steps k short, same)

    pub marks_are : (steps : ℕ) → length f ≤ steps → (far : List ℕ) → far ≡ map (ancestor f steps) (range_with_len 0 (length f))
        → map (λ (n : ℕ). list_any (λ (t : ℕ). t == n) far) (range_with_len 0 (length f)) ≡ map (lies_on_cycle f) (range_with_len 0 (length f))
    marks_are steps long far is =
        fill_by_all (lies_on_cycle f) (map (λ (n : ℕ). list_any (λ (t : ℕ). t == n) far) (range_with_len 0 (length f))) (length f) false
        (length-map-range_with_len (λ (n : ℕ). list_any (λ (t : ℕ). t == n) far) 0 (length f))
        (λ k lt. get_or-map-range_with_len (λ (n : ℕ). list_any (λ (t : ℕ). t == n) far) 0 (length f) k k false lt (omega arith)
        ∙ ap (λ (xs : List ℕ). list_any (λ (t : ℕ). t == k) xs) is
        ∙ ends_are steps k long lt)
