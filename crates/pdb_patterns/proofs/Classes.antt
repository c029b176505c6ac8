-- The classes of the values of a variable that the goal names.
use Rattle.std.proofs.Common.{◌≡◌, ℕ, zero, suc, ◌+◌, ◌-◌, ◌<◌, ◌≤◌, ◌⊎◌, ◌↔◌, min, max, true, false, List, map, refl, sym, ap, ◌∙◌, inl, inr, ⊎_elim, arith, eqb, ltb}
use Rattle.std.specs.Prelude.{slice_index}
use Rattle.std.specs.List.{range_with_len}
use Rattle.std.proofs.lemmas.Bool.{cases_lt, cases_eq, and_from, or_parts, or_from, le-leb, lt-ltb, le-ltb, ltb-false, eqb-false, eq-eqb, ne_eqb}
use Rattle.std.proofs.lemmas.List.FromFn.{length-map-range_with_len, get_or-map-range_with_len}
use Rattle.abstraction_domain.specs.Rows.{class_count, numbered_from, are_numbered}
use Rattle.pdb_patterns.specs.GoalClasses.{others_below, is_single, AreGoalClasses, goal_class}

-- ---- lists of classes

pub few_classes : (f : ℕ → ℕ) (limit : ℕ) → ((v : ℕ) → f v < limit) → (a n : ℕ) → class_count (map f (range_with_len a n)) ≤ limit
few_classes f limit below a zero = omega arith
few_classes f limit below a (suc n) = omega (arith, below a, few_classes f limit below (a + 1) n)

-- classes of which each is at most the number of classes before it
numbered_by : (f count : ℕ → ℕ) → ((v : ℕ) → f v ≤ count v) → ((v : ℕ) → max (count v) (f v + 1) ≡ count (v + 1)) → (v n : ℕ) → numbered_from (count v) (map f (range_with_len v n)) ≡ true
numbered_by f count low next v zero = refl
numbered_by f count low next v (suc n) = and_from _ _ (le-leb (f v) (count v) (low v)) (rw (next v) (numbered_by f count low next (v + 1) n))

-- ---- the class of one value

module _ (goal value : ℕ) where
  others : ((goal < value) × (others_below goal value ≡ value - 1)) ⊎ ((value ≤ goal) × (others_below goal value ≡ value))
  others = ⊎_elim
      (λ (l : goal < value). inl (l, rw (lt-ltb goal value l) refl))
      (λ (l : value ≤ goal). inr (l, rw (le-ltb goal value l) refl))
      (cases_lt goal value)

module _ (limit goal : ℕ) (some : 2 ≤ limit) where
  -- neither the goal's value nor one of the first others
  abbrev IsRest : ℕ → Type 0
  IsRest v = (v ≡ goal → ⊥) × (limit - 2 ≤ others_below goal v)

  rest_is : (v : ℕ) → (is_single limit goal v ≡ false) ↔ IsRest v
  rest_is v = (
    λ e. let parts = or_parts (eqb v goal) (ltb (others_below goal v) (limit - 2)) e in (eqb-false v goal parts.0, ltb-false (others_below goal v) (limit - 2) parts.1),
    λ h. or_from (eqb v goal) (ltb (others_below goal v) (limit - 2)) (ne_eqb v goal h.0) (le-ltb (others_below goal v) (limit - 2) h.1),
  )

  abbrev IsLow : ℕ → Type 0
  IsLow v = (goal < limit - 1) × (goal_class limit goal v ≡ min v (limit - 1))

  abbrev IsGoal : ℕ → Type 0
  IsGoal v = (limit - 1 ≤ goal) × (v ≡ goal) × (goal_class limit goal v ≡ limit - 1)

  abbrev IsHigh : ℕ → Type 0
  IsHigh v = (limit - 1 ≤ goal) × (v ≡ goal → ⊥) × (goal_class limit goal v ≡ min v (limit - 2))

  class_is : (v : ℕ) → IsLow v ⊎ (IsGoal v ⊎ IsHigh v)
  class_is v = ⊎_elim
      (λ (l : goal < limit - 1). inl (l, rw (lt-ltb goal (limit - 1) l) refl))
      (λ (h : limit - 1 ≤ goal). inr (⊎_elim
      (λ (e : v ≡ goal). inl (h, e, rw (le-ltb goal (limit - 1) h, eq-eqb v goal e) refl))
      (λ (n : v ≡ goal → ⊥). inr (h, n, rw (le-ltb goal (limit - 1) h, ne_eqb v goal n) refl))
      (cases_eq v goal)))
      (cases_lt goal (limit - 1))

  -- a value that shares its class is one of the rest
  alone : (v w : ℕ) → goal_class limit goal v ≡ goal_class limit goal w → (v ≡ w → ⊥) → IsRest v
  alone v w e ne = (not_goal (class_is v) (class_is w), late (class_is v) (class_is w) (others goal v))
    where
      not_goal : IsLow v ⊎ (IsGoal v ⊎ IsHigh v) → IsLow w ⊎ (IsGoal w ⊎ IsHigh w) → v ≡ goal → ⊥
      not_goal (inl a) (inl b) g = omega (arith, a, b)
      not_goal (inl a) (inr (inl b)) g = omega (arith, a, b)
      not_goal (inl a) (inr (inr b)) g = omega (arith, a, b)
      not_goal (inr (inl a)) (inl b) g = omega (arith, a, b)
      not_goal (inr (inl a)) (inr (inl b)) g = omega (arith, a, b)
      not_goal (inr (inl a)) (inr (inr b)) g = omega (arith, a, b)
      not_goal (inr (inr a)) b g = a.1 g

      late : IsLow v ⊎ (IsGoal v ⊎ IsHigh v) → IsLow w ⊎ (IsGoal w ⊎ IsHigh w)
          → ((goal < v) × (others_below goal v ≡ v - 1)) ⊎ ((v ≤ goal) × (others_below goal v ≡ v)) → limit - 2 ≤ others_below goal v
      late (inl a) (inl b) (inl o) = omega (arith, a, b, o)
      late (inl a) (inl b) (inr o) = omega (arith, a, b, o)
      late (inl a) (inr (inl b)) o = omega (arith, a, b)
      late (inl a) (inr (inr b)) o = omega (arith, a, b)
      late (inr (inl a)) (inl b) o = omega (arith, a, b)
      late (inr (inr a)) (inl b) o = omega (arith, a, b)
      late (inr (inl a)) (inr (inl b)) o = omega (arith, a, b)
      late (inr (inl a)) (inr (inr b)) o = omega (arith, a, b)
      late (inr (inr a)) (inr (inl b)) o = omega (arith, a, b)
      late (inr (inr a)) (inr (inr b)) (inl o) = omega (arith, a, b, o)
      late (inr (inr a)) (inr (inr b)) (inr o) = omega (arith, a, b, o)

  rest_class : (v : ℕ) → IsRest v → ((goal < limit - 1) × (goal_class limit goal v ≡ limit - 1)) ⊎ ((limit - 1 ≤ goal) × (goal_class limit goal v ≡ limit - 2))
  rest_class v rest = go (class_is v) (others goal v)
    where
      go : IsLow v ⊎ (IsGoal v ⊎ IsHigh v) → ((goal < v) × (others_below goal v ≡ v - 1)) ⊎ ((v ≤ goal) × (others_below goal v ≡ v))
          → ((goal < limit - 1) × (goal_class limit goal v ≡ limit - 1)) ⊎ ((limit - 1 ≤ goal) × (goal_class limit goal v ≡ limit - 2))
      go (inl a) (inl o) = inl (a.0, omega (arith, a, o, rest.1))
      go (inl a) (inr o) = absurd (rest.0 (omega (arith, a, o, rest.1)))
      go (inr (inl a)) o = absurd (rest.0 a.1)
      go (inr (inr a)) (inl o) = inr (a.0, omega (arith, a, o, rest.1))
      go (inr (inr a)) (inr o) = inr (a.0, omega (arith, a, o, rest.1))

  joined : (v w : ℕ) → IsRest v → IsRest w → goal_class limit goal v ≡ goal_class limit goal w
  joined v w a b = go (rest_class v a) (rest_class w b)
    where
      go : ((goal < limit - 1) × (goal_class limit goal v ≡ limit - 1)) ⊎ ((limit - 1 ≤ goal) × (goal_class limit goal v ≡ limit - 2))
          → ((goal < limit - 1) × (goal_class limit goal w ≡ limit - 1)) ⊎ ((limit - 1 ≤ goal) × (goal_class limit goal w ≡ limit - 2)) → goal_class limit goal v ≡ goal_class limit goal w
      go (inl x) (inl y) = omega (arith, x, y)
      go (inl x) (inr y) = omega (arith, x, y)
      go (inr x) (inl y) = omega (arith, x, y)
      go (inr x) (inr y) = omega (arith, x, y)

  -- ---- the classes of all values

  below_limit : (v : ℕ) → goal_class limit goal v < limit
  below_limit v = go (class_is v)
    where
      go : IsLow v ⊎ (IsGoal v ⊎ IsHigh v) → goal_class limit goal v < limit
      go (inl a) = omega (arith, a)
      go (inr (inl a)) = omega (arith, a)
      go (inr (inr a)) = omega (arith, a)

  -- the number of classes of the values below this one
  count_below : ℕ → ℕ
  count_below v = min v (limit - 1) + min 1 (v - goal)

  low_count : goal < limit - 1 → (v : ℕ) → (goal_class limit goal v ≤ min v limit) × (max (min v limit) (goal_class limit goal v + 1) ≡ min (v + 1) limit)
  low_count l v = go (class_is v)
    where
      go : IsLow v ⊎ (IsGoal v ⊎ IsHigh v) → (goal_class limit goal v ≤ min v limit) × (max (min v limit) (goal_class limit goal v + 1) ≡ min (v + 1) limit)
      go (inl a) = (omega (arith, a), omega (arith, a))
      go (inr (inl a)) = absurd (omega (arith, a, l))
      go (inr (inr a)) = absurd (omega (arith, a, l))

  high_count : limit - 1 ≤ goal → (v : ℕ) → (goal_class limit goal v ≤ count_below v) × (max (count_below v) (goal_class limit goal v + 1) ≡ count_below (v + 1))
  unfolding count_below
  high_count h v = go (class_is v)
    where
      go : IsLow v ⊎ (IsGoal v ⊎ IsHigh v) → (goal_class limit goal v ≤ min v (limit - 1) + min 1 (v - goal))
          × (max (min v (limit - 1) + min 1 (v - goal)) (goal_class limit goal v + 1) ≡ min (v + 1) (limit - 1) + min 1 (v + 1 - goal))
      go (inl a) = absurd (omega (arith, a, h))
      go (inr (inl a)) = (omega (arith, a), omega (arith, a, some))
      go (inr (inr a)) = (omega (arith, a), omega (arith, a, some))

  numbered : (range : ℕ) → are_numbered (map (goal_class limit goal) (range_with_len 0 range)) ≡ true
  unfolding count_below
  numbered range = ⊎_elim
      (λ (l : goal < limit - 1). let none : min 0 limit ≡ 0 = omega arith in
      rw none at (numbered_by (goal_class limit goal) (λ v. min v limit) (λ v. (low_count l v).0) (λ v. (low_count l v).1) 0 range))
      (λ (h : limit - 1 ≤ goal). let none : count_below 0 ≡ 0 = omega arith in
      rw none at (numbered_by (goal_class limit goal) count_below (λ v. (high_count h v).0) (λ v. (high_count h v).1) 0 range))
      (cases_lt goal (limit - 1))

  module _ (range : ℕ) where
    abbrev classes : List ℕ
    classes = map (goal_class limit goal) (range_with_len 0 range)

    at : (v : ℕ) → v < range → slice_index classes v ≡ goal_class limit goal v
    at v l = get_or-map-range_with_len (goal_class limit goal) 0 range v v 0 l (omega arith)

    shared : (v w : ℕ) → v < range → w < range → (slice_index classes v ≡ slice_index classes w) ↔ ((v ≡ w) ⊎ ((is_single limit goal v ≡ false) × (is_single limit goal w ≡ false)))
    shared v w l m = (forth, back)
      where
        forth : slice_index classes v ≡ slice_index classes w → (v ≡ w) ⊎ ((is_single limit goal v ≡ false) × (is_single limit goal w ≡ false))
        forth e =
            let same : goal_class limit goal v ≡ goal_class limit goal w = sym (at v l) ∙ e ∙ at w m in
            ⊎_elim inl (λ (ne : v ≡ w → ⊥). inr ((rest_is v).1 (alone v w same ne), (rest_is w).1 (alone w v (sym same) (λ q. ne (sym q))))) (cases_eq v w)

        back : (v ≡ w) ⊎ ((is_single limit goal v ≡ false) × (is_single limit goal w ≡ false)) → slice_index classes v ≡ slice_index classes w
        back (inl e) = ap (slice_index classes) e
        back (inr h) = at v l ∙ joined v w ((rest_is v).0 h.0) ((rest_is w).0 h.1) ∙ sym (at w m)

    pub goal_classes : AreGoalClasses limit goal range classes
    goal_classes = record { as_long = length-map-range_with_len (goal_class limit goal) 0 range; shared = shared; numbered = numbered range }

    pub few_goal_classes : class_count classes ≤ limit
    few_goal_classes = few_classes (goal_class limit goal) limit below_limit 0 range
