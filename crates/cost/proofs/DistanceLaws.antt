-- The order, the sum, the larger and the lesser of distances.
use Rattle.std.proofs.Common.{◌≡◌, ◌⊎◌, ℕ, ◌+◌, ◌<◌, ◌≤◌, true, false, List, [], ◌∷◌, ◌++◌, All, length, take, get_or, max, min, refl, sym, ap, subst, ◌∙◌, inl, inr, arith, leb-true, le-leb, leb-false, ltb-true, lt-ltb, ltb-false, true≢false, ⊎_elim}
use Rattle.std.specs.Prelude.{Contains}
use Rattle.std.proofs.lemmas.Grind.{common_steps}
use Rattle.std.specs.Ordering.{ord_max, ord_min}
use Rattle.std.proofs.lemmas.List.{take_more}
use Rattle.std.proofs.lemmas.List.Elements.{All-nil, All-cons, All-head, All-tail, All-weaker, Contains-append_left, Contains-append_right, Contains-push}
use native.Mathlib.Bridge.{le_prop}
use Rattle.cost.specs.Distances.{Distance, Finite, Infinite, ◌≤ᵈ◌, ◌<ᵈ◌, ◌+ᵈ◌, is_at_most, is_below, distance_cmp, larger, lesser, total, greatest, least, IsPast, IsWithin}

-- ---- the order

pub at_most_itself : (d : Distance) → d ≤ᵈ d
at_most_itself (Finite m) = omega arith
at_most_itself Infinite = tt

pub at_most_through : (d e f : Distance) → d ≤ᵈ e → e ≤ᵈ f → d ≤ᵈ f
at_most_through d e Infinite p q = tt
at_most_through d Infinite (Finite o) p q = absurd q
at_most_through Infinite (Finite n) (Finite o) p q = absurd p
at_most_through (Finite m) (Finite n) (Finite o) p q = omega arith

pub at_most_both : (d e : Distance) → d ≤ᵈ e → e ≤ᵈ d → d ≡ e
at_most_both (Finite m) (Finite n) p q = let same : m ≡ n = omega arith in ap Finite same
at_most_both (Finite m) Infinite p q = absurd q
at_most_both Infinite (Finite n) p q = absurd p
at_most_both Infinite Infinite p q = refl

either_number : (m n : ℕ) → (m ≤ n) ⊎ (n ≤ m)
either_number m n = grind arith

pub at_most_either : (d e : Distance) → (d ≤ᵈ e) ⊎ (e ≤ᵈ d)
at_most_either d Infinite = inl tt
at_most_either Infinite (Finite n) = inr tt
at_most_either (Finite m) (Finite n) = either_number m n

pub zero_at_most : (d : Distance) → Finite 0 ≤ᵈ d
zero_at_most (Finite n) = omega arith
zero_at_most Infinite = tt

pub at_most_infinite : (d : Distance) → d ≤ᵈ Infinite
at_most_infinite d = tt

-- only infinite is as great as infinite
pub infinite_at_most : (d : Distance) → Infinite ≤ᵈ d → d ≡ Infinite
infinite_at_most (Finite n) p = absurd p
infinite_at_most Infinite p = refl

-- a number of at most n, where the distance is at most n
pub finite_below : (d : Distance) (n : ℕ) → d ≤ᵈ Finite n → (m : ℕ) × (d ≡ Finite m) × (m ≤ n)
finite_below Infinite n p = absurd p
finite_below (Finite m) n p = (m, refl, p)

-- what is at most a number is at most a greater one
pub below_more : (d : Distance) (m n : ℕ) → d ≤ᵈ Finite m → m ≤ n → d ≤ᵈ Finite n
below_more Infinite m n h l = absurd h
below_more (Finite k) m n h l = omega arith

pub at_most-prop : (d e : Distance) → IsProp (d ≤ᵈ e)
at_most-prop d Infinite = λ p q. refl
at_most-prop Infinite (Finite n) = λ p q. absurd p
at_most-prop (Finite m) (Finite n) = hlevel le_prop

-- ---- the strict order

pub below_is_at_most : (d e : Distance) → d <ᵈ e → d ≤ᵈ e
below_is_at_most Infinite e h = absurd h
below_is_at_most (Finite m) Infinite h = tt
below_is_at_most (Finite m) (Finite n) h = omega arith

pub at_most_not_below : (d e : Distance) → d ≤ᵈ e → ¬ (e <ᵈ d)
at_most_not_below d Infinite p h = absurd h
at_most_not_below Infinite (Finite n) p h = absurd p
at_most_not_below (Finite m) (Finite n) p h = omega arith

number_or : (m n : ℕ) → (m < n) ⊎ (n ≤ m)
number_or m n = grind arith

pub below_or_at_most : (d e : Distance) → (d <ᵈ e) ⊎ (e ≤ᵈ d)
below_or_at_most Infinite e = inr tt
below_or_at_most (Finite m) Infinite = inl tt
below_or_at_most (Finite m) (Finite n) = number_or m n

pub below_at_most_through : (d e f : Distance) → d <ᵈ e → e ≤ᵈ f → d <ᵈ f
below_at_most_through Infinite e f h p = absurd h
below_at_most_through (Finite m) e Infinite h p = tt
below_at_most_through (Finite m) Infinite (Finite o) h p = absurd p
below_at_most_through (Finite m) (Finite n) (Finite o) h p = omega arith

pub at_most_below_through : (d e f : Distance) → d ≤ᵈ e → e <ᵈ f → d <ᵈ f
at_most_below_through d Infinite f p h = absurd h
at_most_below_through Infinite (Finite n) f p h = absurd p
at_most_below_through (Finite m) (Finite n) Infinite p h = tt
at_most_below_through (Finite m) (Finite n) (Finite o) p h = omega arith

-- ---- the tests

pub is_at_most-true : (d e : Distance) → is_at_most d e ≡ true → d ≤ᵈ e
is_at_most-true d Infinite t = tt
is_at_most-true Infinite (Finite n) t = absurd (true≢false (sym t))
is_at_most-true (Finite m) (Finite n) t = leb-true m n t

pub is_at_most-from : (d e : Distance) → d ≤ᵈ e → is_at_most d e ≡ true
is_at_most-from d Infinite p = refl
is_at_most-from Infinite (Finite n) p = absurd p
is_at_most-from (Finite m) (Finite n) p = le-leb m n p

pub is_at_most-false : (d e : Distance) → is_at_most d e ≡ false → e <ᵈ d
is_at_most-false d Infinite t = absurd (true≢false t)
is_at_most-false Infinite (Finite n) t = tt
is_at_most-false (Finite m) (Finite n) t = leb-false m n t

pub is_below-true : (d e : Distance) → is_below d e ≡ true → d <ᵈ e
is_below-true Infinite e t = absurd (true≢false (sym t))
is_below-true (Finite m) Infinite t = tt
is_below-true (Finite m) (Finite n) t = ltb-true m n t

pub is_below-from : (d e : Distance) → d <ᵈ e → is_below d e ≡ true
is_below-from Infinite e h = absurd h
is_below-from (Finite m) Infinite h = refl
is_below-from (Finite m) (Finite n) h = lt-ltb m n h

pub is_below-false : (d e : Distance) → is_below d e ≡ false → e ≤ᵈ d
is_below-false Infinite e t = tt
is_below-false (Finite m) Infinite t = absurd (true≢false t)
is_below-false (Finite m) (Finite n) t = ltb-false m n t

-- ---- the sum

pub sum_assoc : (d e f : Distance) → d +ᵈ e +ᵈ f ≡ d +ᵈ (e +ᵈ f)
sum_assoc Infinite e f = refl
sum_assoc (Finite m) Infinite f = refl
sum_assoc (Finite m) (Finite n) Infinite = refl
sum_assoc (Finite m) (Finite n) (Finite o) = let same : m + n + o ≡ m + (n + o) = omega arith in ap Finite same

pub sum_comm : (d e : Distance) → d +ᵈ e ≡ e +ᵈ d
sum_comm Infinite Infinite = refl
sum_comm Infinite (Finite n) = refl
sum_comm (Finite m) Infinite = refl
sum_comm (Finite m) (Finite n) = let same : m + n ≡ n + m = omega arith in ap Finite same

pub zero_sum : (d : Distance) → Finite 0 +ᵈ d ≡ d
zero_sum Infinite = refl
zero_sum (Finite n) = let same : 0 + n ≡ n = omega arith in ap Finite same

pub sum_zero : (d : Distance) → d +ᵈ Finite 0 ≡ d
sum_zero d = sum_comm d (Finite 0) ∙ zero_sum d

pub sum_infinite : (d : Distance) → d +ᵈ Infinite ≡ Infinite
sum_infinite Infinite = refl
sum_infinite (Finite m) = refl

pub sum_monotone : (a b c d : Distance) → a ≤ᵈ c → b ≤ᵈ d → a +ᵈ b ≤ᵈ c +ᵈ d
sum_monotone a b Infinite d p q = tt
sum_monotone a b (Finite m) Infinite p q = tt
sum_monotone Infinite b (Finite m) (Finite n) p q = absurd p
sum_monotone (Finite k) Infinite (Finite m) (Finite n) p q = absurd q
sum_monotone (Finite k) (Finite l) (Finite m) (Finite n) p q = omega arith

-- a sum is at least its first and its second part
pub left_at_most_sum : (d e : Distance) → d ≤ᵈ d +ᵈ e
left_at_most_sum Infinite e = tt
left_at_most_sum (Finite m) Infinite = tt
left_at_most_sum (Finite m) (Finite n) = omega arith

pub right_at_most_sum : (d e : Distance) → e ≤ᵈ d +ᵈ e
right_at_most_sum Infinite e = at_most_infinite e
right_at_most_sum (Finite m) Infinite = tt
right_at_most_sum (Finite m) (Finite n) = omega arith

-- the same number may be left out on both sides
pub sum_cancels : (m : ℕ) (d e : Distance) → Finite m +ᵈ d ≤ᵈ Finite m +ᵈ e → d ≤ᵈ e
sum_cancels m d Infinite p = tt
sum_cancels m Infinite (Finite n) p = absurd p
sum_cancels m (Finite k) (Finite n) p = omega arith

-- a sum that is a number has numbers as its parts
pub finite_sum : (d e : Distance) (n : ℕ) → d +ᵈ e ≡ Finite n → (j : ℕ) × (k : ℕ) × (d ≡ Finite j) × (e ≡ Finite k) × (j + k ≡ n)
finite_sum Infinite e n s = absurd (cc)
finite_sum (Finite j) Infinite n s = absurd (cc)
finite_sum (Finite j) (Finite k) n s = (j, k, refl, refl, cc)

-- a bound on the second part gives one on the sum
pub sum_below : (b d : Distance) (m n : ℕ) → b ≤ᵈ Finite m +ᵈ d → d ≤ᵈ Finite n → b ≤ᵈ Finite (m + n)
sum_below b Infinite m n h l = absurd l
sum_below Infinite (Finite k) m n h l = absurd h
sum_below (Finite j) (Finite k) m n h l = omega arith

-- two steps side by side
pub steps_add : (a b c d : Distance) (x y : ℕ) → a ≤ᵈ Finite x +ᵈ b → c ≤ᵈ Finite y +ᵈ d → a +ᵈ c ≤ᵈ Finite (x + y) +ᵈ (b +ᵈ d)
steps_add a Infinite c d x y h k = tt
steps_add a (Finite m) c Infinite x y h k = tt
steps_add Infinite (Finite m) c (Finite n) x y h k = absurd h
steps_add (Finite i) (Finite m) Infinite (Finite n) x y h k = absurd k
steps_add (Finite i) (Finite m) (Finite j) (Finite n) x y h k = omega arith

-- ---- the larger of two

pub left_at_most_larger : (d e : Distance) → d ≤ᵈ larger d e
left_at_most_larger Infinite e = tt
left_at_most_larger (Finite m) Infinite = tt
left_at_most_larger (Finite m) (Finite n) = omega arith

pub right_at_most_larger : (d e : Distance) → e ≤ᵈ larger d e
right_at_most_larger Infinite e = tt
right_at_most_larger (Finite m) Infinite = tt
right_at_most_larger (Finite m) (Finite n) = omega arith

pub larger_at_most : (d e b : Distance) → d ≤ᵈ b → e ≤ᵈ b → larger d e ≤ᵈ b
larger_at_most d e Infinite p q = tt
larger_at_most Infinite e (Finite n) p q = absurd p
larger_at_most (Finite i) Infinite (Finite n) p q = absurd q
larger_at_most (Finite i) (Finite j) (Finite n) p q = omega arith

pub larger_right : (d e : Distance) → d ≤ᵈ e → larger d e ≡ e
larger_right d e p = at_most_both (larger d e) e (larger_at_most d e e p (at_most_itself e)) (right_at_most_larger d e)

pub larger_left : (d e : Distance) → e ≤ᵈ d → larger d e ≡ d
larger_left d e p = at_most_both (larger d e) d (larger_at_most d e d (at_most_itself d) p) (left_at_most_larger d e)

-- the larger of two is one of them
pub larger_one : (d e : Distance) → (larger d e ≡ d) ⊎ (larger d e ≡ e)
larger_one d e = ⊎_elim (λ p. inr (larger_right d e p)) (λ p. inl (larger_left d e p)) (at_most_either d e)

pub larger_comm : (d e : Distance) → larger d e ≡ larger e d
larger_comm d e =
    at_most_both (larger d e) (larger e d)
    (larger_at_most d e (larger e d) (right_at_most_larger e d) (left_at_most_larger e d))
    (larger_at_most e d (larger d e) (right_at_most_larger d e) (left_at_most_larger d e))

pub larger_assoc : (d e f : Distance) → larger (larger d e) f ≡ larger d (larger e f)
larger_assoc Infinite e f = refl
larger_assoc (Finite m) Infinite f = refl
larger_assoc (Finite m) (Finite n) Infinite = refl
larger_assoc (Finite m) (Finite n) (Finite o) = let same : max (max m n) o ≡ max m (max n o) = omega arith in ap Finite same

-- ---- the lesser of two

pub lesser_at_most_left : (d e : Distance) → lesser d e ≤ᵈ d
lesser_at_most_left Infinite e = at_most_infinite e
lesser_at_most_left (Finite m) Infinite = omega arith
lesser_at_most_left (Finite m) (Finite n) = omega arith

pub lesser_at_most_right : (d e : Distance) → lesser d e ≤ᵈ e
lesser_at_most_right Infinite e = at_most_itself e
lesser_at_most_right (Finite m) Infinite = tt
lesser_at_most_right (Finite m) (Finite n) = omega arith

pub at_most_lesser : (b d e : Distance) → b ≤ᵈ d → b ≤ᵈ e → b ≤ᵈ lesser d e
at_most_lesser b Infinite e p q = q
at_most_lesser b (Finite m) Infinite p q = p
at_most_lesser Infinite (Finite m) (Finite n) p q = absurd p
at_most_lesser (Finite k) (Finite m) (Finite n) p q = omega arith

pub lesser_left : (d e : Distance) → d ≤ᵈ e → lesser d e ≡ d
lesser_left d e p = at_most_both (lesser d e) d (lesser_at_most_left d e) (at_most_lesser d d e (at_most_itself d) p)

pub lesser_right : (d e : Distance) → e ≤ᵈ d → lesser d e ≡ e
lesser_right d e p = at_most_both (lesser d e) e (lesser_at_most_right d e) (at_most_lesser e d e p (at_most_itself e))

-- the lesser of two is one of them
pub lesser_one : (d e : Distance) → (lesser d e ≡ d) ⊎ (lesser d e ≡ e)
lesser_one d e = ⊎_elim (λ p. inl (lesser_left d e p)) (λ p. inr (lesser_right d e p)) (at_most_either d e)

pub lesser_comm : (d e : Distance) → lesser d e ≡ lesser e d
lesser_comm d e =
    at_most_both (lesser d e) (lesser e d)
    (at_most_lesser (lesser d e) e d (lesser_at_most_right d e) (lesser_at_most_left d e))
    (at_most_lesser (lesser e d) d e (lesser_at_most_right e d) (lesser_at_most_left e d))

pub lesser_assoc : (d e f : Distance) → lesser (lesser d e) f ≡ lesser d (lesser e f)
lesser_assoc Infinite e f = refl
lesser_assoc (Finite m) Infinite f = refl
lesser_assoc (Finite m) (Finite n) Infinite = refl
lesser_assoc (Finite m) (Finite n) (Finite o) = let same : min (min m n) o ≡ min m (min n o) = omega arith in ap Finite same

-- ---- lists

pub total-append : (ds es : List Distance) → total (ds ++ es) ≡ total ds +ᵈ total es
total-append [] es = sym (zero_sum (total es))
total-append (d ∷ ds) es = ap (λ (s : Distance). d +ᵈ s) (total-append ds es) ∙ sym (sum_assoc d (total ds) (total es))

-- one more at the end
pub total-push : (ds : List Distance) (d : Distance) → total (ds ++ d ∷ []) ≡ total ds +ᵈ d
total-push ds d = total-append ds (d ∷ []) ∙ ap (λ (s : Distance). total ds +ᵈ s) (sum_zero d)

zero_larger : (d : Distance) → larger (Finite 0) d ≡ d
zero_larger d = larger_right (Finite 0) d (zero_at_most d)

pub greatest-append : (ds es : List Distance) → greatest (ds ++ es) ≡ larger (greatest ds) (greatest es)
greatest-append [] es = sym (zero_larger (greatest es))
greatest-append (d ∷ ds) es = ap (larger d) (greatest-append ds es) ∙ sym (larger_assoc d (greatest ds) (greatest es))

pub greatest-push : (ds : List Distance) (d : Distance) → greatest (ds ++ d ∷ []) ≡ larger (greatest ds) d
greatest-push ds d = greatest-append ds (d ∷ []) ∙ ap (larger (greatest ds)) (larger_left d (Finite 0) (zero_at_most d))

pub least-append : (ds es : List Distance) → least (ds ++ es) ≡ lesser (least ds) (least es)
least-append [] es = refl
least-append (d ∷ ds) es = ap (lesser d) (least-append ds es) ∙ sym (lesser_assoc d (least ds) (least es))

pub least-push : (ds : List Distance) (d : Distance) → least (ds ++ d ∷ []) ≡ lesser (least ds) d
least-push ds d = least-append ds (d ∷ []) ∙ ap (lesser (least ds)) (lesser_left d Infinite (at_most_infinite d))

-- the item at i taken too, as a loop over the items does
pub total_more : (ds : List Distance) (i : ℕ) (d : Distance) → i < length ds → d ≡ get_or ds i d → total (take (i + 1) ds) ≡ total (take i ds) +ᵈ d
total_more ds i d l is = ap total (take_more ds i d l) ∙ total-push (take i ds) (get_or ds i d) ∙ ap (λ (e : Distance). total (take i ds) +ᵈ e) (sym is)

pub greatest_more : (ds : List Distance) (i : ℕ) (d : Distance) → i < length ds → d ≡ get_or ds i d → greatest (take (i + 1) ds) ≡ larger (greatest (take i ds)) d
greatest_more ds i d l is = ap greatest (take_more ds i d l) ∙ greatest-push (take i ds) (get_or ds i d) ∙ ap (λ (e : Distance). larger (greatest (take i ds)) e) (sym is)

pub least_more : (ds : List Distance) (i : ℕ) (d : Distance) → i < length ds → d ≡ get_or ds i d → least (take (i + 1) ds) ≡ lesser (least (take i ds)) d
least_more ds i d l is = ap least (take_more ds i d l) ∙ least-push (take i ds) (get_or ds i d) ∙ ap (λ (e : Distance). lesser (least (take i ds)) e) (sym is)

-- ---- what `max` and `min` give

pub ord_max-is_larger : (d e : Distance) → ord_max distance_cmp d e ≡ larger d e
ord_max-is_larger (Finite m) (Finite n) = grind (arith, common_steps)
ord_max-is_larger (Finite m) Infinite = refl
ord_max-is_larger Infinite (Finite n) = refl
ord_max-is_larger Infinite Infinite = refl

pub ord_min-is_lesser : (d e : Distance) → ord_min distance_cmp d e ≡ lesser d e
ord_min-is_lesser (Finite m) (Finite n) = grind (arith, common_steps)
ord_min-is_lesser (Finite m) Infinite = refl
ord_min-is_lesser Infinite (Finite n) = refl
ord_min-is_lesser Infinite Infinite = refl

-- each is at most the greatest
pub all_at_most_greatest : (ds : List Distance) → All (λ d. d ≤ᵈ greatest ds) ds
all_at_most_greatest [] = All-nil (λ d. d ≤ᵈ Finite 0)
all_at_most_greatest (d ∷ ds) =
    All-cons (λ e. e ≤ᵈ larger d (greatest ds)) d ds (left_at_most_larger d (greatest ds))
    (All-weaker (λ e. e ≤ᵈ greatest ds) (λ e. e ≤ᵈ larger d (greatest ds))
    (λ e p. at_most_through e (greatest ds) (larger d (greatest ds)) p (right_at_most_larger d (greatest ds)))
    ds (all_at_most_greatest ds))

-- what each is at most, the greatest is at most
pub greatest_at_most : (b : Distance) (ds : List Distance) → All (λ d. d ≤ᵈ b) ds → greatest ds ≤ᵈ b
greatest_at_most b [] p = zero_at_most b
greatest_at_most b (d ∷ ds) p =
    larger_at_most d (greatest ds) b (All-head (λ e. e ≤ᵈ b) d ds p)
    (greatest_at_most b ds (All-tail (λ e. e ≤ᵈ b) d ds p))

-- the least is at most each
pub all_at_least_least : (ds : List Distance) → All (λ d. least ds ≤ᵈ d) ds
all_at_least_least [] = All-nil (λ d. Infinite ≤ᵈ d)
all_at_least_least (d ∷ ds) =
    All-cons (λ e. lesser d (least ds) ≤ᵈ e) d ds (lesser_at_most_left d (least ds))
    (All-weaker (λ e. least ds ≤ᵈ e) (λ e. lesser d (least ds) ≤ᵈ e)
    (λ e p. at_most_through (lesser d (least ds)) (least ds) e (lesser_at_most_right d (least ds)) p)
    ds (all_at_least_least ds))

-- what is at most each is at most the least
pub at_most_least : (b : Distance) (ds : List Distance) → All (λ d. b ≤ᵈ d) ds → b ≤ᵈ least ds
at_most_least b [] p = at_most_infinite b
at_most_least b (d ∷ ds) p =
    at_most_lesser b d (least ds) (All-head (λ e. b ≤ᵈ e) d ds p)
    (at_most_least b ds (All-tail (λ e. b ≤ᵈ e) d ds p))

-- each is at most the sum of all
pub all_at_most_total : (ds : List Distance) → All (λ d. d ≤ᵈ total ds) ds
all_at_most_total [] = All-nil (λ d. d ≤ᵈ Finite 0)
all_at_most_total (d ∷ ds) =
    All-cons (λ e. e ≤ᵈ d +ᵈ total ds) d ds (left_at_most_sum d (total ds))
    (All-weaker (λ e. e ≤ᵈ total ds) (λ e. e ≤ᵈ d +ᵈ total ds)
    (λ e p. at_most_through e (total ds) (d +ᵈ total ds) p (right_at_most_sum d (total ds)))
    ds (all_at_most_total ds))

-- a finite least is one of the distances
pub finite_least : (ds : List Distance) (n : ℕ) → least ds ≡ Finite n → Contains ds (Finite n)
finite_least [] n e = absurd (cc)
finite_least (d ∷ ds) n e =
    ⊎_elim
    (λ (same : lesser d (least ds) ≡ d). subst (λ b. Contains (d ∷ ds) b) (sym same ∙ e) (Contains-append_left (d ∷ []) ds d (Contains-push [] d)))
    (λ (same : lesser d (least ds) ≡ least ds). Contains-append_right (d ∷ []) ds (Finite n) (finite_least ds n (sym same ∙ e)))
    (lesser_one d (least ds))

-- ---- limits

past_or_number : (limit n : ℕ) → (n ≤ limit) ⊎ (limit < n)
past_or_number limit n = grind arith

pub within_or_past : (limit : ℕ) (d : Distance) → IsWithin limit d ⊎ IsPast limit d
within_or_past limit Infinite = inl tt
within_or_past limit (Finite n) = past_or_number limit n

pub within_not_past : (limit : ℕ) (d : Distance) → IsWithin limit d → ¬ (IsPast limit d)
within_not_past limit Infinite p q = absurd q
within_not_past limit (Finite n) p q = omega arith
