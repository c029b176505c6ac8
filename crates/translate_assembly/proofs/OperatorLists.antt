-- Lists of operators and of the places of their actions, one action after the other.
use Rattle.std.proofs.Common.{◌≡◌, ℕ, zero, suc, ◌+◌, ◌<◌, ◌≤◌, Bool, true, false, cond, List, [], ◌∷◌, ◌++◌, length, get_or, take, map, Option, Some, None, refl, sym, ap, ◌∙◌, arith, length-take, inl, inr}
use Rattle.std.specs.Prelude.{slice_get, filter, All}
use Rattle.std.specs.List.{filter_map, cons_option}
use Rattle.std.specs.List.Sorted.{IsStrictlyIncreasing}
use Rattle.std.proofs.lemmas.List.{take_more}
use Rattle.std.proofs.lemmas.List.Elements.{filter_map-append, All-nil, All-cons}
use Rattle.pddl_task.proofs.Lists.{Mem}
use Rattle.translate_assembly.specs.Operators.{places_where}

pub filter_more : {X Y : Type 0} (f : X → Option Y) (xs : List X) (x : X) (i : ℕ) (o : Option Y) (now after : List Y) → i < length xs → x ≡ get_or xs i x → o ≡ f x
    → now ≡ filter_map f (take i xs) → after ≡ now ++ cons_option o [] → after ≡ filter_map f (take (i + 1) xs)
filter_more f xs x i o now after l is h e g =
    g ∙ ap (λ ys. ys ++ cons_option o []) e ∙ ap (λ p. filter_map f (take i xs) ++ cons_option p []) h
    ∙ sym (filter_map-append f (take i xs) (x ∷ []))
    ∙ ap (filter_map f) (ap (λ y. take i xs ++ y ∷ []) is ∙ sym (take_more xs i x l))

module _ {X : Type 0} (test : X → Bool) where
  places_append : (n : ℕ) (xs : List X) (x : X) → places_where test n (xs ++ x ∷ []) ≡ places_where test n xs ++ cond (test x) ((n + length xs) ∷ []) []
  places_append n [] x = let e : n ≡ n + 0 = omega arith in ap (λ m. cond (test x) ((m) ∷ []) []) e
  places_append n (y ∷ xs) x = go (test y) (places_append (n + 1) xs x)
    where
      go : (b : Bool) → places_where test (n + 1) (xs ++ x ∷ []) ≡ places_where test (n + 1) xs ++ cond (test x) ((n + 1 + length xs) ∷ []) []
          → cond b (n ∷ places_where test (n + 1) (xs ++ x ∷ [])) (places_where test (n + 1) (xs ++ x ∷ []))
          ≡ cond b (n ∷ places_where test (n + 1) xs) (places_where test (n + 1) xs) ++ cond (test x) ((n + suc (length xs)) ∷ []) []
      go true ih =
          let e : n + 1 + length xs ≡ n + suc (length xs) = omega arith in
          ap (λ l. n ∷ l) (ih ∙ ap (λ m. places_where test (n + 1) xs ++ cond (test x) ((m) ∷ []) []) e)
      go false ih =
          let e : n + 1 + length xs ≡ n + suc (length xs) = omega arith in
          ih ∙ ap (λ m. places_where test (n + 1) xs ++ cond (test x) ((m) ∷ []) []) e

  pub places_more : (xs : List X) (x : X) (i : ℕ) (b : Bool) (now after : List ℕ) → i < length xs → x ≡ get_or xs i x → b ≡ test x
      → now ≡ places_where test 0 (take i xs) → after ≡ now ++ cond b (i ∷ []) [] → after ≡ places_where test 0 (take (i + 1) xs)
  places_more xs x i b now after l is h e g =
      let long : i ≡ 0 + length (take i xs) = omega (arith, length-take i xs) in
      g ∙ ap (λ (ys : List ℕ). ys ++ cond b (i ∷ []) []) e ∙ ap (λ (c : Bool). places_where test 0 (take i xs) ++ cond c (i ∷ []) []) h
      ∙ ap (λ (m : ℕ). places_where test 0 (take i xs) ++ cond (test x) ((m) ∷ []) []) long
      ∙ sym (places_append 0 (take i xs) x)
      ∙ ap (places_where test 0) (ap (λ y. take i xs ++ y ∷ []) is ∙ sym (take_more xs i x l))

  at_least : (n : ℕ) (xs : List X) (k : ℕ) → k < length (places_where test n xs) → n ≤ get_or (places_where test n xs) k 0
  at_least n [] k l = absurd (omega (arith, l))
  at_least n (x ∷ xs) k l = go (test x) k l (at_least (n + 1) xs)
    where
      go : (b : Bool) (k : ℕ) → k < length (cond b (n ∷ places_where test (n + 1) xs) (places_where test (n + 1) xs))
          → ((k : ℕ) → k < length (places_where test (n + 1) xs) → n + 1 ≤ get_or (places_where test (n + 1) xs) k 0)
          → n ≤ get_or (cond b (n ∷ places_where test (n + 1) xs) (places_where test (n + 1) xs)) k 0
      go true zero l ih = omega arith
      go true (suc k) l ih = let w = ih k (omega (arith, l)) in omega (arith, w)
      go false k l ih = let w = ih k l in omega (arith, w)

  pub places_rise : (n : ℕ) (xs : List X) → IsStrictlyIncreasing (places_where test n xs)
  places_rise n [] k l = absurd (omega (arith, l))
  places_rise n (x ∷ xs) k l = go (test x) k l (places_rise (n + 1) xs) (at_least (n + 1) xs)
    where
      go : (b : Bool) (k : ℕ) → k + 1 < length (cond b (n ∷ places_where test (n + 1) xs) (places_where test (n + 1) xs))
          → IsStrictlyIncreasing (places_where test (n + 1) xs)
          → ((k : ℕ) → k < length (places_where test (n + 1) xs) → n + 1 ≤ get_or (places_where test (n + 1) xs) k 0)
          → get_or (cond b (n ∷ places_where test (n + 1) xs) (places_where test (n + 1) xs)) k 0
          < get_or (cond b (n ∷ places_where test (n + 1) xs) (places_where test (n + 1) xs)) (k + 1) 0
      go true zero l ih low = let w = low zero (omega (arith, l)) in let q : zero + 1 ≡ suc zero = omega arith in rw q (omega (arith, w))
      go true (suc k) l ih low =
          let w = ih k (omega (arith, l)) in
          let q : suc k + 1 ≡ suc (k + 1) = omega arith in rw q w
      go false k l ih low = ih k l

  -- as many places as elements that pass
  pub places_count : (n : ℕ) (xs : List X) → length (places_where test n xs) ≡ length (filter test xs)
  places_count n [] = refl
  places_count n (x ∷ xs) = go (test x) (places_count (n + 1) xs)
    where
      go : (b : Bool) → length (places_where test (n + 1) xs) ≡ length (filter test xs)
          → length (cond b (n ∷ places_where test (n + 1) xs) (places_where test (n + 1) xs)) ≡ length (cond b (x ∷ filter test xs) (filter test xs))
      go true ih = ap suc ih
      go false ih = ih

  pub places_within : (m n : ℕ) (xs : List X) → n + length xs ≤ m → All (λ p. p < m) (places_where test n xs)
  places_within m n [] l = All-nil (λ p. p < m)
  places_within m n (x ∷ xs) l = go (test x) (places_within m (n + 1) xs (omega (arith, l)))
    where
      go : (b : Bool) → All (λ p. p < m) (places_where test (n + 1) xs) → All (λ p. p < m) (cond b (n ∷ places_where test (n + 1) xs) (places_where test (n + 1) xs))
      go true ih = All-cons (λ p. p < m) n (places_where test (n + 1) xs) (omega (arith, l)) ih
      go false ih = ih

  append_one : (pre : List X) (x : X) (xs : List X) → (pre ++ x ∷ []) ++ xs ≡ pre ++ x ∷ xs
  append_one [] x xs = refl
  append_one (y ∷ pre) x xs = ap (λ l. y ∷ l) (append_one pre x xs)

  length_one : (pre : List X) (x : X) → length (pre ++ x ∷ []) ≡ length pre + 1
  length_one [] x = refl
  length_one (y ∷ pre) x = let e = length_one pre x in omega (arith, e)

  here : (pre : List X) (x : X) (xs : List X) → slice_get (pre ++ x ∷ xs) (length pre) ≡ Some x
  here [] x xs = refl
  here (y ∷ pre) x xs = here pre x xs

  -- the elements at the places are those that pass, in their order
  same_at : (pre xs : List X) (o p : ℕ) → slice_get (places_where test (length pre) xs) o ≡ Some p → slice_get (pre ++ xs) p ≡ slice_get (filter test xs) o
  same_at pre [] o p e = absurd cc
  same_at pre (x ∷ xs) o p e =
      go (test x) o e
      (λ k f. ap (λ (l : List X). slice_get l p) (sym (append_one pre x xs))
      ∙ same_at (pre ++ x ∷ []) xs k p (ap (λ (n : ℕ). slice_get (places_where test n xs) k) (length_one pre x) ∙ f))
    where
      go : (b : Bool) (o : ℕ) → slice_get (cond b (length pre ∷ places_where test (length pre + 1) xs) (places_where test (length pre + 1) xs)) o ≡ Some p
          → ((k : ℕ) → slice_get (places_where test (length pre + 1) xs) k ≡ Some p → slice_get (pre ++ x ∷ xs) p ≡ slice_get (filter test xs) k)
          → slice_get (pre ++ x ∷ xs) p ≡ slice_get (cond b (x ∷ filter test xs) (filter test xs)) o
      go true zero e rest = let at : p ≡ length pre = cc in rw at (here pre x xs)
      go true (suc o) e rest = rest o e
      go false o e rest = rest o e

  pub places_same : (xs : List X) (o p : ℕ) → slice_get (places_where test 0 xs) o ≡ Some p → slice_get xs p ≡ slice_get (filter test xs) o
  places_same xs o p e = same_at [] xs o p e

-- where each place gives one of the elements, in their order, these are what is listed at the places
pub listed_at : {X : Type 0} (listed : List X) (places : List ℕ) (xs : List X) → length places ≡ length xs
    → ((o p : ℕ) → slice_get places o ≡ Some p → slice_get listed p ≡ slice_get xs o) → filter_map (slice_get listed) places ≡ xs
listed_at listed [] [] count same = refl
listed_at listed [] (x ∷ xs) count same = absurd (omega (arith, count))
listed_at listed (p ∷ places) [] count same = absurd (omega (arith, count))
listed_at {X = X} listed (p ∷ places) (x ∷ xs) count same =
    ap (λ (o : Option X). cons_option o (filter_map (slice_get listed) places)) (same 0 p refl)
    ∙ ap (λ (rest : List X). x ∷ rest) (listed_at listed places xs (omega (arith, count)) (λ o q e. same (suc o) q e))

-- what is made of those that pass, where it is made of no others
pub made_are : {X Y : Type 0} (made : X → Option Y) (test : X → Bool) (of : X → Y) (xs : List X)
    → ((x : X) → Mem x xs → made x ≡ cond (test x) (Some (of x)) None) → filter_map made xs ≡ map of (filter test xs)
made_are {Y = Y} made test of [] h = refl
made_are {Y = Y} made test of (x ∷ xs) h =
    go (made x) (test x) (h x (inl refl)) (made_are made test of xs (λ y m. h y (inr m)))
  where
    go : (o : Option Y) (b : Bool) → o ≡ cond b (Some (of x)) None → filter_map made xs ≡ map of (filter test xs)
        → cons_option o (filter_map made xs) ≡ map of (cond b (x ∷ filter test xs) (filter test xs))
    go o true e ih = rw (e, ih) refl
    go o false e ih = rw (e, ih) refl

pub filter_same : {X : Type 0} (f g : X → Bool) (xs : List X) → ((x : X) → Mem x xs → f x ≡ g x) → filter f xs ≡ filter g xs
filter_same f g [] h = refl
filter_same f g (x ∷ xs) h = rw (h x (inl refl), filter_same f g xs (λ y m. h y (inr m))) refl
