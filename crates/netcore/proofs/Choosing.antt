-- Elements by their numbers, in lists that are made of others, and how many there are.
use Rattle.std.proofs.Common.{◌≡◌, ℕ, zero, suc, ◌+◌, ◌-◌, ◌<◌, ◌≤◌, Bool, true, false, List, [], ◌∷◌, ◌++◌, length, map, min, Some, None, drop, get_or, refl, sym, ap, ◌∙◌, arith, cond, append_assoc, length-append}
use Rattle.std.specs.Prelude.{slice_get, filter, flat_map}
use Rattle.std.specs.List.{range_with_len}
use Rattle.std.proofs.lemmas.Bool.{cond-true, cond-false}
use Rattle.std.proofs.lemmas.Option.{slice_get-get_or}
use Rattle.std.proofs.lemmas.List.FromFn.{length-map-range_with_len, get_or-map-range_with_len}
use Rattle.owner_theory.specs.Owners.{Packet}
use Rattle.netcore.specs.declared.step.WorldStep.{WorldStep}
use Rattle.netcore.specs.declared.step.WorldStep.TheVariants.{Deliver}
use Rattle.netcore.specs.Possible.{below, deliveries}

-- ---- two lists, one behind the other
get_front : {X : Type 0} (xs ys : List X) (k : ℕ) → k < length xs → slice_get (xs ++ ys) k ≡ slice_get xs k
get_front [] ys k lt = absurd (omega arith)
get_front (x ∷ xs) ys zero lt = refl
get_front (x ∷ xs) ys (suc k) lt = get_front xs ys k (omega arith)

get_behind : {X : Type 0} (xs ys : List X) (k : ℕ) → length xs ≤ k → slice_get (xs ++ ys) k ≡ slice_get ys (k - length xs)
get_behind [] ys k le = let same : k ≡ k - 0 = omega arith in ap (λ n. slice_get ys n) same
get_behind (x ∷ xs) ys zero le = absurd (omega arith)
get_behind (x ∷ xs) ys (suc k) le =
    let same : k - length xs ≡ suc k - suc (length xs) = omega arith in
    get_behind xs ys k (omega arith) ∙ ap (λ n. slice_get ys n) same

pub none_past : {X : Type 0} (xs : List X) (k : ℕ) → slice_get xs k ≡ None → length xs ≤ k
none_past [] k is = omega arith
none_past (x ∷ xs) zero is = absurd (cc)
none_past (x ∷ xs) (suc k) is = let le = none_past xs k is in omega arith

behind_all : {X : Type 0} (xs ys : List X) (k n : ℕ) → slice_get xs k ≡ None → n ≡ k - length xs → slice_get (xs ++ ys) k ≡ slice_get ys n
behind_all xs ys k n is e = get_behind xs ys k (none_past xs k is) ∙ ap (λ m. slice_get ys m) (sym e)

-- ---- what passes a test, among what is made of the numbers from i to n
module _ {X : Type 0} (p : X → Bool) (f : ℕ → X) where
  abbrev pub passing : ℕ → ℕ → List X
  passing i n = filter p (map f (range_with_len i (n - i)))

  passing_here : (i n : ℕ) → i < n → passing i n ≡ cond (p (f i)) (f i ∷ passing (i + 1) n) (passing (i + 1) n)
  passing_here i n lt = let more : n - i ≡ suc (n - (i + 1)) = omega arith in ap (λ k. filter p (map f (range_with_len i k))) more

  pub passed_over : (i n k : ℕ) → i < n → p (f i) ≡ false → slice_get (passing i n) k ≡ slice_get (passing (i + 1) n) k
  passed_over i n k lt fails = ap (λ xs. slice_get xs k) (passing_here i n lt ∙ cond-false (p (f i)) (f i ∷ passing (i + 1) n) (passing (i + 1) n) fails)

  passed : (i n : ℕ) → i < n → p (f i) ≡ true → passing i n ≡ f i ∷ passing (i + 1) n
  passed i n lt passes = passing_here i n lt ∙ cond-true (p (f i)) (f i ∷ passing (i + 1) n) (passing (i + 1) n) passes

  pub counted : (i n k : ℕ) → i < n → p (f i) ≡ true → 0 < k → slice_get (passing i n) k ≡ slice_get (passing (i + 1) n) (k - 1)
  counted i n zero lt passes some = absurd (omega arith)
  counted i n (suc k) lt passes some =
      let same : k ≡ suc k - 1 = omega arith in
      ap (λ xs. slice_get xs (suc k)) (passed i n lt passes) ∙ ap (λ m. slice_get (passing (i + 1) n) m) same

  pub count_passing : (xs : List ℕ) → length (filter (λ v. p (f v)) xs) ≡ length (filter p (map f xs))
  count_passing [] = refl
  count_passing (x ∷ xs) = one_more (p (f x)) x (f x) (filter (λ v. p (f v)) xs) (filter p (map f xs)) (count_passing xs)
    where
      one_more : (b : Bool) (v : ℕ) (y : X) (vs : List ℕ) (ys : List X) → length vs ≡ length ys
          → length (cond b (v ∷ vs) vs) ≡ length (cond b (y ∷ ys) ys)
      one_more true v y vs ys same = ap suc same
      one_more false v y vs ys same = same

-- ---- lists of the numbers from i to n, one behind the other
module _ {X : Type 0} (f : ℕ → List X) where
  abbrev pub joined_from : ℕ → ℕ → List X
  joined_from i n = flat_map f (range_with_len i (n - i))

  joined_here : (i n : ℕ) → i < n → joined_from i n ≡ f i ++ joined_from (i + 1) n
  joined_here i n lt = let more : n - i ≡ suc (n - (i + 1)) = omega arith in ap (λ k. flat_map f (range_with_len i k)) more

  pub joined_within : (i n k : ℕ) → i < n → k < length (f i) → slice_get (joined_from i n) k ≡ slice_get (f i) k
  joined_within i n k lt short = ap (λ xs. slice_get xs k) (joined_here i n lt) ∙ get_front (f i) (joined_from (i + 1) n) k short

  pub joined_past : (i n k : ℕ) → i < n → length (f i) ≤ k → slice_get (joined_from i n) k ≡ slice_get (joined_from (i + 1) n) (k - length (f i))
  joined_past i n k lt long = ap (λ xs. slice_get xs k) (joined_here i n lt) ∙ get_behind (f i) (joined_from (i + 1) n) k long

  joined_more_at : (a n : ℕ) → length (flat_map f (range_with_len a (suc n))) ≡ length (flat_map f (range_with_len a n)) + length (f (a + n))
  joined_more_at a zero =
      let here : a + 0 ≡ a = omega arith in
      length-append (f a) [] ∙ (let none : length (f a) + 0 ≡ 0 + length (f a) = omega arith in none) ∙ ap (λ m. 0 + length (f m)) (sym here)
  joined_more_at a (suc n) =
      let rest = joined_more_at (a + 1) n in
      let same : length (f (a + 1 + n)) ≡ length (f (a + suc n)) = ap (λ m. length (f m)) (omega arith) in
      let all = length-append (f a) (flat_map f (range_with_len (a + 1) (suc n))) in
      let most = length-append (f a) (flat_map f (range_with_len (a + 1) n)) in
      omega arith

  pub joined_more : (n : ℕ) → length (flat_map f (range_with_len 0 (n + 1))) ≡ length (flat_map f (range_with_len 0 n)) + length (f n)
  joined_more n =
      let next : n + 1 ≡ suc n = omega arith in
      let same : 0 + n ≡ n = omega arith in
      ap (λ k. length (flat_map f (range_with_len 0 k))) next
      ∙ (joined_more_at 0 n ∙ ap (λ k. length (flat_map f (range_with_len 0 n)) + length (f k)) same)

-- ---- what is made of a number
made_of : {X : Type 0} (f : ℕ → X) (n k : ℕ) → k < n → slice_get (map f (range_with_len 0 n)) k ≡ Some (f k)
made_of f n k lt =
    let long = length-map-range_with_len f 0 n in
    let same : 0 + k ≡ k = omega arith in
    slice_get-get_or (map f (range_with_len 0 n)) k (f k) (omega arith)
    ∙ ap Some (get_or-map-range_with_len f 0 n k k (f k) lt same)

-- ---- messages underway
pub deliveries_length : (v : ℕ) (qs : List (List Packet)) → length (deliveries v qs) ≡ length (flat_map (λ ps. ps) qs)
deliveries_length v [] = refl
deliveries_length v (ps ∷ qs) =
    let rest = deliveries_length (suc v) qs in
    let here = length-map-range_with_len (Deliver v) 0 (length ps) in
    let steps = length-append (map (Deliver v) (below (length ps))) (deliveries (suc v) qs) in
    let messages = length-append ps (flat_map (λ zs. zs) qs) in
    omega arith

module _ {Y : Type 0} (f : Y → List Packet) where
  deliver_here : (ys : List Y) (i : ℕ) (y : Y) (v : ℕ) → i < length ys → y ≡ get_or ys i y
      → deliveries v (map f (drop i ys)) ≡ map (Deliver v) (below (length (f y))) ++ deliveries (suc v) (map f (drop (suc i) ys))
  deliver_here [] i y v lt is = absurd (omega arith)
  deliver_here (z ∷ ys) zero y v lt is =
      ap (λ (x : Y). map (Deliver v) (below (length (f x))) ++ deliveries (suc v) (map f ys)) (sym is)
  deliver_here (z ∷ ys) (suc i) y v lt is = deliver_here ys i y v (omega arith) is

  pub deliver_within : (ys : List Y) (i : ℕ) (y : Y) (v k : ℕ) → i < length ys → y ≡ get_or ys i y → k < length (f y)
      → slice_get (deliveries v (map f (drop i ys))) k ≡ Some (Deliver v k)
  deliver_within ys i y v k lt is short =
      let steps = map (Deliver v) (below (length (f y))) in
      let long = length-map-range_with_len (Deliver v) 0 (length (f y)) in
      ap (λ (xs : List WorldStep). slice_get xs k) (deliver_here ys i y v lt is)
      ∙ (get_front steps (deliveries (suc v) (map f (drop (suc i) ys))) k (omega arith) ∙ made_of (Deliver v) (length (f y)) k short)

  pub deliver_past : (ys : List Y) (i : ℕ) (y : Y) (v k : ℕ) → i < length ys → y ≡ get_or ys i y → length (f y) ≤ k
      → slice_get (deliveries v (map f (drop i ys))) k ≡ slice_get (deliveries (v + 1) (map f (drop (i + 1) ys))) (k - length (f y))
  deliver_past ys i y v k lt is far =
      let steps = map (Deliver v) (below (length (f y))) in
      let rest = deliveries (suc v) (map f (drop (suc i) ys)) in
      let long = length-map-range_with_len (Deliver v) 0 (length (f y)) in
      let same : k - length steps ≡ k - length (f y) = omega arith in
      let next : suc v ≡ v + 1 = omega arith in
      let more : suc i ≡ i + 1 = omega arith in
      ap (λ (xs : List WorldStep). slice_get xs k) (deliver_here ys i y v lt is)
      ∙ (get_behind steps rest k (omega arith)
      ∙ (ap (λ n. slice_get rest n) same
      ∙ (ap (λ n. slice_get (deliveries n (map f (drop (suc i) ys))) (k - length (f y))) next
      ∙ ap (λ n. slice_get (deliveries (v + 1) (map f (drop n ys))) (k - length (f y))) more)))

-- ---- six lists
pub six_parts : {X : Type 0} (a b c d e f : List X) → a ++ b ++ c ++ d ++ e ++ f ≡ a ++ (b ++ (c ++ (d ++ e ++ f)))
six_parts a b c d e f = simp append_assoc

pub six_lengths : {X : Type 0} (a b c d e f : List X)
    → length (a ++ b ++ c ++ d ++ e ++ f) ≡ length a + length b + length c + length d + length e + length f
six_lengths a b c d e f = simp length-append

-- the fourth of four lists, where none of the first three has an element of that number; counts are exact up to a greatest number
pub fourth_part : {X : Type 0} (a b c d : List X) (most k na nb nc : ℕ) → k ≤ most → slice_get a k ≡ None → na ≡ length a
    → slice_get b (k - na) ≡ None → nb ≡ min (length b) most → slice_get c (k - na - nb) ≡ None → nc ≡ min (length c) most
    → slice_get (a ++ (b ++ (c ++ d))) k ≡ slice_get d (k - na - nb - nc)
fourth_part a b c d most k na nb nc le none_a ea none_b eb none_c ec =
    let past_b = none_past b (k - na) none_b in
    let past_c = none_past c (k - na - nb) none_c in
    let first : k - na ≡ k - length a = omega arith in
    let second : k - na - nb ≡ k - na - length b = omega arith in
    let third : k - na - nb - nc ≡ k - na - nb - length c = omega arith in
    behind_all a (b ++ (c ++ d)) k (k - na) none_a first
    ∙ (behind_all b (c ++ d) (k - na) (k - na - nb) none_b second ∙ behind_all c d (k - na - nb) (k - na - nb - nc) none_c third)

-- the sum of six counts, of which two and each partial sum are at most a greatest one
pub six_counts : (most a b c d e f sb sc r1 r2 r3 r4 r5 : ℕ) → sb ≡ min b most → sc ≡ min c most
    → r1 ≡ min (a + sb) most → r2 ≡ min (r1 + sc) most → r3 ≡ min (r2 + d) most → r4 ≡ min (r3 + e) most → r5 ≡ min (r4 + f) most
    → r5 ≡ min (a + b + c + d + e + f) most
six_counts most a b c d e f sb sc r1 r2 r3 r4 r5 eb ec e1 e2 e3 e4 e5 =
    let two : r1 ≡ min (a + b) most = omega (arith, eb, e1) in
    let three : r2 ≡ min (a + b + c) most = omega (arith, two, ec, e2) in
    let four : r3 ≡ min (a + b + c + d) most = omega (arith, three, e3) in
    let five : r4 ≡ min (a + b + c + d + e) most = omega (arith, four, e4) in
    omega (arith, five, e5)
