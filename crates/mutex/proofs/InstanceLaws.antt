-- Rows of places, and the instances of candidates.
use Rattle.std.proofs.Common.{◌≡◌, ℕ, zero, suc, ◌+◌, ◌<◌, ◌≤◌, Bool, true, false, ◌&&◌, ◌||◌, not, List, [], ◌∷◌, length, get_or, filter, Option, Some, None, refl, sym, ap, ◌∙◌, arith, inl, inr, ⊎_elim, eqb, ltb}
use Rattle.std.specs.Prelude.{slice_get, All}
use Rattle.std.specs.List.{list_any, range_with_len}
use Rattle.std.specs.List.Sorted.{IsStrictlyIncreasing}
use Rattle.std.specs.Option.{option_map_or}
use Rattle.std.proofs.lemmas.Bool.{and_parts, and_from, false≢true, cases_eq, lt-ltb}
use Rattle.std.proofs.lemmas.List.Elements.{filter_passes, All-weaker}
use Rattle.std.proofs.lemmas.List.FromFn.{length-range_with_len, get_or-range_with_len}
use Rattle.std.proofs.lemmas.List.Kept.{AllPairs-from_increasing, IsStrictlyIncreasing-filter}
use Rattle.std.proofs.lemmas.Option.{slice_get-get_or, slice_get_within, get_or_from_slice_get}
use Rattle.pddl_task.specs.Atoms.{Atom}
use Rattle.pddl_task.proofs.Lists.{Mem, bool_same, get_of_mem, mem_filter, filter_mem}
use Rattle.mutex_index.specs.Groups.{is_constant, is_excluded}
use Rattle.index_rows.specs.Numbers.{has}
use Rattle.mutex_index.specs.Places.{Indexed}
use Rattle.index_rows.proofs.NumberLaws.{has_mem, mem_has}
use Rattle.mutex_index.proofs.PlaceLaws.{one_row}
use Rattle.mutex.specs.Candidates.{Candidate, bound_object, is_covered, instance}
use Rattle.mutex.specs.Proposals.{is_movable}
use Rattle.mutex.specs.Steps.{is_row_place, binds}

-- increasing lists

tail_rises : (x : ℕ) (xs : List ℕ) → IsStrictlyIncreasing (x ∷ xs) → IsStrictlyIncreasing xs
tail_rises x xs h k l =
    let next : suc k + 1 ≡ suc (k + 1) = omega arith in
    let up = h (suc k) (omega (arith, l)) in rw next at up

above_head : (x : ℕ) (xs : List ℕ) → IsStrictlyIncreasing (x ∷ xs) → (y : ℕ) → Mem y xs → x < y
above_head x xs h y m =
    let w = get_of_mem xs y m in
    let here : get_or xs w.0 0 ≡ y = get_or_from_slice_get xs w.0 y 0 w.1 in
    let within = slice_get_within xs w.0 y w.1 in
    let up : x < get_or xs w.0 0 = AllPairs-from_increasing (x ∷ xs) h 0 (suc w.0) 0 (omega arith) (omega (arith, within)) in
    omega (arith, here, up)

-- increasing lists with the same elements are one
same_increasing : (xs ys : List ℕ) → IsStrictlyIncreasing xs → IsStrictlyIncreasing ys → ((k : ℕ) → Mem k xs → Mem k ys) → ((k : ℕ) → Mem k ys → Mem k xs) → xs ≡ ys
same_increasing [] [] h k f b = refl
same_increasing [] (y ∷ ys) h k f b = absurd (b y (inl refl))
same_increasing (x ∷ xs) [] h k f b = absurd (f x (inl refl))
same_increasing (x ∷ xs) (y ∷ ys) h k f b =
    rw (
      first,
      same_increasing xs ys (tail_rises x xs h) (tail_rises y ys k)
          (λ z m. ⊎_elim (λ (e : y ≡ z). absurd (omega (arith, first, e, above_head x xs h z m))) (λ (n : Mem z ys). n) (f z (inr m)))
          (λ z m. ⊎_elim (λ (e : x ≡ z). absurd (omega (arith, first, e, above_head y ys k z m))) (λ (n : Mem z xs). n) (b z (inr m))),
    ) refl
  where
    first : x ≡ y
    first =
        ⊎_elim (λ (e : y ≡ x). sym e)
        (λ (m : Mem x ys). ⊎_elim (λ (e : x ≡ y). e) (λ (n : Mem y xs). absurd (omega (arith, above_head y ys k x m, above_head x xs h y n))) (b y (inl refl)))
        (f x (inl refl))

range_rises : (n : ℕ) → IsStrictlyIncreasing (range_with_len 0 n)
range_rises n k l =
    let low : k + 1 < n = omega (arith, length-range_with_len 0 n, l) in
    omega (arith, get_or-range_with_len 0 n k 0 (omega arith), get_or-range_with_len 0 n (k + 1) 0 low)

mem_range : (a n k : ℕ) → a ≤ k → k < a + n → Mem k (range_with_len a n)
mem_range a zero k l m = absurd (omega arith)
mem_range a (suc n) k l m =
    ⊎_elim (λ (e : a ≡ k). inl e) (λ (ne : a ≡ k → ⊥). inr (mem_range (a + 1) n k (omega arith) (omega arith))) (cases_eq a k)

-- an increasing list of the numbers that pass a test, which all are below a bound
filter_is : (test : ℕ → Bool) (n : ℕ) (list : List ℕ) → ((k : ℕ) → test k ≡ true → k < n) → IsStrictlyIncreasing list
    → ((k : ℕ) → has list k ≡ test k) → list ≡ filter test (range_with_len 0 n)
filter_is test n list bound rises same =
    same_increasing list (filter test (range_with_len 0 n)) rises (IsStrictlyIncreasing-filter test (range_with_len 0 n) (range_rises n))
    (λ k m. let passes : test k ≡ true = sym (same k) ∙ mem_has list k m in
    mem_filter test (range_with_len 0 n) k (mem_range 0 n k (omega arith) (omega (arith, bound k passes))) passes)
    (λ k m. has_mem list k (same k ∙ (filter_mem test (range_with_len 0 n) k m).1))

-- movable places

pub movable_within : (index : Indexed) (k : ℕ) → is_movable index k ≡ true → k < length index.atoms
movable_within index k m = by (slice_get index.atoms k) refl m
  where
    by : (o : Option Atom) → slice_get index.atoms k ≡ o
        → option_map_or (λ q. not (is_constant index.task index.actions q) && not (is_excluded index.task index.actions q)) o false ≡ true
        → k < length index.atoms
    by None e m = absurd (false≢true m)
    by (Some q) e m = slice_get_within index.atoms k q e

-- rows

pub row_step : (index : Indexed) (n q k : ℕ) (p : Atom) (old now : Bool) → n < length index.atoms → p ≡ get_or index.atoms n p
    → old ≡ (ltb k n && is_row_place index q k) → now ≡ (old || (is_movable index n && (eqb n k && eqb p.predicate q)))
    → now ≡ (ltb k (n + 1) && is_row_place index q k)
row_step index n q k p old now l here e f =
    f ∙ ap (λ (b : Bool). b || (is_movable index n && (eqb n k && eqb p.predicate q))) e
    ∙ ap (λ (b : Bool). (ltb k n && is_row_place index q k) || b) (swap (is_movable index n) (eqb n k) (eqb p.predicate q))
    ∙ one_row n k (is_row_place index q k) (is_movable index n && eqb p.predicate q) same
  where
    swap : (a b c : Bool) → (a && (b && c)) ≡ (b && (a && c))
    swap true b c = refl
    swap false true c = refl
    swap false false c = refl

    at : slice_get index.atoms n ≡ Some p
    at = slice_get-get_or index.atoms n p l ∙ ap Some (sym here)

    same : n ≡ k → is_row_place index q k ≡ (is_movable index n && eqb p.predicate q)
    same i = rw (← i) (ap (λ (o : Option Atom). is_movable index n && option_map_or (λ a. eqb a.predicate q) o false) at)

pub row_all : (index : Indexed) (n q k : ℕ) → length index.atoms ≤ n → (ltb k n && is_row_place index q k) ≡ is_row_place index q k
row_all index n q k l =
    bool_same (ltb k n && is_row_place index q k) (is_row_place index q k)
    (λ h. (and_parts (ltb k n) (is_row_place index q k) h).1)
    (λ h. let within = movable_within index k (and_parts (is_movable index k) (option_map_or (λ p. eqb p.predicate q) (slice_get index.atoms k) false) h).0 in
    and_from (ltb k n) (is_row_place index q k) (lt-ltb k n (omega (arith, within))) h)

-- instances

none_passes : {X : Type 0} (xs : List X) → list_any (λ x. false) xs ≡ false
none_passes [] = refl
none_passes (x ∷ xs) = none_passes xs

covered : (m : Bool) (o : Option Atom) (object : ℕ) (candidate : Candidate)
    → list_any (λ part. (m && option_map_or (λ p. eqb p.predicate part.predicate) o false) && option_map_or (λ p. eqb (bound_object part p) object) o false) candidate
    ≡ (m && option_map_or (is_covered candidate object) o false)
covered true (Some p) object candidate = refl
covered true None object candidate = none_passes candidate
covered false o object candidate = none_passes candidate

pub instance_is : (index : Indexed) (candidate : Candidate) (object : ℕ) (list : List ℕ) → IsStrictlyIncreasing list
    → ((k : ℕ) → has list k ≡ list_any (λ part. is_row_place index part.predicate k && binds index part object k) candidate)
    → list ≡ instance index candidate object
instance_is index candidate object list rises same =
    filter_is (λ k. is_movable index k && option_map_or (is_covered candidate object) (slice_get index.atoms k) false) (length index.atoms) list
    (λ k h. movable_within index k (and_parts (is_movable index k) (option_map_or (is_covered candidate object) (slice_get index.atoms k) false) h).0)
    rises (λ k. same k ∙ covered (is_movable index k) (slice_get index.atoms k) object candidate)

module _ (index : Indexed) (candidate : Candidate) (object : ℕ) where
  pub instance_rises : IsStrictlyIncreasing (instance index candidate object)
  instance_rises =
      IsStrictlyIncreasing-filter (λ k. is_movable index k && option_map_or (is_covered candidate object) (slice_get index.atoms k) false)
      (range_with_len 0 (length index.atoms)) (range_rises (length index.atoms))

  pub instance_moves : All (λ k. is_movable index k ≡ true) (instance index candidate object)
  instance_moves =
      All-weaker (λ k. (is_movable index k && option_map_or (is_covered candidate object) (slice_get index.atoms k) false) ≡ true) (λ k. is_movable index k ≡ true)
      (λ k h. (and_parts (is_movable index k) (option_map_or (is_covered candidate object) (slice_get index.atoms k) false) h).0)
      (instance index candidate object)
      (filter_passes (λ k. is_movable index k && option_map_or (is_covered candidate object) (slice_get index.atoms k) false) (range_with_len 0 (length index.atoms)))

  pub instance_within : All (λ k. k < length index.atoms) (instance index candidate object)
  instance_within = All-weaker (λ k. is_movable index k ≡ true) (λ k. k < length index.atoms) (movable_within index) (instance index candidate object) instance_moves
