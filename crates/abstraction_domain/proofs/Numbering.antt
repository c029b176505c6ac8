-- Classes that are numbered in the order in which they first stand in their row.
use Rattle.std.proofs.Common.{◌≡◌, ℕ, ◌+◌, ◌<◌, ◌≤◌, max, ◌↔◌, true, List, [], ◌∷◌, ◌++◌, length, take, drop, leb, refl, ap, inl, inr, ⊎_elim, leb-true, le-leb, arith}
use Rattle.std.specs.Prelude.{slice_index, Contains}
use Rattle.std.proofs.lemmas.List.{take_more, take_all, drop_more, length-drop}
use Rattle.std.proofs.lemmas.List.Elements.{Contains-append_left, Contains-push, Contains-push_cases}
use Rattle.std.proofs.lemmas.Bool.{cases_eq, cases_lt, and_parts, and_from}
use Rattle.abstraction_domain.specs.Rows.{class_count, IsLeastAbsent, IsNumberedAt, AreNumbered, numbered_from, are_numbered, IsFirstMisnumbered}

-- the first k classes are numbered, and are the numbers below n
pub record AreCounted (classes : List ℕ) (k n : ℕ) : Type 0 where
  pub count : n ≡ class_count (take k classes)
  pub exactly : (d : ℕ) → (d < n) ↔ Contains (take k classes) d
  pub numbered : (j : ℕ) → j < k → IsNumberedAt classes j
  pub at_most : n ≤ k

class_count-push : (xs : List ℕ) (c : ℕ) → class_count (xs ++ c ∷ []) ≡ max (class_count xs) (c + 1)
class_count-push [] c = omega arith
class_count-push (x ∷ xs) c = omega (arith, class_count-push xs c)

pub none_counted : (classes : List ℕ) → AreCounted classes 0 0
none_counted classes =
    record {
      count = refl;
      exactly = λ d. (λ l. absurd (omega arith), λ h. let l : h.0 < 0 = h.1 in omega arith);
      numbered = λ j l. absurd (omega arith);
      at_most = omega arith;
    }

module _ (classes : List ℕ) (k n c : ℕ) (so_far : AreCounted classes k n) (l : k < length classes) (is : c ≡ slice_index classes k) where
  more : take (k + 1) classes ≡ take k classes ++ c ∷ []
  more = rw is (take_more classes k 0 l)

  count_more : class_count (take (k + 1) classes) ≡ max n (c + 1)
  count_more = rw (more, so_far.count) (class_count-push (take k classes) c)

  numbered_more : IsNumberedAt classes k → (j : ℕ) → j < k + 1 → IsNumberedAt classes j
  numbered_more here j h =
      ⊎_elim (λ (e : j ≡ k). rw e here) (λ (n : j ≡ k → ⊥). so_far.numbered j (omega arith)) (cases_eq j k)

  -- a class that stood earlier
  pub known : c < n → AreCounted classes (k + 1) n
  known h =
      let stood : Contains (take k classes) c = (so_far.exactly c).0 h in
      record {
        count = omega (arith, count_more);
        exactly = λ d. rw more (
          λ b. Contains-append_left (take k classes) (c ∷ []) d ((so_far.exactly d).0 b),
          λ b. ⊎_elim (λ (old : Contains (take k classes) d). (so_far.exactly d).1 old) (λ (e : c ≡ d). omega arith) (Contains-push_cases (take k classes) c d b),
        );
        numbered = numbered_more (inl (rw (← is) stood));
        at_most = omega (arith, so_far.at_most);
      }

  -- the least number that did not stand earlier
  pub fresh : c ≡ n → AreCounted classes (k + 1) (n + 1)
  fresh h =
      let least : IsLeastAbsent (take k classes) c =
      record {
        absent = λ b. let below : c < n = (so_far.exactly c).1 b in omega arith;
        below = λ d b. (so_far.exactly d).0 (omega arith);
      } in
      record {
        count = omega (arith, count_more);
        exactly = λ d. rw more (
          λ b. ⊎_elim
              (λ (e : d ≡ n). rw (e, ← h) (Contains-push (take k classes) c))
              (λ (other : d ≡ n → ⊥). Contains-append_left (take k classes) (c ∷ []) d ((so_far.exactly d).0 (omega arith))) (cases_eq d n),
          λ b. ⊎_elim (λ (old : Contains (take k classes) d). let below : d < n = (so_far.exactly d).1 old in omega arith) (λ (e : c ≡ d). omega arith) (Contains-push_cases (take k classes) c d b),
        );
        numbered = numbered_more (inr (rw (← is) least));
        at_most = omega (arith, so_far.at_most);
      }

  pub first_misnumbered : n < c → IsFirstMisnumbered classes k
  first_misnumbered h =
      record {
        within = l;
        before = so_far.numbered;
        misnumbered = λ b. ⊎_elim
            (λ (old : Contains (take k classes) (slice_index classes k)). let below : slice_index classes k < n = (so_far.exactly (slice_index classes k)).1 old in omega (arith, is))
            (λ (least : IsLeastAbsent (take k classes) (slice_index classes k)). let below : n < n = (so_far.exactly n).1 (least.below n (omega (arith, is))) in omega arith) b;
      }

pub all_counted : (classes : List ℕ) (k n : ℕ) → AreCounted classes k n → length classes ≤ k → n ≡ class_count classes
all_counted classes k n so_far l = rw (take_all k classes l) at so_far.count

-- the place of the first of the classes that are left
module _ (classes : List ℕ) (k n c : ℕ) (cs : List ℕ) (rest : drop k classes ≡ c ∷ cs) where
  within : k < length classes
  within = let long : length (drop k classes) ≡ length (c ∷ cs) = ap length rest in omega (arith, long, length-drop k classes)

  split : drop k classes ≡ slice_index classes k ∷ drop (k + 1) classes
  split = drop_more classes k 0 within

  here : c ≡ slice_index classes k
  here = cc split

  later : drop (k + 1) classes ≡ cs
  later = cc split

  counted_more : AreCounted classes k n → c ≤ n → AreCounted classes (k + 1) (max n (c + 1))
  counted_more so_far h =
      ⊎_elim
      (λ (l : c < n). let e : max n (c + 1) ≡ n = omega arith in rw e (known classes k n c so_far within here l))
      (λ (l : n ≤ c). let e : max n (c + 1) ≡ n + 1 = omega arith in rw e (fresh classes k n c so_far within here (omega arith)))
      (cases_lt c n)

numbered_by_rest : (classes : List ℕ) (k n : ℕ) (rest : List ℕ) → drop k classes ≡ rest → AreCounted classes k n → numbered_from n rest ≡ true → AreNumbered classes
numbered_by_rest classes k n [] e so_far h =
    let long : length (drop k classes) ≡ 0 = ap length e in λ j l. so_far.numbered j (omega (arith, long, length-drop k classes))
numbered_by_rest classes k n (c ∷ cs) e so_far h =
    let parts = and_parts (leb c n) (numbered_from (max n (c + 1)) cs) h in
    numbered_by_rest classes (k + 1) (max n (c + 1)) cs (later classes k n c cs e) (counted_more classes k n c cs e so_far (leb-true c n parts.0)) parts.1

rest_by_numbered : (classes : List ℕ) (k n : ℕ) (rest : List ℕ) → drop k classes ≡ rest → AreCounted classes k n → AreNumbered classes → numbered_from n rest ≡ true
rest_by_numbered classes k n [] e so_far all = refl
rest_by_numbered classes k n (c ∷ cs) e so_far all =
    let l : k < length classes = within classes k n c cs e in
    let least : c ≤ n =
    ⊎_elim
    (λ (past : n < c). absurd ((first_misnumbered classes k n c so_far l (here classes k n c cs e) past).misnumbered (all k l)))
    (λ (low : c ≤ n). low) (cases_lt n c) in
    and_from (leb c n) (numbered_from (max n (c + 1)) cs) (le-leb c n least)
    (rest_by_numbered classes (k + 1) (max n (c + 1)) cs (later classes k n c cs e) (counted_more classes k n c cs e so_far least) all)

-- the test tells whether the classes are numbered
pub numbered_by_test : (classes : List ℕ) → (are_numbered classes ≡ true) ↔ AreNumbered classes
numbered_by_test classes = (
  numbered_by_rest classes 0 0 classes refl (none_counted classes),
  rest_by_numbered classes 0 0 classes refl (none_counted classes),
)
