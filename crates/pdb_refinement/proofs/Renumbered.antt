-- Classes that are numbered anew, in the order in which they first occur.
use Rattle.std.proofs.Common.{◌≡◌, ℕ, ◌+◌, ◌<◌, ◌≤◌, max, true, List, [], ◌∷◌, ◌++◌, length, refl, sym, ap, ◌∙◌, arith, leb, leb-true, below_more}
use Rattle.std.specs.Prelude.{slice_index}
use Rattle.std.proofs.lemmas.Bool.{and_parts, and_from, le-leb}
use Rattle.std.proofs.lemmas.List.{get_or_append_left, get_or_push, length_push}
use Rattle.abstraction_domain.specs.Rows.{class_count, numbered_from, are_numbered}
use Rattle.pdb_refinement.specs.Refinements.{Refines}

class_count-push : (xs : List ℕ) (c : ℕ) → class_count (xs ++ c ∷ []) ≡ max (class_count xs) (c + 1)
class_count-push [] c = omega arith
class_count-push (x ∷ xs) c = omega (arith, class_count-push xs c)

numbered-push : (n : ℕ) (xs : List ℕ) (c : ℕ) → numbered_from n xs ≡ true → c ≤ max n (class_count xs) → numbered_from n (xs ++ c ∷ []) ≡ true
numbered-push n [] c e l = and_from (leb c n) true (le-leb c n (omega arith)) refl
numbered-push n (x ∷ xs) c e l =
    let parts = and_parts (leb x n) (numbered_from (max n (x + 1)) xs) e in
    and_from (leb x n) (numbered_from (max n (x + 1)) (xs ++ c ∷ [])) parts.0 (numbered-push (max n (x + 1)) xs c parts.1 (omega arith))

-- the first k classes have new numbers, and `olds` has the old class of each new number
pub record AreRenumbered (classes : List ℕ) (k : ℕ) (olds new : List ℕ) : Type 0 where
  pub as_long : length new ≡ k
  pub numbered : are_numbered new ≡ true
  pub count : class_count new ≡ length olds
  pub within : (j : ℕ) → j < k → slice_index new j < length olds
  pub old : (j : ℕ) → j < k → slice_index olds (slice_index new j) ≡ slice_index classes j

pub none_renumbered : (classes : List ℕ) → AreRenumbered classes 0 [] []
none_renumbered classes =
    record { as_long = refl; numbered = refl; count = refl; within = λ j l. absurd (omega arith); old = λ j l. absurd (omega arith) }

module _ (classes : List ℕ) (k : ℕ) (olds new : List ℕ) (are : AreRenumbered classes k olds new) (n : ℕ) where
  at : (j : ℕ) → j < k → slice_index (new ++ n ∷ []) j ≡ slice_index new j
  at j l = get_or_append_left new (n ∷ []) 0 j (omega (arith, are.as_long))

  last : slice_index (new ++ n ∷ []) k ≡ n
  last = get_or_push new n 0 k are.as_long

  numbered : n ≤ length olds → are_numbered (new ++ n ∷ []) ≡ true
  numbered l = numbered-push 0 new n are.numbered (omega (arith, are.count))

  -- a class that has a number
  pub known_renumbered : n < length olds → slice_index olds n ≡ slice_index classes k → AreRenumbered classes (k + 1) olds (new ++ n ∷ [])
  known_renumbered l e =
      record {
        as_long = omega (arith, length_push new n, are.as_long);
        numbered = numbered (omega arith);
        count = omega (arith, class_count-push new n, are.count);
        within = below_more (λ j. slice_index (new ++ n ∷ []) j < length olds) k (λ j h. rw (at j h) (are.within j h)) (rw last l);
        old = below_more (λ j. slice_index olds (slice_index (new ++ n ∷ []) j) ≡ slice_index classes j) k (λ j h. rw (at j h) (are.old j h)) (rw last e);
      }

  -- the first of its class
  pub fresh_renumbered : n ≡ length olds → AreRenumbered classes (k + 1) (olds ++ slice_index classes k ∷ []) (new ++ n ∷ [])
  fresh_renumbered e =
      let c : ℕ = slice_index classes k in
      let long : length (olds ++ c ∷ []) ≡ length olds + 1 = length_push olds c in
      record {
        as_long = omega (arith, length_push new n, are.as_long);
        numbered = numbered (omega arith);
        count = omega (arith, class_count-push new n, are.count, long);
        within = below_more (λ j. slice_index (new ++ n ∷ []) j < length (olds ++ c ∷ [])) k (λ j h. rw (at j h) (omega (arith, are.within j h, long))) (rw last (omega (arith, long)));
        old = below_more (λ j. slice_index (olds ++ c ∷ []) (slice_index (new ++ n ∷ []) j) ≡ slice_index classes j) k
            (λ j h. rw (at j h) (get_or_append_left olds (c ∷ []) 0 (slice_index new j) (are.within j h) ∙ are.old j h))
            (rw last (get_or_push olds c 0 n (sym e)));
      }

-- values with one new number have one old class
pub refines_renumbered : (classes olds new : List ℕ) (k : ℕ) → AreRenumbered classes k olds new → length classes ≡ k → Refines classes new
refines_renumbered classes olds new k are e =
    record {
      as_long = omega (arith, are.as_long);
      apart = λ v w l m h. sym (are.old v (omega arith)) ∙ ap (λ (n : ℕ). slice_index olds n) h ∙ are.old w (omega arith);
    }

-- there are no more classes than values
few_classes : (n : ℕ) (xs : List ℕ) → numbered_from n xs ≡ true → class_count xs ≤ n + length xs
few_classes n [] e = omega arith
few_classes n (x ∷ xs) e =
    let parts = and_parts (leb x n) (numbered_from (max n (x + 1)) xs) e in
    omega (arith, leb-true x n parts.0, few_classes (max n (x + 1)) xs parts.1)

pub few_olds : (classes : List ℕ) (k : ℕ) (olds new : List ℕ) → AreRenumbered classes k olds new → length olds ≤ k
few_olds classes k olds new are = omega (arith, few_classes 0 new are.numbered, are.count, are.as_long)
