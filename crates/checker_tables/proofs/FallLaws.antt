-- Rows of transitions: only operators that touch the abstract states need be tried.
use Rattle.std.proofs.Common.{◌≡◌, ℕ, zero, suc, ◌+◌, ◌-◌, ◌<◌, ◌≤◌, Bool, true, false, List, [], ◌∷◌, ◌++◌, length, get_or, take, map, Option, Some, None, cond, refl, sym, ap, ◌∙◌, arith, subst, ⊎_elim}
use Rattle.std.specs.Prelude.{slice_get, IfSome}
use Rattle.std.specs.Option.{option_map_or}
use Rattle.std.proofs.lemmas.Bool.{cond_both, cases_eq}
use Rattle.std.proofs.lemmas.List.{take_more}
use Rattle.std.proofs.lemmas.Option.{get_or_from_slice_get}
use Rattle.cost.specs.Distances.{Distance, Finite, Infinite, ◌+ᵈ◌, is_at_most}
use Rattle.cost.proofs.DistanceLaws.{is_at_most-from, right_at_most_sum}
use Rattle.abstraction.specs.Abstractions as abstraction
use Rattle.checker_tables.specs.ShareSums.{IsFirstFailure}
use Rattle.checker_tables.specs.declared.transitions.Spender.{Spender}
use Rattle.checker_tables.specs.TableFaults.{is_fall_within, falls_within, touching_from, spender_of, first_failing, first_fall_at, IsFirstFall}
use Rattle.checker_tables.specs.Moves.{IsLeastFailing}

-- what two values tell of a test
pub fall_by_values : (values nexts : List Distance) (a b share : ℕ) (v w : Distance) → slice_get values a ≡ Some v → slice_get nexts b ≡ Some w
    → is_fall_within values nexts share a b ≡ is_at_most v (Finite share +ᵈ w)
fall_by_values values nexts a b share v w here there =
    ap (λ (x : Distance). is_at_most x (Finite share +ᵈ get_or nexts b Infinite)) (get_or_from_slice_get values a v Infinite here)
    ∙ ap (λ (x : Distance). is_at_most v (Finite share +ᵈ x)) (get_or_from_slice_get nexts b w Infinite there)

-- what a transition tells of a test
module _ (abs : abstraction.Abstraction) (values : List Distance) (a o share : ℕ) where
  pub falls_by : (b : ℕ) → abs.transition a o ≡ Some b → falls_within abs values a o share ≡ is_fall_within values values share a b
  falls_by b leads = ap (λ (r : Option ℕ). option_map_or (λ c. is_at_most (get_or values a Infinite) (Finite share +ᵈ get_or values c Infinite)) r true) leads

  pub falls_nowhere : abs.transition a o ≡ None → falls_within abs values a o share ≡ true
  falls_nowhere leads = ap (λ (r : Option ℕ). option_map_or (λ c. is_at_most (get_or values a Infinite) (Finite share +ᵈ get_or values c Infinite)) r true) leads

  -- to itself a value does not fall
  pub falls_to_itself : IfSome (abs.transition a o) (λ b. b ≡ a) → falls_within abs values a o share ≡ true
  falls_to_itself same = go (abs.transition a o) same
    where
      go : (r : Option ℕ) → IfSome r (λ b. b ≡ a) → option_map_or (λ c. is_at_most (get_or values a Infinite) (Finite share +ᵈ get_or values c Infinite)) r true ≡ true
      go None s = refl
      go (Some b) s =
          ap (λ (c : ℕ). is_at_most (get_or values a Infinite) (Finite share +ᵈ get_or values c Infinite)) s
          ∙ is_at_most-from _ _ (right_at_most_sum (Finite share) (get_or values a Infinite))

-- one more operator behind those that are tried
module _ (test : Spender → Bool) (s : Spender) where
  pub failed_before : (ss : List Spender) (o : ℕ) → first_failing test ss ≡ Some o → first_failing test (ss ++ s ∷ []) ≡ Some o
  failed_before [] o e = absurd (cc)
  failed_before (x ∷ ss) o e =
      cond_both (test x) (first_failing test ss) (Some x.operator)
      (λ r. r ≡ Some o → cond (test x) (first_failing test (ss ++ s ∷ [])) (Some x.operator) ≡ Some o)
      (λ t h. ap (λ (b : Bool). cond b (first_failing test (ss ++ s ∷ [])) (Some x.operator)) t ∙ failed_before ss o h)
      (λ t h. ap (λ (b : Bool). cond b (first_failing test (ss ++ s ∷ [])) (Some x.operator)) t ∙ h) e

  pub passed_before : (ss : List Spender) → first_failing test ss ≡ None → first_failing test (ss ++ s ∷ []) ≡ cond (test s) None (Some s.operator)
  passed_before [] e = refl
  passed_before (x ∷ ss) e =
      cond_both (test x) (first_failing test ss) (Some x.operator)
      (λ r. r ≡ None → cond (test x) (first_failing test (ss ++ s ∷ [])) (Some x.operator) ≡ cond (test s) None (Some s.operator))
      (λ t h. ap (λ (b : Bool). cond b (first_failing test (ss ++ s ∷ [])) (Some x.operator)) t ∙ passed_before ss h)
      (λ t h. absurd (cc)) e

-- the least state at which one of the operators fails, with the first such operator
module _ (abs : abstraction.Abstraction) (values : List Distance) (ss : List Spender) (i : ℕ) (d : Spender) (l : i < length ss) where
  more : take (i + 1) ss ≡ take i ss ++ get_or ss i d ∷ []
  more = take_more ss i d l

  module _ (limit state : ℕ) (least : IsLeastFailing (λ a. falls_within abs values a (get_or ss i d).operator (get_or ss i d).share) limit state) where
    passes_at : (a : ℕ) → a < state → first_fall_at abs values (take i ss) a ≡ None → first_fall_at abs values (take (i + 1) ss) a ≡ None
    passes_at a k e =
        ap (λ (xs : List Spender). first_fall_at abs values xs a) more
        ∙ passed_before (λ (x : Spender). falls_within abs values a x.operator x.share) (get_or ss i d) (take i ss) e
        ∙ ap (λ (b : Bool). cond b None (Some (get_or ss i d).operator)) (least.before a k)

    fails_at : state < limit → first_fall_at abs values (take i ss) state ≡ None → first_fall_at abs values (take (i + 1) ss) state ≡ Some (get_or ss i d).operator
    fails_at k e =
        ap (λ (xs : List Spender). first_fall_at abs values xs state) more
        ∙ passed_before (λ (x : Spender). falls_within abs values state x.operator x.share) (get_or ss i d) (take i ss) e
        ∙ ap (λ (b : Bool). cond b None (Some (get_or ss i d).operator)) (least.there k)

    pub lower_fall : (found : Option (ℕ × ℕ)) → IsFirstFall abs values (take i ss) found → limit ≡ option_map_or (λ f. f.0) found abs.size → state < limit
        → IsFirstFall abs values (take (i + 1) ss) (Some (state, (get_or ss i d).operator))
    lower_fall None none e k = (
      omega arith,
      fails_at k (none state (omega arith)),
      λ a b. passes_at a b (none a (omega arith)),
    )
    lower_fall (Some f) first e k = (
      omega (arith, first.0),
      fails_at k (first.2 state (omega arith)),
      λ a b. passes_at a b (first.2 a (omega arith)),
    )

    pub same_fall : (found : Option (ℕ × ℕ)) → IsFirstFall abs values (take i ss) found → limit ≡ option_map_or (λ f. f.0) found abs.size → limit ≤ state
        → IsFirstFall abs values (take (i + 1) ss) found
    same_fall None none e k = λ a b. passes_at a (omega arith) (none a b)
    same_fall (Some f) first e k = (
      first.0,
      ap (λ (xs : List Spender). first_fall_at abs values xs f.0) more
          ∙ failed_before (λ (x : Spender). falls_within abs values f.0 x.operator x.share) (get_or ss i d) (take i ss) f.1 first.1,
      λ a b. passes_at a (omega arith) (first.2 a b),
    )

pub all_taken : (ss : List Spender) (i : ℕ) → length ss ≤ i → take i ss ≡ ss
all_taken [] zero l = refl
all_taken [] (suc i) l = refl
all_taken (s ∷ ss) zero l = absurd (omega arith)
all_taken (s ∷ ss) (suc i) l = ap (λ (xs : List Spender). s ∷ xs) (all_taken ss i (omega arith))

-- one more of the operators of the task
module _ (touches : ℕ → Bool) (o n : ℕ) (l : o < n) where
  rest_is : n - o ≡ suc (n - (o + 1))
  rest_is = omega arith

  pub touching_here : touches o ≡ true → touching_from touches o (n - o) ≡ o ∷ touching_from touches (o + 1) (n - (o + 1))
  touching_here e =
      ap (λ (k : ℕ). touching_from touches o k) rest_is
      ∙ ap (λ (b : Bool). cond b (o ∷ touching_from touches (o + 1) (n - (o + 1))) (touching_from touches (o + 1) (n - (o + 1)))) e

  pub touching_later : touches o ≡ false → touching_from touches o (n - o) ≡ touching_from touches (o + 1) (n - (o + 1))
  touching_later e =
      ap (λ (k : ℕ). touching_from touches o k) rest_is
      ∙ ap (λ (b : Bool). cond b (o ∷ touching_from touches (o + 1) (n - (o + 1))) (touching_from touches (o + 1) (n - (o + 1)))) e

-- the least number from one on that fails the test, or none
abbrev IsFirstFrom : (ℕ → Bool) → ℕ → Option ℕ → Type 0
IsFirstFrom test low None = (m : ℕ) → low ≤ m → test m ≡ true
IsFirstFrom test low (Some n) = (low ≤ n) × (test n ≡ false) × ((m : ℕ) → low ≤ m → m < n → test m ≡ true)

one_lower : (test : ℕ → Bool) (low : ℕ) (r : Option ℕ) → test low ≡ true → IsFirstFrom test (low + 1) r → IsFirstFrom test low r
one_lower test low None here rest = λ m l. ⊎_elim (λ (e : low ≡ m). subst (λ (k : ℕ). test k ≡ true) e here) (λ ne. rest m (omega arith)) (cases_eq low m)
one_lower test low (Some n) here rest =
    (omega arith, rest.1, λ m l b. ⊎_elim (λ (e : low ≡ m). subst (λ (k : ℕ). test k ≡ true) e here) (λ ne. rest.2 m (omega arith) b) (cases_eq low m))

module _ (test : ℕ → Bool) (tried : Spender → Bool) (share : ℕ → ℕ) (touches : ℕ → Bool) (n : ℕ)
    (same : (o : ℕ) → o < n → tried (spender_of share o) ≡ test o)
    (untouched : (o : ℕ) → touches o ≡ false → test o ≡ true)
    (past : (o : ℕ) → n ≤ o → test o ≡ true) where
  first_from : (count low : ℕ) → low + count ≡ n → IsFirstFrom test low (first_failing tried (map (spender_of share) (touching_from touches low count)))
  first_from zero low e = λ m l. past m (omega arith)
  first_from (suc count) low e =
      cond_both (touches low) (low ∷ touching_from touches (low + 1) count) (touching_from touches (low + 1) count)
      (λ os. IsFirstFrom test low (first_failing tried (map (spender_of share) os)))
      (λ touched.
      cond_both (tried (spender_of share low)) (first_failing tried (map (spender_of share) (touching_from touches (low + 1) count))) (Some low)
      (IsFirstFrom test low)
      (λ passes. one_lower test low _ (sym (same low (omega arith)) ∙ passes) (first_from count (low + 1) (omega arith)))
      (λ fails. (omega arith, sym (same low (omega arith)) ∙ fails, λ m l b. absurd (omega arith))))
      (λ skipped. one_lower test low _ (untouched low skipped) (first_from count (low + 1) (omega arith)))

  -- the first of the operators that touch is the first of all
  pub first_of_touching : IsFirstFailure test (first_failing tried (map (spender_of share) (touching_from touches 0 n)))
  first_of_touching = go _ (first_from n 0 (omega arith))
    where
      go : (r : Option ℕ) → IsFirstFrom test 0 r → IsFirstFailure test r
      go None f = λ m. f m (omega arith)
      go (Some o) f = (f.1, λ m l. f.2 m (omega arith) l)
