-- Numbers found in lists, and rows of actions.
use Rattle.std.proofs.Common.{◌≡◌, ◌≢◌, ℕ, suc, ◌+◌, ◌<◌, ◌≤◌, Bool, true, false, ◌&&◌, ◌||◌, List, [], ◌∷◌, ◌++◌, length, get_or, take, Option, refl, sym, ap, ◌∙◌, arith, ⊎_elim, eqb, ltb}
use Rattle.std.specs.Prelude.{Result, Ok, Err, is_ok, MatchResult}
use Rattle.std.specs.List.{list_any, filter_map, cons_option}
use Rattle.std.specs.List.Sorted.{IsStrictlyIncreasing, IsBinarySearchResult}
use Rattle.std.specs.Ordering.{nat_cmp}
use Rattle.std.proofs.lemmas.Bool.{eqb-true, eq-eqb, true≢false, false_from_ne_true, cases_Bool, ltb-true, ltb-false}
use Rattle.std.proofs.lemmas.Grind.{get_or_default_zero}
use Rattle.std.proofs.lemmas.List.Folds.{list_any_more}
use Rattle.std.proofs.lemmas.List.Sorted.{searched}
use Rattle.std.proofs.lemmas.List.Kept.{AllPairs-from_increasing}
use Rattle.std.proofs.lemmas.List.Elements.{filter_map-append}
use Rattle.std.proofs.Math.Seq.{take-suc}
use Rattle.pddl_task.proofs.Lists.{Mem, mem_from_contains, contains_from_mem, any_at, any_from}
use Rattle.index_rows.specs.Numbers.{has}
use Rattle.index_rows.proofs.NumberLaws.{has_mem, mem_has}

rising : (xs : List ℕ) → IsStrictlyIncreasing xs → (i j : ℕ) → i ≤ j → j < length xs → get_or xs i 0 ≤ get_or xs j 0
rising xs h i j l m =
    ⊎_elim
    (λ e. let k : get_or xs i 0 < get_or xs j 0 = AllPairs-from_increasing xs h i j 0 (ltb-true i j e) m in omega (arith, k))
    (λ e. let q : i ≡ j = omega (arith, ltb-false i j e, l) in rw q (omega arith))
    (cases_Bool (ltb i j))

-- a binary search tells whether the number is there
pub found_is : (xs : List ℕ) (x : ℕ) (r : Result ℕ ℕ) → IsStrictlyIncreasing xs → IsBinarySearchResult (λ y. nat_cmp y x) xs r → is_ok r ≡ has xs x
found_is xs x r h search_ = go r (searched xs x r search_ (rising xs h))
  where
    go : (r : Result ℕ ℕ)
        → MatchResult r (λ i. (i < length xs) × (get_or xs i 0 ≡ x))
        (λ i. (i ≤ length xs) × ((k : ℕ) → k < i → get_or xs k 0 < x) × ((k : ℕ) → i ≤ k → k < length xs → x < get_or xs k 0))
        → is_ok r ≡ has xs x
    go (Ok i) w = sym (mem_has xs x (mem_from_contains xs x (i, w.0, get_or_default_zero xs i x w.0 ∙ w.1)))
    go (Err i) w = sym (false_from_ne_true (has xs x) (λ e.
        let c = contains_from_mem xs x (has_mem xs x e) in
        let here : get_or xs c.0 0 ≡ x = sym (get_or_default_zero xs c.0 x c.1) ∙ c.2 in
        ⊎_elim
        (λ (b : ltb c.0 i ≡ true). omega (arith, w.1 c.0 (ltb-true c.0 i b), here))
        (λ (b : ltb c.0 i ≡ false). omega (arith, w.2 c.0 (ltb-false c.0 i b) c.1, here))
        (cases_Bool (ltb c.0 i))))

-- the rows of one more action
pub one_row : (n k : ℕ) (x y : Bool) → (n ≡ k → x ≡ y) → ((ltb k n && x) || (eqb n k && y)) ≡ (ltb k (n + 1) && x)
one_row n k x y h = go (ltb k n) (eqb n k) (ltb k (n + 1)) x refl refl refl h
  where
    both : (x : Bool) → (x || x) ≡ x
    both true = refl
    both false = refl

    go : (a b c x : Bool) → ltb k n ≡ a → eqb n k ≡ b → ltb k (n + 1) ≡ c → (n ≡ k → x ≡ y) → ((a && x) || (b && y)) ≡ (c && x)
    go true true c x e f g h = absurd (omega (arith, ltb-true k n e, eqb-true n k f))
    go true false true x e f g h = go2 x
      where
        go2 : (x : Bool) → (x || false) ≡ x
        go2 true = refl
        go2 false = refl
    go true false false x e f g h = absurd (omega (arith, ltb-true k n e, ltb-false k (n + 1) g))
    go false true true x e f g h = sym (h (eqb-true n k f))
    go false true false x e f g h = absurd (omega (arith, eqb-true n k f, ltb-false k (n + 1) g))
    go false false true x e f g h = absurd (omega (arith, ltb-false k n e, ltb-true k (n + 1) g, differ))
      where
        differ : n ≢ k
        differ q = true≢false (sym (eq-eqb n k q) ∙ f)
    go false false false x e f g h = refl

-- one more element of a list whose results are kept where there are any
pub filter_more : {X : Type 0} (f : X → Option ℕ) (xs : List X) (i : ℕ) (d : X) (now after : List ℕ) → i < length xs
    → now ≡ filter_map f (take i xs) → after ≡ now ++ cons_option (f (get_or xs i d)) [] → after ≡ filter_map f (take (i + 1) xs)
filter_more f xs i d now after l e g =
    let s : suc i ≡ i + 1 = omega arith in
    g ∙ ap (λ (ys : List ℕ). ys ++ cons_option (f (get_or xs i d)) []) e
    ∙ sym (filter_map-append f (take i xs) (get_or xs i d ∷ []))
    ∙ ap (filter_map f) (sym (take-suc xs i d l) ∙ ap (λ k. take k xs) s)
