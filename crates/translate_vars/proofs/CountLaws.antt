-- Lists, and how many of their elements pass a test.
use Rattle.std.proofs.Common.{◌≡◌, ℕ, zero, suc, ◌+◌, ◌<◌, ◌≤◌, Bool, true, false, ◌||◌, cond, List, [], ◌∷◌, ◌++◌, length, take, drop, Some, refl, sym, ◌∙◌, inl, inr, arith}
use Rattle.std.specs.Prelude.{slice_get, count_by, All}
use Rattle.std.specs.List.{list_any}
use Rattle.std.proofs.lemmas.Bool.{true≢false, both_ways, or_parts, false_from_ne_true}
use Rattle.std.proofs.lemmas.Grind.{common_steps}
use Rattle.std.proofs.lemmas.List.Elements.{All-nil, All-cons}
use Rattle.std.proofs.lemmas.List.Sums.{sum_by-cons}
use Rattle.pddl_task.specs.Atoms.{Atom, State}
use Rattle.pddl_task.proofs.Lists.{Mem, get_of_mem, any_at}
use Rattle.translate_vars.proofs.ListingLaws.{taken_get}

pub all_by_mem : {X : Type 0} (P : X → Type 0) (xs : List X) → ((x : X) → Mem x xs → P x) → All P xs
all_by_mem P [] h = All-nil P
all_by_mem P (x ∷ xs) h = All-cons P x xs (h x (inl refl)) (all_by_mem P xs (λ y m. h y (inr m)))

-- a vector of which a part is written, the whole of it
pub written : (n : ℕ) (xs ys : List Bool) → n ≡ length xs → take n (xs ++ drop (length xs) ys) ≡ xs
written n xs ys e = grind (arith, common_steps)

pub taken_whole : {X : Type 0} (n : ℕ) (xs : List X) → length xs ≤ n → take n xs ≡ xs
taken_whole n xs l = grind (arith, common_steps)

pub none_taken : (f : State) (atoms : List Atom) (n : ℕ) → ((k : ℕ) (p : Atom) → k < n → slice_get atoms k ≡ Some p → f p ≡ false) → list_any f (take n atoms) ≡ false
none_taken f atoms n h = false_from_ne_true (list_any f (take n atoms)) (λ e.
    let w = any_at f (take n atoms) e in
    let k = get_of_mem (take n atoms) w.0 w.1 in
    let there = taken_get atoms n k.0 w.0 k.1 in
    both_ways (f w.0) (h k.0 w.0 there.0 there.1) w.2)

count_more : {X : Type 0} (f : X → Bool) (x : X) (xs : List X) → count_by f (x ∷ xs) ≡ cond (f x) 1 0 + count_by f xs
count_more f x xs = sum_by-cons (λ y. cond (f y) 1 0) x xs

pub none_counted : {X : Type 0} (f : X → Bool) (xs : List X) → ((x : X) → Mem x xs → f x ≡ false) → count_by f xs ≡ 0
none_counted f [] h = refl
none_counted f (x ∷ xs) h = count_more f x xs ∙ rw (h x (inl refl), none_counted f xs (λ p m. h p (inr m))) refl

-- where an element that passes has none before it that does, at most one passes
pub counted_first : {X : Type 0} (f : X → Bool) (xs : List X) → ((k : ℕ) (x : X) → slice_get xs k ≡ Some x → f x ≡ true → list_any f (take k xs) ≡ false)
    → count_by f xs ≡ cond (list_any f xs) 1 0
counted_first f [] h = refl
counted_first f (x ∷ xs) h = go (f x) refl (counted_first f xs)
  where
    go : (b : Bool) → f x ≡ b → (((k : ℕ) (y : _) → slice_get xs k ≡ Some y → f y ≡ true → list_any f (take k xs) ≡ false) → count_by f xs ≡ cond (list_any f xs) 1 0)
        → count_by f (x ∷ xs) ≡ cond (b || list_any f xs) 1 0
    go true e ih =
        let none : count_by f xs ≡ 0 = none_counted f xs (λ y m. false_from_ne_true (f y) (λ t.
        let w = get_of_mem xs y m in
        let before : (f x || list_any f (take w.0 xs)) ≡ false = h (suc w.0) y w.1 t in
        both_ways (f x) (or_parts (f x) (list_any f (take w.0 xs)) before).0 e)) in
        count_more f x xs ∙ rw (e, none) refl
    go false e ih =
        count_more f x xs ∙ rw e (omega (arith, ih (λ k y g t. (or_parts (f x) (list_any f (take k xs)) (h (suc k) y g t)).1)))

pub any_counted : {X : Type 0} (f : X → Bool) (xs : List X) → list_any f xs ≡ true → 1 ≤ count_by f xs
any_counted f [] h = absurd (true≢false (sym h))
any_counted f (x ∷ xs) h = go (f x) refl h (any_counted f xs)
  where
    go : (b : Bool) → f x ≡ b → (b || list_any f xs) ≡ true → (list_any f xs ≡ true → 1 ≤ count_by f xs) → 1 ≤ count_by f (x ∷ xs)
    go true e h ih = let c : count_by f (x ∷ xs) ≡ 1 + count_by f xs = count_more f x xs ∙ rw e refl in omega (arith, c)
    go false e h ih = let c : count_by f (x ∷ xs) ≡ 0 + count_by f xs = count_more f x xs ∙ rw e refl in omega (arith, c, ih h)

pub counted_at : {X : Type 0} (f : X → Bool) (xs : List X) (k : ℕ) (x : X) → slice_get xs k ≡ Some x → f x ≡ true → 1 + count_by f (take k xs) ≤ count_by f xs
counted_at f [] k x e t = cc e
counted_at f (y ∷ xs) zero x e t =
    let same : y ≡ x = cc e in
    let c : count_by f (y ∷ xs) ≡ 1 + count_by f xs = count_more f y xs ∙ rw (same, t) refl in
    let n : count_by f (take zero (y ∷ xs)) ≡ 0 = refl in
    omega (arith, c, n)
counted_at f (y ∷ xs) (suc k) x e t =
    omega (arith, count_more f y xs, count_more f y (take k xs), counted_at f xs k x e t)
