-- A slice of all elements, and a list's first element with the rest.
use Rattle.std.proofs.Common.{◌≡◌, ℕ, suc, ◌-◌, ◌≤◌, List, [], ◌∷◌, ◌++◌, length, take, drop, get_or, sym, ap, ◌∙◌, arith}
use Rattle.std.proofs.lemmas.List.{append-nil, take_all, drop_all}

-- a slice of all elements that was written to
pub written : {X : Type 0} (xs ys : List X) (n : ℕ) → length xs ≡ n → length ys ≡ n → take n (xs ++ drop (length xs) ys) ≡ xs
written xs ys n l m =
    ap (λ (zs : List _). take n (xs ++ zs)) (drop_all (length xs) ys (omega arith)) ∙ ap (λ (zs : List _). take n zs) (append-nil xs) ∙ take_all n xs (omega arith)

-- a list with an element is its first and the rest of a slice
pub first_and_rest : {X : Type 0} (xs : List X) (d : X) → 1 ≤ length xs → xs ≡ get_or xs 0 d ∷ take (length xs - 1) (drop 1 xs)
first_and_rest [] d l = absurd (omega arith)
first_and_rest (x ∷ xs) d l =
    let long : length xs ≤ suc (length xs) - 1 = omega arith in
    ap (λ (ys : List _). x ∷ ys) (sym (take_all (suc (length xs) - 1) xs long))
