-- Lists of words.
use Rattle.std.proofs.Common.{◌≡◌, ℕ, zero, suc, ◌≤◌, ◌-◌, List, [], ◌∷◌, ◌++◌, map, length, take, drop, Option, Some, None, Bor, refl, sym, ap, ◌∙◌, append_assoc, arith}
use Rattle.std.specs.Prelude.{slice_index_or, String, Result, Ok, Err, OnOk, string_bytes}
use Rattle.std.specs.Global.{Global}
use Rattle.pddl_names.specs.Names.{texts_of}
use Rattle.cert_text.specs.Pieces.{joined}
use Rattle.std.specs.List.{flat_map}
use Rattle.std.proofs.lemmas.List.{append-nil, take_all}

pub map_map : {A B C : Type 0} (f : B → C) (g : A → B) (xs : List A) → map f (map g xs) ≡ map (λ x. f (g x)) xs
map_map f g [] = refl
map_map f g (x ∷ xs) = ap (λ ys. f (g x) ∷ ys) (map_map f g xs)

pub flat_map_map : {A B C : Type 0} (f : B → List C) (g : A → B) (xs : List A) → flat_map f (map g xs) ≡ flat_map (λ x. f (g x)) xs
flat_map_map f g [] = refl
flat_map_map f g (x ∷ xs) = ap (λ ys. f (g x) ++ ys) (flat_map_map f g xs)

pub ruleset appending = (append_assoc, append-nil, flat_map_map)

-- the first item, and those behind it
pub map_parts : {X Y : Type 0} (f : X → Y) (xs : List X) (d : X) → 1 ≤ length xs → map f xs ≡ f (slice_index_or xs 0 d) ∷ map f (take (length xs - 1) (drop 1 xs))
map_parts f [] d l = absurd (omega (arith, l))
map_parts f (x ∷ xs) d l = ap (λ ys. f x ∷ map f ys) (sym (take_all (length (x ∷ xs) - 1) xs (omega arith)))

pub on_ok_map : {X E : Type 0} (P Q : Type 0) (r : Result X E) → (P → Q) → OnOk r P → OnOk r Q
on_ok_map P Q (Ok x) f h = f h
on_ok_map P Q (Err e) f h = tt

-- a first word behind a text, and the others each behind a blank
pub joined_parts : (words : List (String Global)) (first : String Global) (old middle new : List ℕ) → 1 ≤ length words → first ≡ slice_index_or words 0 first
    → middle ≡ old ++ string_bytes first → new ≡ middle ++ flat_map (λ w. 32 ∷ string_bytes w) (take (length words - 1) (drop 1 words))
    → new ≡ old ++ joined 32 (texts_of words)
joined_parts words first old middle new some is front all =
    all ∙ ap (λ ys. ys ++ flat_map (λ w. 32 ∷ string_bytes w) (take (length words - 1) (drop 1 words))) front
    ∙ append_assoc old (string_bytes first) (flat_map (λ w. 32 ∷ string_bytes w) (take (length words - 1) (drop 1 words)))
    ∙ ap (λ ys. old ++ ys)
    (ap (λ ys. string_bytes first ++ ys) (sym (flat_map_map (λ q. 32 ∷ q) string_bytes (take (length words - 1) (drop 1 words))))
    ∙ ap (λ (w : String Global). string_bytes w ++ flat_map (λ q. 32 ∷ q) (map string_bytes (take (length words - 1) (drop 1 words)))) is
    ∙ ap (joined 32) (sym (map_parts string_bytes words first some)))
