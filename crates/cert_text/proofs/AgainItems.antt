-- Items that are spelled one after another, behind a line with their count, are read again.
use Rattle.std.proofs.Common.{◌≡◌, ℕ, suc, ◌+◌, ◌^◌, ◌<◌, ◌≤◌, List, [], ◌∷◌, ◌++◌, length, map, Result, Ok, sym, ap, ◌∙◌, arith, append_assoc}
use Rattle.std.specs.List.{flat_map, AllByRecursion}
use Rattle.std.proofs.lemmas.List.{append-nil, map-append, length-append}
use Rattle.cert_text.specs.declared.fault.CertFault.{CertFault}
use Rattle.cert_text.specs.Pieces.{joined}
use Rattle.cert_text.specs.Spelling.{counted}
use Rattle.cert_text.specs.Reading.{◌>>=◌, Remaining, repeated, behind, count_at}
use Rattle.cert_text.proofs.Again.{lines_from, IsWord, count_again}

-- the lines before what is left
abbrev pub before : List (List (List ℕ)) → List (List ℕ) → List (List ℕ)
before ls tail = map (joined 32) ls ++ tail

abbrev pub IsReadAgain : {X : Type 0} → (Remaining → Result (X × Remaining) CertFault) → X → List (List (List ℕ)) → Type 0
IsReadAgain step x ls = (n : ℕ) (tail : List (List ℕ)) → 0 < length tail → (m : ℕ) × (step (lines_from n (before ls tail)) ≡ Ok (x, lines_from m tail))

pub before_append : (a b : List (List (List ℕ))) (tail : List (List ℕ)) → before (a ++ b) tail ≡ before a (before b tail)
before_append a b tail = ap (λ (xs : List (List ℕ)). xs ++ tail) (map-append (joined 32) a b) ∙ append_assoc (map (joined 32) a) (map (joined 32) b) tail

pub some_left : (ls : List (List (List ℕ))) (tail : List (List ℕ)) → 0 < length tail → 0 < length (before ls tail)
some_left ls tail some = let l = length-append (map (joined 32) ls) tail in omega arith

abbrev pub pushed : {X : Type 0} → List X → Result (X × Remaining) CertFault → Result (List X × Remaining) CertFault
pushed front r = r >>= λ y. Ok (front ++ y.0 ∷ [], y.1)

items_again : {X : Type 0} (spell : X → List (List (List ℕ))) (P : X → Type 0) (step : Remaining → Result (X × Remaining) CertFault) → ((x : X) → P x → IsReadAgain step x (spell x))
    → (xs front : List X) → AllByRecursion P xs → (n : ℕ) (tail : List (List ℕ)) → 0 < length tail
    → (m : ℕ) × (repeated (behind step) (length xs) front (lines_from n (before (flat_map spell xs) tail)) ≡ Ok (front ++ xs, lines_from m tail))
unfolding repeated
items_again {X} spell P step again [] front all n tail some = (n, ap (λ (ys : List X). Ok (ys, lines_from n tail)) (sym (append-nil front)))
items_again {X} spell P step again (x ∷ xs) front all n tail some =
    let rest = before (flat_map spell xs) tail in
    let one = again x all.0 n rest (some_left (flat_map spell xs) tail some) in
    let more = items_again spell P step again xs (front ++ x ∷ []) all.1 one.0 tail some in (
      more.0,
      ap (λ (ls : List (List ℕ)). repeated (behind step) (suc (length xs)) front (lines_from n ls)) (before_append (spell x) (flat_map spell xs) tail)
          ∙ ap (λ (r : Result (X × Remaining) CertFault). pushed front r >>= λ y. repeated (behind step) (length xs) y.0 y.1) one.1
          ∙ more.1 ∙ ap (λ (ys : List X). Ok (ys, lines_from more.0 tail)) (append_assoc front (x ∷ []) xs),
    )

pub section_again : {X : Type 0} (spell : X → List (List (List ℕ))) (P : X → Type 0) (step : Remaining → Result (X × Remaining) CertFault) → ((x : X) → P x → IsReadAgain step x (spell x))
    → (keyword : List ℕ) (least end : ℕ) (xs : List X) → end ≤ 2 ^ 64 → least ≤ length xs → length xs < end → IsWord keyword → AllByRecursion P xs
    → IsReadAgain (λ r. count_at keyword least end r >>= λ count. repeated (behind step) count.0 [] count.1) xs (counted keyword (length xs) [] ∷ flat_map spell xs)
section_again spell P step again keyword least end xs small low high word all n tail some =
    let rest = before (flat_map spell xs) tail in
    let c = count_again keyword least end n (length xs) rest small low high word (some_left (flat_map spell xs) tail some) in
    let m = items_again spell P step again xs [] all (n + 1) tail some in
    (m.0, ap (λ r. r >>= λ count. repeated (behind step) count.0 [] count.1) c ∙ m.1)
