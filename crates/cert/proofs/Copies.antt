-- Lists that are copied one element after the other.
use Rattle.std.proofs.Common.{◌≡◌, ℕ, ◌+◌, ◌<◌, ◌≤◌, List, [], ◌∷◌, ◌++◌, length, map, get_or, take, Some, sym, ap, ◌∙◌}
use Rattle.std.specs.Prelude.{slice_get}
use Rattle.std.proofs.lemmas.List.{take_more, take_all, map-append}
use Rattle.std.proofs.lemmas.Option.{slice_get_within, get_or_from_slice_get}

pub one_copied : {X : Type 0} (xs : List X) (i : ℕ) (x : X) → slice_get xs i ≡ Some x → (copy : List X) → copy ≡ take i xs → copy ++ x ∷ [] ≡ take (i + 1) xs
one_copied xs i x there copy so_far =
    ap (λ ys. ys ++ x ∷ []) so_far
    ∙ ap (λ y. take i xs ++ y ∷ []) (sym (get_or_from_slice_get xs i x x there))
    ∙ sym (take_more xs i x (slice_get_within xs i x there))

pub all_copied : {X : Type 0} (xs : List X) (i : ℕ) → length xs ≤ i → (copy : List X) → copy ≡ take i xs → copy ≡ xs
all_copied xs i past copy so_far = so_far ∙ take_all i xs past

-- the same where the copies are others that are seen alike
module _ {X Y Z : Type 0} (f : X → Z) (g : Y → Z) (ys : List Y) where
  pub one_alike : (i : ℕ) (y : Y) → i < length ys → y ≡ get_or ys i y → (copy : List X) (x : X) → f x ≡ g y → map f copy ≡ map g (take i ys)
      → map f (copy ++ x ∷ []) ≡ map g (take (i + 1) ys)
  one_alike i y low there copy x alike so_far =
      map-append f copy (x ∷ [])
      ∙ ap (λ zs. zs ++ f x ∷ []) so_far
      ∙ ap (λ z. map g (take i ys) ++ z ∷ []) (alike ∙ ap g there)
      ∙ sym (ap (map g) (take_more ys i y low) ∙ map-append g (take i ys) (get_or ys i y ∷ []))

  pub all_alike : (i : ℕ) → length ys ≤ i → (copy : List X) → map f copy ≡ map g (take i ys) → map f copy ≡ map g ys
  all_alike i past copy so_far = so_far ∙ ap (map g) (take_all i ys past)
