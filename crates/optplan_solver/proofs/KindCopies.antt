-- Copies of kinds.
use Rattle.std.proofs.Common.{◌≡◌, List, [], ◌∷◌, map, vec_len, refl, ap, ◌∙◌}
use Rattle.std.specs.Prelude.{Vec, String, string_bytes}
use Rattle.std.specs.Global.{Global}
use Rattle.std.specs.List.{AllZip}
use Rattle.cert_value.specs.Views.{atom_of}

-- lists whose elements have the same values, place by place
pub same_values : {A B : Type 0} (R : A → A → Type 0) (value : A → B) → ((x y : A) → R x y → value y ≡ value x) → (xs ys : List A) → AllZip R xs ys
    → map value ys ≡ map value xs
same_values R value same [] [] zipped = refl
same_values R value same [] (y ∷ ys) zipped = absurd zipped
same_values R value same (x ∷ xs) [] zipped = absurd zipped
same_values {B = B} R value same (x ∷ xs) (y ∷ ys) zipped =
    ap (λ (b : B). b ∷ map value ys) (same x y zipped.0)
    ∙ ap (λ (bs : List B). value x ∷ bs) (same_values R value same xs ys zipped.1)

-- copies of atoms have their words
pub copied_atoms : (vs ws : List (Vec (String Global) Global))
    → AllZip (λ v w. AllZip (λ s t. string_bytes t ≡ string_bytes s) v.items w.items × (vec_len w ≡ vec_len v)) vs ws → map atom_of ws ≡ map atom_of vs
copied_atoms vs ws zipped =
    same_values (λ (v w : Vec (String Global) Global). AllZip (λ s t. string_bytes t ≡ string_bytes s) v.items w.items × (vec_len w ≡ vec_len v)) atom_of
    (λ v w both. same_values (λ (s t : String Global). string_bytes t ≡ string_bytes s) string_bytes (λ s t same. same) v.items w.items both.0) vs ws zipped
