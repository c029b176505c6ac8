-- Texts are ASCII.
use Rattle.std.proofs.Common.{◌≡◌, ℕ, zero, suc, ◌<◌, Bool, true, false, ◌&&◌, List, [], ◌∷◌, refl, arith}
use Rattle.std.specs.List.{list_all}
use Rattle.std.specs.Str.{IsUtf8, IsAscii}
use Rattle.std.proofs.lemmas.Str.{IsUtf8-from_ascii}
use Rattle.sasfile_reader.specs.Lines.{is_text_byte}

and_left : (a b : Bool) → (a && b) ≡ true → a ≡ true
and_left true b e = refl
and_left false b e = absurd cc

and_right : (a b : Bool) → (a && b) ≡ true → b ≡ true
and_right true b e = e
and_right false b e = absurd cc

text_byte_small : (b : ℕ) → is_text_byte b ≡ true → b < 128
text_byte_small b e = grind arith

text_is_ascii : (bs : List ℕ) → list_all is_text_byte bs ≡ true → IsAscii bs
text_is_ascii [] e i = omega arith
text_is_ascii (b ∷ bs) e zero = text_byte_small b (and_left _ _ e)
text_is_ascii (b ∷ bs) e (suc i) = text_is_ascii bs (and_right _ _ e) i

pub text_is_utf8 : (bs : List ℕ) → list_all is_text_byte bs ≡ true → IsUtf8 bs
text_is_utf8 bs e = IsUtf8-from_ascii bs (text_is_ascii bs e)
