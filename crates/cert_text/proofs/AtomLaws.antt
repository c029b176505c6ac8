-- The words of an atom.
use Rattle.std.proofs.Common.{◌≡◌, ℕ, zero, suc, ◌<◌, Bool, true, false, List, [], ◌∷◌, ◌++◌, length, get_or, refl, sym, ap, ◌∙◌, arith, append_assoc}
use Rattle.std.specs.Prelude.{◌&&◌, nat_lt}
use Rattle.std.specs.List.{list_all}
use Rattle.std.specs.Str.{IsUtf8}
use Rattle.std.proofs.lemmas.Str.{IsUtf8-from_ascii}
use Rattle.std.proofs.lemmas.Bool.Decides.{nat_tests}
use Rattle.cert_text.specs.Reading.{is_printed, is_atom_word}

and_parts : (a b : Bool) → (a && b) ≡ true → (a ≡ true) × (b ≡ true)
and_parts true b e = (refl, e)
and_parts false b e = absurd cc

printed_is_low : (b : ℕ) → is_printed b ≡ true → b < 128
printed_is_low b e = grind (arith, nat_tests)

low : (bytes : List ℕ) → list_all is_printed bytes ≡ true → (i : ℕ) → get_or bytes i 0 < 128
low [] e i = omega arith
low (b ∷ bs) e zero = printed_is_low b (and_parts (is_printed b) (list_all is_printed bs) e).0
low (b ∷ bs) e (suc i) = low bs (and_parts (is_printed b) (list_all is_printed bs) e).1 i

-- a word of an atom is text
pub word_is_text : (word : List ℕ) → is_atom_word word ≡ true → IsUtf8 word
word_is_text word e = IsUtf8-from_ascii word (low word (and_parts (nat_lt 0 (length word)) (list_all is_printed word) e).1)

pub word_stays : (words rest ws : List (List ℕ)) (w : List ℕ) → rest ≡ w ∷ ws → is_atom_word w ≡ true → list_all is_atom_word words ≡ list_all is_atom_word rest → list_all is_atom_word words ≡ list_all is_atom_word ws
word_stays words rest ws w e ok same = same ∙ ap (list_all is_atom_word) e ∙ ap (λ (b : Bool). b && list_all is_atom_word ws) ok

pub word_fails : (words rest ws : List (List ℕ)) (w : List ℕ) → rest ≡ w ∷ ws → is_atom_word w ≡ false → list_all is_atom_word words ≡ list_all is_atom_word rest → list_all is_atom_word words ≡ false
word_fails words rest ws w e bad same = same ∙ ap (list_all is_atom_word) e ∙ ap (λ (b : Bool). b && list_all is_atom_word ws) bad

pub word_moves : (words rest ws front : List (List ℕ)) (w : List ℕ) → rest ≡ w ∷ ws → front ++ rest ≡ words → (front ++ w ∷ []) ++ ws ≡ words
word_moves words rest ws front w e all = append_assoc front (w ∷ []) ws ∙ ap (λ (vs : List (List ℕ)). front ++ vs) (sym e) ∙ all
