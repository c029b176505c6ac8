-- Atoms by their places.
use Rattle.std.proofs.Common.{◌≡◌, ℕ, zero, suc, ◌<◌, List, [], ◌∷◌, Option, Some, refl, ap, ◌∙◌, arith}
use Rattle.std.specs.Prelude.{All, length, slice_get}
use Rattle.std.specs.List.{cons_option}
use Rattle.std.proofs.lemmas.List.Elements.{All-head, All-tail}
use Rattle.pddl_task.specs.Atoms.{Atom}
use Rattle.mutex_index.specs.Places.{atoms_at}

there : {X : Type 0} (xs : List X) (k : ℕ) → k < length xs → (x : X) × (slice_get xs k ≡ Some x)
there [] k l = absurd (omega (arith, l))
there (x ∷ xs) zero l = (x, refl)
there (x ∷ xs) (suc k) l = there xs k (omega (arith, l))

-- as many atoms as places
pub atoms_length : (atoms : List Atom) (places : List ℕ) → All (λ p. p < length atoms) places → length (atoms_at atoms places) ≡ length places
atoms_length atoms [] h = refl
atoms_length atoms (p ∷ places) h = go (there atoms p (All-head (λ q. q < length atoms) p places h)) (atoms_length atoms places (All-tail (λ q. q < length atoms) p places h))
  where
    go : ((a : Atom) × (slice_get atoms p ≡ Some a)) → length (atoms_at atoms places) ≡ length places → length (atoms_at atoms (p ∷ places)) ≡ suc (length places)
    go (a, e) rest = ap (λ (o : Option Atom). length (cons_option o (atoms_at atoms places))) e ∙ ap suc rest
