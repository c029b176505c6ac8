-- The hash after the values of all variables.
use Rattle.std.proofs.Common.{◌≡◌, ◌⊎◌, ℕ, ◌<◌, ◌≤◌, min, List, [], ◌∷◌, length, drop, inl, inr, refl, ap, ◌∙◌, arith}
use Rattle.std.proofs.lemmas.List.{drop_all}
use Rattle.std.proofs.lemmas.Bool.{cases_lt}
use Rattle.checker_states.specs.Hashes.{hash_from}

-- past the shorter list there is nothing to add
pub hash_ends : (hash v : ℕ) (multipliers values : List ℕ) → min (length values) (length multipliers) ≤ v → hash_from hash (drop v multipliers) (drop v values) ≡ hash
hash_ends hash v multipliers values l = go (cases_lt v (length multipliers))
  where
    no_values : (ms : List ℕ) → hash_from hash ms [] ≡ hash
    no_values [] = refl
    no_values (m ∷ ms) = refl

    go : (v < length multipliers) ⊎ (length multipliers ≤ v) → hash_from hash (drop v multipliers) (drop v values) ≡ hash
    go (inr k) = ap (λ (ms : List ℕ). hash_from hash ms (drop v values)) (drop_all v multipliers k)
    go (inl k) = ap (hash_from hash (drop v multipliers)) (drop_all v values (omega (arith, k, l))) ∙ no_values (drop v multipliers)
