-- What is printed at a limit.
use Rattle.std.proofs.Common.{◌≡◌, ◌∙◌, ℕ, List, ◌++◌, sym, append_assoc}
use Rattle.std.specs.Prelude.{codes, decimal}

-- the parts of the line, and what stands behind it, one after the other
pub in_parts : (bound : ℕ) (best : List ℕ) → codes "limit " ++ (decimal bound ++ (codes "\n" ++ best)) ≡ codes "limit " ++ decimal bound ++ codes "\n" ++ best
in_parts bound best =
    sym (append_assoc (codes "limit " ++ decimal bound) (codes "\n") best ∙ append_assoc (codes "limit ") (decimal bound) (codes "\n" ++ best))
