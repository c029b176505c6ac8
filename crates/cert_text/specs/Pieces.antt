-- Pieces of a text between separators: lines between line feeds, and words between blanks.
use Rattle.std.specs.Prelude.{ℕ, ◌==◌, if◌then◌else◌, List, [], ◌∷◌, ◌++◌}
use Rattle.std.specs.List.{flat_map}

-- the pieces with one more byte at the start of the first
abbrev pub into_first : ℕ → List (List ℕ) → List (List ℕ)
into_first b [] = (b ∷ []) ∷ []
into_first b (p ∷ ps) = (b ∷ p) ∷ ps

-- the pieces before, between and after separators: one more than there are separators
unfoldable pub pieces : ℕ → List ℕ → List (List ℕ)
pieces separator [] = [] ∷ []
pieces separator (b ∷ bs) = if b == separator then [] ∷ pieces separator bs else into_first b (pieces separator bs)

-- the pieces with a separator between each two
abbrev pub joined : ℕ → List (List ℕ) → List ℕ
joined separator [] = []
joined separator (p ∷ ps) = p ++ flat_map (λ q. separator ∷ q) ps
