-- The order of expansion among nodes of the same f-value.
use Rattle.std.specs.Prelude.{ℕ, Bool, true, false, ◌&&◌, ◌||◌, ◌==◌, nat_le}
use Rattle.owner_theory.specs.Owners.{Node, rank_less}
use Rattle.owner_space.specs.declared.ties.Ties.{Ties}
use Rattle.owner_space.specs.declared.ties.Ties.TheVariants.{Shallow, Deep, Fresh}

-- lesser ranks first, then lower indices
abbrev pub shallow_first : ℕ → Node → ℕ → Node → Bool
shallow_first i m j n =
    rank_less m.cost m.steps n.cost n.steps || ((m.cost == n.cost) && ((m.steps == n.steps) && nat_le i j))

-- greater ranks first, then higher indices
abbrev pub deep_first : ℕ → Node → ℕ → Node → Bool
deep_first i m j n =
    rank_less n.cost n.steps m.cost m.steps || ((m.cost == n.cost) && ((m.steps == n.steps) && nat_le j i))

-- the tie-breaking rule, the order of expansion among nodes of the same f-value; `a` and `b` are whether the first and
-- the second node were ever expanded
abbrev pub ties_first : Ties → Bool → ℕ → Node → Bool → ℕ → Node → Bool
ties_first Shallow a i m b j n = shallow_first i m j n
ties_first Deep a i m b j n = deep_first i m j n
ties_first Fresh false i m false j n = deep_first i m j n
ties_first Fresh false i m true j n = true
ties_first Fresh true i m false j n = false
ties_first Fresh true i m true j n = shallow_first i m j n
