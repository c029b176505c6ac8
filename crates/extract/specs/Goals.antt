-- The first goal node of a cost, by owner and index.
use Rattle.std.specs.Prelude.{ℕ, suc, Bool, ◌&&◌, ◌==◌, if◌then◌else◌, List, [], ◌∷◌, Option, Some, None}
use Rattle.cost.specs.Distances.{Distance, Finite, Infinite}
use Rattle.fdr.specs.Tasks.{FiniteDomainTask, is_goal_state}
use Rattle.owner_theory.specs.Owners.{Node}
use Rattle.owner.specs.Owned.{OwnerOf}

-- the node has this cost and a goal state
abbrev pub is_goal_at : FiniteDomainTask → ℕ → Node → Bool
is_goal_at task cost n = (n.cost == cost) && is_goal_state task n.state

-- the index of the first element that passes the test, if these elements have the indices from `i` on
abbrev pub first_from : {X : Type 0} → (X → Bool) → ℕ → List X → Option ℕ
first_from test i [] = None
first_from test i (x ∷ xs) = if test x then Some i else first_from test (suc i) xs

-- this row with that index, or the later pair if there is no index
abbrev pub here_or_later : ℕ → Option ℕ → Option (ℕ × ℕ) → Option (ℕ × ℕ)
here_or_later v (Some i) later = Some (v, i)
here_or_later v None later = later

-- the row and the index of the first element of these rows that passes the test, if the rows have the numbers from `v`
-- on
abbrev pub first_in_rows : {X Y : Type 0} → (Y → List X) → (X → Bool) → ℕ → List Y → Option (ℕ × ℕ)
first_in_rows row test v [] = None
first_in_rows row test v (y ∷ ys) = here_or_later v (first_from test 0 (row y)) (first_in_rows row test (suc v) ys)

-- the owner and the index of the first goal node of this cost; none if the cost is infinite
abbrev pub first_goal : {S : Type 0} → FiniteDomainTask → Distance → List (OwnerOf S) → Option (ℕ × ℕ)
first_goal task (Finite cost) owners = first_in_rows (λ o. o.nodes) (is_goal_at task cost) 0 owners
first_goal task Infinite owners = None
