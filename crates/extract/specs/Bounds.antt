-- The lower bound of an end: no plan costs less, whether the owners are settled or not.
use Rattle.std.specs.Prelude.{ℕ, List, min, map}
use Rattle.cost.specs.Distances.{Distance, Finite, Infinite, lesser, least}
use Rattle.owner.specs.Owned.{max_total}
use Rattle.extract.specs.Ends.{EndOf}
use Rattle.extract.specs.Pending.{least_held, least_packet}

-- the least pending f-value: of nodes that are not expanded, of messages in outboxes, and of messages not taken
abbrev pub least_pending : {S : Type 0} → (S → List ℕ → ℕ → ℕ) → EndOf S → Distance
least_pending owner e = lesser (least (map (least_held owner) e.owners)) (least_packet e.space e.left)

-- the least cost at which a goal state was taken
abbrev pub least_best : {S : Type 0} → EndOf S → Distance
least_best e = least (map (λ o. o.best) e.owners)

-- the bound that a certificate states for this one: finite bounds are capped at 2^62
abbrev pub stated : Distance → Distance
stated (Finite n) = Finite (min n max_total)
stated Infinite = Infinite

-- the lesser of the least cost at which a goal state was taken and the least pending f-value, as a certificate states
-- it
abbrev pub lower_bound : {S : Type 0} → (S → List ℕ → ℕ → ℕ) → EndOf S → Distance
lower_bound owner e = stated (lesser (least_best e) (least_pending owner e))
