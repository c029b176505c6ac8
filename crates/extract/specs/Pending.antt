-- The least pending f-value.
use Rattle.std.specs.Prelude.{ℕ, ◌≤◌, List, map}
use Rattle.cost.specs.Distances.{Distance, Finite, ◌+ᵈ◌, lesser, least}
use Rattle.checker_clauses.specs.Clauses.{heuristic_of}
use Rattle.fdr.specs.Tasks.{FiniteDomainTask, ranges, IsState}
use Rattle.owner_theory.specs.Owners.{Message, Packet}
use Rattle.owner.specs.Spaces.{SpaceOf}
use Rattle.owner.specs.Owned.{OwnerOf, space_of, max_total, least_open}

-- the message's state is a state of the task, and its cost is at most 2^62
abbrev pub IsSmallMessage : FiniteDomainTask → Message → Type 0
IsSmallMessage task m = IsState (ranges task) m.state × (m.cost ≤ max_total)

-- the f-value of a message
abbrev pub f_at : {S : Type 0} → SpaceOf S → Message → Distance
f_at space m = Finite m.cost +ᵈ heuristic_of space.task space.columns m.state

-- the least f-value of these messages
abbrev pub least_message : {S : Type 0} → SpaceOf S → List Message → Distance
least_message space ms = least (map (f_at space) ms)

abbrev pub least_packet : {S : Type 0} → SpaceOf S → List Packet → Distance
least_packet space ps = least (map (λ p. f_at space p.message) ps)

-- the least f-value of an owner's nodes that are not expanded and of the messages in its outboxes
abbrev pub least_held : {S : Type 0} → (S → List ℕ → ℕ → ℕ) → OwnerOf S → Distance
least_held owner o = lesser (least_open (space_of owner o) o.nodes) (least (map (least_message o.space) o.outboxes))
