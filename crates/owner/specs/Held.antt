-- The invariant of owners, and what they need for taking states and generating successors.
use Rattle.std.specs.Prelude.{ℕ, ◌<◌, ◌≤◌, List, length, All, IfSome}
use Rattle.owner_theory.specs.Owners as machine
use Rattle.owner_theory.specs.Owners.{At, Node, list_at}
use Rattle.openlist.specs.declared.entry.Rank.{Rank}
use Rattle.closed.specs.declared.message.Parent.{Parent}
use Rattle.closed.specs.Tables.{parent_of}
use Rattle.scp.specs.Places.{PlacesOf}
use Rattle.owner_space.specs.Spaces.{SpaceOf}
use Rattle.owner.specs.Owned.{OwnerOf, space_of, IsKept, IsMessageTo}

-- the owner is one of several, its nodes are its own, its messages are in the outboxes of their owners, and at most as
-- many nodes were expanded as the limit allows
pub record IsOwner {S : Type 0} (owner : S → List ℕ → ℕ → ℕ) (o : OwnerOf S) : Type 0 where
  pub owners : o.worker < length o.outboxes
  pub nodes : (i : ℕ) (n : Node) → At o.nodes i n → IsKept (space_of owner o) o.worker n
  pub messages : (to : ℕ) → to < length o.outboxes → All (IsMessageTo (space_of owner o) to) (list_at o.outboxes to)
  pub counted : IfSome o.space.limit (λ limit. o.expansions ≤ limit)

-- the columns of the space, with a state
abbrev pub places_in : {S : Type 0} → SpaceOf S → List ℕ → PlacesOf
places_in space state = record { task = space.task; columns = space.columns; state = state }

-- the message with these parts
abbrev pub message_at : List ℕ → Rank → Parent → machine.Message
message_at state rank parent = record { state = state; cost = rank.cost; steps = rank.steps; parent = parent_of parent }
