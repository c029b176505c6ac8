-- The open list of an owner and its nodes. Stale entries stay in the list: those of nodes that have since been reached
-- at a lesser rank, or have been expanded. The first entry is never stale.
--
-- The list has one order. Its entries are stored keyed by the tie-breaking rule and by whether their nodes were ever
-- expanded, so that the order of stored entries is that of the rule.
use Rattle.std.specs.Prelude.{◌≡◌, ℕ, ◌≤◌, ◌^◌, Bool, true, false, ◌&&◌, ◌||◌, ◌==◌, nat_lt, List, [], ◌∷◌, All, Option, Some, None, Contains}
use Rattle.cost.specs.Distances.{Distance, Finite, ◌+ᵈ◌}
use Rattle.checker_clauses.specs.Clauses.{heuristic_of}
use Rattle.owner_theory.specs.Owners.{At, Node}
use Rattle.openlist.specs.declared.entry.Rank.{Rank}
use Rattle.openlist.specs.declared.entry.OpenEntry.{OpenEntry}
use Rattle.openlist.specs.OpenLists.{IsFirst, entry_of}
use Rattle.closed.specs.declared.table.Outcome.{Outcome}
use Rattle.closed.specs.declared.table.Outcome.TheVariants.{New, Better, Kept}
use Rattle.closed.specs.Tables.{was_expanded}
use Rattle.owner_space.specs.declared.ties.Ties.{Ties}
use Rattle.owner_space.specs.Keyed.{IsSmall, IsKeyed, keyed, denoted}
use Rattle.owner_space.specs.Spaces.{SpaceOf}
use Rattle.owner_reached.specs.TieOrders.{ties_first}

-- the space, the states reached in it, and for each whether it was ever expanded
pub record ReachedOf (S : Type 0) : Type 0 where
  pub space : SpaceOf S
  pub nodes : List Node
  pub ever : List Bool

abbrev pub h_of : {S : Type 0} → SpaceOf S → List ℕ → Distance
h_of space = heuristic_of space.task space.columns

-- ---- entries of nodes

-- the entry as it is stored, keyed with its node's bit
abbrev pub keyed_in : Ties → List Bool → OpenEntry → OpenEntry
keyed_in ties ever e = keyed ties (was_expanded ever e.index) e

-- the entry's node was reached at the entry's rank, and has that rank or a lesser one now
pub record IsOf (h : List ℕ → Distance) (nodes : List Node) (e : OpenEntry) : Type 0 where
  pub node : Node
  pub there : At nodes e.index node
  pub f : Finite e.rank.cost +ᵈ h node.state ≡ Finite e.f
  pub within : e.f ≤ 2 ^ 63
  pub cost : node.cost ≤ e.rank.cost
  pub steps : node.cost ≡ e.rank.cost → node.steps ≤ e.rank.steps

-- the stored entry denotes one whose node is not expanded and has its rank, and is keyed with this node's bit
pub record IsCurrent (ties : Ties) (nodes : List Node) (ever : List Bool) (e : OpenEntry) : Type 0 where
  pub node : Node
  pub there : At nodes (denoted ties e).index node
  pub waits : node.expanded ≡ false
  pub cost : node.cost ≡ (denoted ties e).rank.cost
  pub steps : node.steps ≡ (denoted ties e).rank.steps
  pub bit : e ≡ keyed_in ties ever (denoted ties e)

-- each open node has an entry that is stored keyed with its bit, and each stored entry belongs to a node
pub record AreQueued (ties : Ties) (h : List ℕ → Distance) (nodes : List Node) (ever : List Bool) (entries : List OpenEntry) : Type 0 where
  pub complete : (i : ℕ) (n : Node) (f : ℕ) → At nodes i n → n.expanded ≡ false → Finite n.cost +ᵈ h n.state ≡ Finite f
      → Contains entries (keyed_in ties ever (entry_of f n.cost n.steps i)) × IsSmall (entry_of f n.cost n.steps i)
  pub sound : (e : OpenEntry) → Contains entries e → IsOf h nodes (denoted ties e)

-- the stored entries are keyed by the rule and belong to the nodes, and the first of them is current
pub record IsQueue (ties : Ties) (h : List ℕ → Distance) (nodes : List Node) (ever : List Bool) (entries : List OpenEntry) : Type 0 where
  pub stored : All (IsKeyed ties) entries
  pub queued : AreQueued ties h nodes ever entries
  pub top : (e : OpenEntry) → Contains entries e → IsFirst e entries → IsCurrent ties nodes ever e

-- the entry belongs to the first of all open nodes
pub record IsLeast (ties : Ties) (h : List ℕ → Distance) (nodes : List Node) (ever : List Bool) (e : OpenEntry) : Type 0 where
  pub node : Node
  pub there : At nodes e.index node
  pub waits : node.expanded ≡ false
  pub cost : node.cost ≡ e.rank.cost
  pub steps : node.steps ≡ e.rank.steps
  pub f : Finite node.cost +ᵈ h node.state ≡ Finite e.f
  pub within : e.f ≤ 2 ^ 63
  pub first : (j : ℕ) (x : Node) (f : ℕ) → At nodes j x → x.expanded ≡ false → Finite x.cost +ᵈ h x.state ≡ Finite f
      → (nat_lt e.f f || ((e.f == f) && ties_first ties (was_expanded ever e.index) e.index node (was_expanded ever j) j x)) ≡ true

-- no node is open
abbrev pub HasNoneOpen : (List ℕ → Distance) → List Node → Type 0
HasNoneOpen h nodes = (i : ℕ) (n : Node) (f : ℕ) → At nodes i n → n.expanded ≡ false → Finite n.cost +ᵈ h n.state ≡ Finite f → ⊥

-- the entry for the open list, before it is keyed, when a state is reached at this f-value; none if that is infinite or
-- the state is not new or improved
abbrev pub added : Option ℕ → Rank → Outcome → List OpenEntry
added None rank outcome = []
added (Some f) rank (New i) = record { f = f; rank = rank; index = i } ∷ []
added (Some f) rank (Better i) = record { f = f; rank = rank; index = i } ∷ []
added (Some f) rank Kept = []
