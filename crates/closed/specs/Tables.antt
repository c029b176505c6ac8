-- The reached states, each with the least rank at which it was reached (best-first search: Hart, Nilsson and Raphael
-- 1968).
use Rattle.std.specs.Prelude.{ℕ, zero, suc, Bool, false, if◌then◌else◌, List, [], ◌∷◌, Option, Some, slice_index_or}
use Rattle.std.specs.Option.{option_map}
use Rattle.owner_theory.specs.Owners as machine
use Rattle.owner_theory.specs.Owners.{Node, same_state, rank_less}
use Rattle.openlist.specs.declared.entry.Rank.{Rank}
use Rattle.closed.specs.declared.message.Parent.{Parent}
use Rattle.closed.specs.declared.message.Message.{Message}
use Rattle.closed.specs.declared.table.Entry.{Entry}
use Rattle.closed.specs.declared.table.Outcome.{Outcome}
use Rattle.closed.specs.declared.table.Outcome.TheVariants.{New, Better, Kept}

-- ---- as stored

abbrev pub parent_of : Parent → machine.Parent
parent_of p = record { worker = p.worker; index = p.index; operator = p.operator }

-- the message, if `values` returns the values of its state's form
abbrev pub message_of : {F : Type 0} → (F → List ℕ) → Message F → machine.Message
message_of values m =
    record { state = values m.state; cost = m.rank.cost; steps = m.rank.steps; parent = parent_of m.parent }

-- a state with its entry
abbrev pub node_with : List ℕ → Entry → Node
node_with state e =
    record {
      state = state;
      cost = e.rank.cost;
      steps = e.rank.steps;
      parent = option_map parent_of e.parent;
      expanded = e.expanded;
    }

-- a state that is reached at a rank from a parent, and is not expanded
abbrev pub fresh : List ℕ → Rank → Option Parent → Node
fresh state rank parent = node_with state (record { rank = rank; parent = parent; expanded = false })

-- ---- the table

-- the range of each variable, the nodes of the reached states, and for each node whether its state was ever expanded,
-- at whatever rank
pub record Table : Type 0 where
  pub ranges : List ℕ
  pub nodes : List Node
  pub ever : List Bool

-- the list followed by as many `false` as make it `n` long; the list itself if it is longer
abbrev pub padded : List Bool → ℕ → List Bool
padded bits zero = bits
padded [] (suc n) = false ∷ padded [] n
padded (b ∷ bits) (suc n) = b ∷ padded bits n

-- the state of node `i` was ever expanded
abbrev pub was_expanded : List Bool → ℕ → Bool
was_expanded ever i = slice_index_or ever i false

-- the nodes after a state is reached: each state occurs once, with the least rank at which it was reached
abbrev pub reached : List Node → Node → List Node
reached [] m = m ∷ []
reached (n ∷ ns) m =
    if same_state n.state m.state
    then (if rank_less m.cost m.steps n.cost n.steps then m ∷ ns else n ∷ ns)
    else n ∷ reached ns m

-- the outcome of reaching a state, if the first of these nodes is at index `i`
abbrev pub outcome_from : ℕ → List Node → Node → Outcome
outcome_from i [] m = New i
outcome_from i (n ∷ ns) m =
    if same_state n.state m.state
    then (if rank_less m.cost m.steps n.cost n.steps then Better i else Kept)
    else outcome_from (suc i) ns m

abbrev pub outcome_of : List Node → Node → Outcome
outcome_of nodes m = outcome_from 0 nodes m

-- the outcomes of reaching states one after the other
abbrev pub outcomes_of : List Node → List Node → List Outcome
outcomes_of nodes [] = []
outcomes_of nodes (m ∷ ms) = outcome_of nodes m ∷ outcomes_of (reached nodes m) ms

-- the node of a message's state, if `values` returns the values of its form
abbrev pub arrival : {F : Type 0} → (F → List ℕ) → Message F → Node
arrival values m = fresh (values m.state) m.rank (Some m.parent)
