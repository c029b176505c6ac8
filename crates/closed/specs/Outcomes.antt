-- The meaning of an outcome for the nodes.
use Rattle.std.specs.Prelude.{◌≡◌, ℕ, true, false, List, [], ◌∷◌, ◌++◌, length, Some, slice_get, slice_set}
use Rattle.owner_theory.specs.Owners.{At, Node, rank_less}
use Rattle.closed.specs.Tables.{reached}

-- no node has the state, and the state's node is appended
pub record ComesLast (nodes : List Node) (m : Node) (i : ℕ) : Type 0 where
  pub place : i ≡ length nodes
  pub absent : (j : ℕ) (n : Node) → At nodes j n → n.state ≡ m.state → ⊥
  pub appended : reached nodes m ≡ nodes ++ m ∷ []

-- the node of the state is at index `i`, at a greater rank, and is replaced
pub record GivesWay (nodes : List Node) (m : Node) (i : ℕ) : Type 0 where
  pub node : Node
  pub there : slice_get nodes i ≡ Some node
  pub state : node.state ≡ m.state
  pub rank : rank_less m.cost m.steps node.cost node.steps ≡ true
  pub replaced : reached nodes m ≡ slice_set nodes i m

-- the state has a node, at no greater rank, and the nodes are unchanged
pub record Stays (nodes : List Node) (m : Node) : Type 0 where
  pub place : ℕ
  pub node : Node
  pub there : slice_get nodes place ≡ Some node
  pub state : node.state ≡ m.state
  pub rank : rank_less m.cost m.steps node.cost node.steps ≡ false
  pub same : reached nodes m ≡ nodes
