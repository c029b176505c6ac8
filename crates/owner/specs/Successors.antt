-- The successors of a node, and those that are known to be duplicates that change nothing.
use Rattle.std.specs.Prelude.{◌≡◌, ℕ, ◌<◌, true, false, List, Some, slice_get, slice_index, slice_index_or, Bool}
use Rattle.std.specs.Hash.{HashWrites}
use Rattle.fdr.specs.Tasks.{ranges, step, is_goal_state}
use Rattle.owner_theory.specs.Owners.{SearchSpace, Message, Node, node_of, message_to}
use Rattle.closed.specs.declared.table.Outcome.TheVariants.{Kept}
use Rattle.closed.specs.declared.rows.Hint.{Hint}
use Rattle.closed.specs.Tables.{outcome_of}
use Rattle.closed.specs.Hints.{IsHintFor}
use Rattle.owner.specs.declared.successors.Successor.{Successor}

-- the successor of the state by its operator, with correct owner and goal test, if `values` returns the values of a
-- form
pub record IsSuccessor {F : Type 0} (IsForm : List ℕ → F → Type 0) (values : List ℕ → F → List ℕ) (space : SearchSpace)
    (state : List ℕ) (s : Successor F) : Type 0 where
  pub form : IsForm (ranges space.task) s.state
  pub leads : step space.task state s.operator ≡ Some (values (ranges space.task) s.state)
  pub owner : s.owner ≡ space.owner_of (values (ranges space.task) s.state)
  pub there : s.owner < space.owners
  pub goal : s.is_goal ≡ is_goal_state space.task (values (ranges space.task) s.state)

-- the message's state belongs to this owner, is no goal state, and was reached at the message's rank or a lesser one,
-- so that the message changes nothing
pub record ChangesNothing (space : SearchSpace) (me : ℕ) (nodes : List Node) (m : Message) : Type 0 where
  pub own : space.owner_of m.state ≡ me
  pub no_goal : is_goal_state space.task m.state ≡ false
  pub kept : outcome_of nodes (node_of m) ≡ Kept

-- every successor that `known` marks changes nothing
abbrev pub AreKnown : SearchSpace → ℕ → ℕ → Node → List Node → List ℕ → List Bool → Type 0
AreKnown space me index n nodes operators known =
    (k : ℕ) → slice_index_or known k false ≡ true → (t : List ℕ) → step space.task n.state (slice_index operators k) ≡ Some t
    → ChangesNothing space me nodes (message_to space.task me index n (slice_index operators k) t)

-- the hints of those successors that belong to this owner are hints for their forms, if `writes` returns what a form
-- writes to a hasher
abbrev pub AreOwnHints : {F : Type 0} → (F → HashWrites) → ℕ → List (Successor F) → List Hint → Type 0
AreOwnHints {F = F} writes me successors hints =
    (k : ℕ) (s : Successor F) (h : Hint) → slice_get successors k ≡ Some s → slice_get hints k ≡ Some h → s.owner ≡ me → IsHintFor writes s.state h
