-- One owner of states as it is stored, and the expansion of its next node (hash distributed A*: Kishimoto, Fukunaga and
-- Botea 2013).
use Rattle.std.specs.Prelude.{◌≡◌, ◌≢◌, ℕ, suc, ◌+◌, ◌<◌, ◌≤◌, ◌⊎◌, Bool, true, false, ◌&&◌, ◌||◌, not, if◌then◌else◌, List, [], ◌∷◌, length, slice_set, Option, Some, None, is_some, IfSome}
use Rattle.cost.specs.Distances.{Distance, Infinite, is_at_most, lesser}
use Rattle.fdr.specs.Tasks.{FiniteDomainTask, ranges, IsState, applies_at, cost_of}
use Rattle.owner_theory.specs.Owners.{At, SearchSpace, Message, Node, Owner, Log, f_value, expanded_at}
use Rattle.owner_theory.specs.Worlds.{no_open, waiting}
use Rattle.closed.specs.Tables.{padded, was_expanded}
use Rattle.owner.specs.declared.fault.OwnerFault.{OwnerFault}
use Rattle.owner.specs.declared.fault.OwnerFault.TheVariants.{OutOfMemory, TotalTooLarge, LimitReached}
use Rattle.owner_space.specs.declared.ties.Ties.{Ties}
pub use Rattle.owner_space.specs.Keyed.{max_total}
use Rattle.owner_reached.specs.TieOrders.{ties_first}
use Rattle.owner_space.specs.Spaces.{SpaceOf, searched}

-- the space and the owner's number; its nodes, and for each whether it was ever expanded, at whatever rank; an outbox
-- for each owner, the oldest message first; the least cost at which a goal state was taken; and, under a limit, the
-- number of nodes that it has expanded
pub record OwnerOf (S : Type 0) : Type 0 where
  pub space : SpaceOf S
  pub worker : ℕ
  pub nodes : List Node
  pub ever : List Bool
  pub outboxes : List (List Message)
  pub best : Distance
  pub expansions : ℕ

-- the search space of the owners, each of which has an outbox
abbrev pub space_of : {S : Type 0} → (S → List ℕ → ℕ → ℕ) → OwnerOf S → SearchSpace
space_of owner o = searched owner o.space (length o.outboxes)

-- the owner with `bound` as the bound that it has read last
abbrev pub under : {S : Type 0} → OwnerOf S → Distance → Owner
under o bound = record { nodes = o.nodes; outboxes = o.outboxes; bound = bound; best = o.best }

-- what an owner has counted after a number of expansions: all of them if it has a limit, else none
abbrev pub counted_under : Option ℕ → ℕ → ℕ
counted_under None expansions = 0
counted_under (Some limit) expansions = expansions

-- the log is that of the owner, which has read this bound last and has counted the log's expansions; these are at most
-- as many as its limit allows
pub record IsLogOf {S : Type 0} (log : Log) (o : OwnerOf S) (bound : Distance) : Type 0 where
  pub owner : log.owner ≡ under o bound
  pub counted : o.expansions ≡ counted_under o.space.limit log.expansions
  pub allowed : IfSome o.space.limit (λ limit. log.expansions ≤ limit)

-- a message that owner `to` may receive: its state is a state of the task and belongs to this owner, and its cost and
-- number of operators are at most 2^62
pub record IsMessageTo (space : SearchSpace) (to : ℕ) (m : Message) : Type 0 where
  pub state : IsState (ranges space.task) m.state
  pub owner : space.owner_of m.state ≡ to
  pub cost : m.cost ≤ max_total
  pub steps : m.steps ≤ max_total

-- ---- the next node

-- the order of expansion: by f, then by the tie-breaking rule
abbrev pub goes_before : Ties → SearchSpace → List Bool → ℕ → Node → ℕ → Node → Bool
goes_before ties space ever i m j n =
    not (is_at_most (f_value space n.state n.cost) (f_value space m.state m.cost))
    || (is_at_most (f_value space m.state m.cost) (f_value space n.state n.cost)
    && ties_first ties (was_expanded ever i) i m (was_expanded ever j) j n)

-- an open node: it is not expanded, and its f-value is finite
abbrev pub is_open : SearchSpace → Node → Bool
is_open space n = not n.expanded && not (is_at_most Infinite (f_value space n.state n.cost))

-- node `i` is open, its f-value is below the bound, and it is the first of all open nodes
pub record IsNext (ties : Ties) (space : SearchSpace) (nodes : List Node) (ever : List Bool) (bound : Distance) (i : ℕ) (n : Node)
    : Type 0 where
  pub there : At nodes i n
  pub open_node : is_open space n ≡ true
  pub below : is_at_most bound (f_value space n.state n.cost) ≡ false
  pub first : (j : ℕ) (x : Node) → At nodes j x → is_open space x ≡ true → goes_before ties space ever i n j x ≡ true

-- the cost and the number of operators of each successor of the node are at most 2^62
abbrev pub HasSmallSuccessors : FiniteDomainTask → Node → Type 0
HasSmallSuccessors task n =
    (o : ℕ) → applies_at task o n.state ≡ true → (n.cost + cost_of task o ≤ max_total) × (suc n.steps ≤ max_total)

-- the cost or the number of operators of some successor of the node is above 2^62
abbrev pub HasLargeSuccessor : FiniteDomainTask → Node → Type 0
HasLargeSuccessor task n =
    (o : ℕ) × (applies_at task o n.state ≡ true)
    × ((max_total < n.cost + cost_of task o) ⊎ (max_total < suc n.steps))

-- ---- expanding it

-- the owner's next node is expanded under the bound, and `posted` messages are put into outboxes
pub record Expands {S : Type 0} (owner : S → List ℕ → ℕ → ℕ) (bound : Distance) (old : OwnerOf S) (posted : ℕ) (new : OwnerOf S)
    : Type 0 where
  pub index : ℕ
  pub node : Node
  pub next : IsNext old.space.ties (space_of owner old) old.nodes old.ever bound index node
  pub allowed : old.space.limit ≢ Some old.expansions
  pub small : HasSmallSuccessors old.space.task node
  pub after : under new bound ≡ expanded_at (space_of owner old) old.worker (under old bound) index (Some node)
  pub ever : new.ever ≡ padded (slice_set old.ever index true) (length new.nodes)
  pub put_out : waiting new.outboxes ≡ waiting old.outboxes + posted
  pub space : new.space ≡ old.space
  pub worker : new.worker ≡ old.worker
  pub counted : new.expansions ≡ (if is_some old.space.limit then suc old.expansions else old.expansions)

-- the result of a call to expand the next node: none if no node has an f-value below the bound, otherwise the number of
-- messages put into outboxes
abbrev pub IsExpansion : {S : Type 0} → (S → List ℕ → ℕ → ℕ) → Distance → OwnerOf S → OwnerOf S → Option ℕ → Type 0
IsExpansion owner bound old new None = (no_open (space_of owner old) (under old bound) ≡ true) × (new ≡ old)
IsExpansion owner bound old new (Some posted) = Expands owner bound old posted new

-- why a call to expand is refused; the owner is unchanged. Memory is requested only if a node is to be expanded
abbrev pub IsRefusal : {S : Type 0} → (S → List ℕ → ℕ → ℕ) → Distance → OwnerOf S → OwnerOf S → OwnerFault → Type 0
IsRefusal owner bound old new OutOfMemory =
    (no_open (space_of owner old) (under old bound) ≡ false) × (old.space.limit ≢ Some old.expansions) × (new ≡ old)
IsRefusal owner bound old new LimitReached =
    (no_open (space_of owner old) (under old bound) ≡ false) × (old.space.limit ≡ Some old.expansions) × (new ≡ old)
IsRefusal owner bound old new TotalTooLarge =
    (i : ℕ) × (n : Node) × IsNext old.space.ties (space_of owner old) old.nodes old.ever bound i n × (old.space.limit ≢ Some old.expansions)
    × HasLargeSuccessor old.space.task n × (new ≡ old)

-- ---- the owner's invariant

-- the least f-value of the nodes that are not expanded, infinite if there is none
abbrev pub least_open : SearchSpace → List Node → Distance
least_open space [] = Infinite
least_open space (n ∷ ns) =
    lesser (if n.expanded then Infinite else f_value space n.state n.cost) (least_open space ns)

-- the node's state is a state of the task and belongs to the owner, and its cost and number of operators are at most
-- 2^62
pub record IsKept (space : SearchSpace) (worker : ℕ) (n : Node) : Type 0 where
  pub state : IsState (ranges space.task) n.state
  pub owner : space.owner_of n.state ≡ worker
  pub cost : n.cost ≤ max_total
  pub steps : n.steps ≤ max_total
