-- The end of a search by owners: the owners and the messages not taken, at the end of a lawful family.
use Rattle.std.specs.Prelude.{◌≡◌, ℕ, ◌<◌, ◌≤◌, ◌⊎◌, true, false, List, length, map, Option, Some, None, IfSome, All}
use Rattle.std.specs.List.Sorted.{IsPermutation}
use Rattle.cost.specs.Distances.{Distance, Finite, Infinite, ◌≤ᵈ◌, least}
use Rattle.fdr.specs.Tasks.{ranges, IsState, is_goal_state}
use Rattle.owner_theory.specs.Owners.{At, SearchSpace, Node, Packet, Message, f_value}
use Rattle.owner_theory.specs.Families.{Family, IsLawful}
use Rattle.owner.specs.Spaces.{SpaceOf, searched}
use Rattle.owner.specs.Owned.{OwnerOf, counted_under, max_total}
use Rattle.extract.specs.declared.answer.SearchAnswer.{SearchAnswer}
use Rattle.extract.specs.declared.answer.SearchAnswer.TheVariants.{Solved, Unsolvable}

-- the space, the owners, and the messages that were handed out and not taken
pub record EndOf (S : Type 0) : Type 0 where
  pub space : SpaceOf S
  pub owners : List (OwnerOf S)
  pub left : List Packet

abbrev pub space_at : {S : Type 0} → (S → List ℕ → ℕ → ℕ) → EndOf S → SearchSpace
space_at owner e = searched owner e.space (length e.owners)

-- there are owners, each with this space, its own number and an outbox for each owner; and the messages have states of
-- the task, at costs of at most 2^62
pub record IsForm {S : Type 0} (e : EndOf S) : Type 0 where
  pub some : 0 < length e.owners
  pub each : (v : ℕ) (o : OwnerOf S) → At e.owners v o → (o.space ≡ e.space) × (o.worker ≡ v) × (length o.outboxes ≡ length e.owners)
  pub left : All (λ p. IsState (ranges e.space.task) p.message.state × (p.message.cost ≤ max_total)) e.left

-- a lawful family ends with these owners and leaves these messages; each owner has counted its expansions if it has a
-- limit, and these are at most as many as that allows
pub record IsEndOf {S : Type 0} (owner : S → List ℕ → ℕ → ℕ) (e : EndOf S) (family : Family) : Type 0 where
  pub lawful : IsLawful (space_at owner e) family
  pub nodes : (v : ℕ) (o : OwnerOf S) → At e.owners v o → (family.logs v).owner.nodes ≡ o.nodes
  pub outboxes : (v : ℕ) (o : OwnerOf S) → At e.owners v o → (family.logs v).owner.outboxes ≡ o.outboxes
  pub best : (v : ℕ) (o : OwnerOf S) → At e.owners v o → (family.logs v).owner.best ≡ o.best
  pub left : IsPermutation family.left e.left
  pub counted : (v : ℕ) (o : OwnerOf S) → At e.owners v o → o.expansions ≡ counted_under o.space.limit (family.logs v).expansions
  pub allowed : (v : ℕ) (o : OwnerOf S) → At e.owners v o → IfSome o.space.limit (λ limit. (family.logs v).expansions ≤ limit)

-- the bound is at most the message's f-value
abbrev pub IsMessageAbove : SearchSpace → Distance → Message → Type 0
IsMessageAbove space bound m = bound ≤ᵈ f_value space m.state m.cost

-- the bound is at most every pending f-value: of nodes not expanded, of messages in outboxes, and of messages not taken
pub record ArePendingAbove {S : Type 0} (space : SearchSpace) (owners : List (OwnerOf S)) (remaining : List Packet) (bound : Distance) : Type 0 where
  pub nodes : All (λ o. All (λ n. n.expanded ≡ false → bound ≤ᵈ f_value space n.state n.cost) o.nodes) owners
  pub outboxes : All (λ o. All (All (IsMessageAbove space bound)) o.outboxes) owners
  pub left : All (λ p. IsMessageAbove space bound p.message) remaining

-- the bound is the least cost at which a goal state was taken, and no pending f-value is below it
pub record IsSettledAt {S : Type 0} (space : SearchSpace) (owners : List (OwnerOf S)) (remaining : List Packet) (bound : Distance) : Type 0 where
  pub best : bound ≡ least (map (λ o. o.best) owners)
  pub pending : ArePendingAbove space owners remaining bound

-- the answer to whether the owners are settled: the bound at which they are, or that they are not
abbrev pub IsSettledAnswer : {S : Type 0} → SearchSpace → List (OwnerOf S) → List Packet → Option Distance → Type 0
IsSettledAnswer space owners left None = (bound : Distance) → IsSettledAt space owners left bound → ⊥
IsSettledAnswer space owners left (Some bound) = IsSettledAt space owners left bound

-- the answer of a search: the cost of a cheapest plan, that there is no plan, or none yet
abbrev pub answer_of : Option Distance → Option SearchAnswer
answer_of None = None
answer_of (Some (Finite cost)) = Some (Solved cost)
answer_of (Some Infinite) = Some Unsolvable

-- ---- goal nodes

-- the first pair (owner, index) comes before the second or is equal to it
abbrev pub IsNotAfter : ℕ → ℕ → ℕ → ℕ → Type 0
IsNotAfter v i w j = (v < w) ⊎ ((v ≡ w) × (i ≤ j))

-- owner `v` has a node with a goal state at index `i`
pub record IsGoalNodeAt {S : Type 0} (e : EndOf S) (v i : ℕ) (n : Node) : Type 0 where
  pub holder : OwnerOf S
  pub owner : At e.owners v holder
  pub there : At holder.nodes i n
  pub goal : is_goal_state e.space.task n.state ≡ true

-- a goal node of the least cost, of these the one of the lowest owner, and there of the lowest index; none if there is
-- no goal node
abbrev pub IsBestGoal : {S : Type 0} → EndOf S → Option (ℕ × ℕ) → Type 0
IsBestGoal e None = (v i : ℕ) (n : Node) → IsGoalNodeAt e v i n → ⊥
IsBestGoal e (Some (v, i)) =
    (n : Node) × IsGoalNodeAt e v i n
    × ((w j : ℕ) (m : Node) → IsGoalNodeAt e w j m → (n.cost ≤ m.cost) × (m.cost ≡ n.cost → IsNotAfter v i w j))
