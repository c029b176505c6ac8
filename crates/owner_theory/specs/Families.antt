-- Families of owners of states, with no order between the events of different owners (after hash distributed A*:
-- Kishimoto, Fukunaga and Botea 2013): when a family is lawful, when it is settled, and its closed list and plan.
use Rattle.std.specs.Prelude.{◌≡◌, ℕ, zero, suc, ◌+◌, ◌<◌, ◌⊎◌, Bool, true, false, ◌&&◌, ◌==◌, if◌then◌else◌, List, [], ◌∷◌, ◌++◌, Some, None, AllPairs}
use Rattle.cost.specs.Distances.{Distance, Finite, Infinite, ◌≤ᵈ◌, lesser}
use Rattle.fdr.specs.Tasks.{FiniteDomainTask, ranges, IsTask, IsState, LeadsToGoal, is_goal_state, plan_cost}
use Rattle.cert_value.specs.Certificates.{Entry}
use Rattle.owner_theory.specs.Owners.{At, list_at, same_state, SearchSpace, Parent, Message, Node, Packet, Log, f_value, IsRun}

-- the task is a finite-domain task, and each state has an owner
pub record IsSearchSpace (space : SearchSpace) : Type 0 where
  pub task : IsTask space.task
  pub owner : (state : List ℕ) → space.owner_of state < space.owners

-- the heuristic of a state of the task is at most the cost of any operators from it to a goal state
abbrev pub IsLowerBound : FiniteDomainTask → (List ℕ → Distance) → Type 0
IsLowerBound task h =
    (plan state : List ℕ) → IsState (ranges task) state → LeadsToGoal task state plan → h state ≤ᵈ Finite (plan_cost task plan)

-- ---- lawful families

-- two messages are equal
abbrev pub same_message : Message → Message → Bool
same_message m n =
    same_state m.state n.state && ((m.cost == n.cost) && ((m.steps == n.steps) && ((m.parent.worker == n.parent.worker)
    && ((m.parent.index == n.parent.index) && (m.parent.operator == n.parent.operator)))))

-- the number of occurrences of the message in the list
abbrev pub copies : Message → List Message → ℕ
copies m [] = 0
copies m (x ∷ xs) = (if same_message m x then 1 else 0) + copies m xs

-- the number of occurrences of the message from sender `w` in the list
abbrev pub copies_from : ℕ → Message → List Packet → ℕ
copies_from w m [] = 0
copies_from w m (p ∷ ps) = (if (w == p.sender) && same_message m p.message then 1 else 0) + copies_from w m ps

-- the ends of the owners' runs, and the messages that were handed out and not taken; numbers past the last owner have
-- owners that never took a state
pub record Family : Type 0 where
  pub logs : ℕ → Log
  pub left : List Packet

-- the least of f 0 to f (n - 1), infinite if n is 0
abbrev pub least_of : ℕ → (ℕ → Distance) → Distance
least_of zero f = Infinite
least_of (suc n) f = lesser (least_of n f) (f n)

-- each log is the end of a run; each message was handed out by a worker as often as its owner took it from that worker
-- plus as often as it is left over from that worker; each bound that was read is at least the least cost that was
-- offered
pub record IsLawful (space : SearchSpace) (family : Family) : Type 0 where
  pub runs : (w : ℕ) → IsRun space w (family.logs w)
  pub links : (w : ℕ) (m : Message)
      → copies m (family.logs w).handed
      ≡ copies_from w m (family.logs (space.owner_of m.state)).taken + copies_from w m family.left
  pub bounds : (w : ℕ) → least_of space.owners (λ v. (family.logs v).offered) ≤ᵈ (family.logs w).seen

-- ---- settled families

-- x is an element
abbrev pub In : {X : Type 0} → X → List X → Type 0
In x xs = (i : ℕ) × At xs i x

-- the bound is at most every pending f-value: of nodes not expanded, of messages in outboxes, and of messages not taken
pub record PendingAbove (space : SearchSpace) (family : Family) (bound : Distance) : Type 0 where
  pub nodes : (w i : ℕ) (n : Node) → w < space.owners → At (family.logs w).owner.nodes i n → n.expanded ≡ false
      → bound ≤ᵈ f_value space n.state n.cost
  pub outboxes : (w v i : ℕ) (m : Message) → w < space.owners → At (list_at (family.logs w).owner.outboxes v) i m
      → bound ≤ᵈ f_value space m.state m.cost
  pub left : (i : ℕ) (p : Packet) → At family.left i p → bound ≤ᵈ f_value space p.message.state p.message.cost

-- the least cost at which any owner has taken a goal state
abbrev pub best_of : SearchSpace → Family → Distance
best_of space family = least_of space.owners (λ w. (family.logs w).owner.best)

-- the bound is the least cost of a goal state that was taken, and no pending f-value is below it
pub record IsSettled (space : SearchSpace) (family : Family) (bound : Distance) : Type 0 where
  pub best : bound ≡ best_of space family
  pub pending : PendingAbove space family bound

-- ---- the closed list

abbrev pub entry_of : Node → Entry
entry_of n = record { cost = n.cost; state = n.state }

-- the expanded nodes, as entries of a closed list
abbrev pub expanded_of : List Node → List Entry
expanded_of [] = []
expanded_of (n ∷ ns) = if n.expanded then entry_of n ∷ expanded_of ns else expanded_of ns

-- the expanded nodes of the owners 0 to n - 1
abbrev pub closed_of : ℕ → (ℕ → Log) → List Entry
closed_of zero logs = []
closed_of (suc n) logs = expanded_of (logs n).owner.nodes ++ closed_of n logs

-- no state is listed twice
abbrev pub NoTwice : List Entry → Type 0
NoTwice closed = AllPairs (λ d e. d.state ≡ e.state → ⊥) closed

-- ---- the plan

-- following parents from node i of worker w ends at a node without a parent, over these operators, the last one first
abbrev pub Follows : Family → ℕ → ℕ → List ℕ → Type 0
Follows family w i [] = (n : Node) × At (family.logs w).owner.nodes i n × (n.parent ≡ None)
Follows family w i (o ∷ back) =
    (n : Node) × (p : Parent) × At (family.logs w).owner.nodes i n × (n.parent ≡ Some p) × (p.operator ≡ o)
    × Follows family p.worker p.index back

-- the first cost and number of steps are below the second: by cost, then by steps
abbrev pub IsBelow : ℕ → ℕ → ℕ → ℕ → Type 0
IsBelow cost steps cost' steps' = (cost < cost') ⊎ ((cost ≡ cost') × (steps < steps'))

-- the node that the parent names exists, and has a lesser rank
abbrev pub ParentBelow : Family → Node → Parent → Type 0
ParentBelow family n p =
    (origin : Node) × At (family.logs p.worker).owner.nodes p.index origin × IsBelow origin.cost origin.steps n.cost n.steps

-- node i of worker w has a goal state and this cost
abbrev pub IsGoalNode : SearchSpace → Family → ℕ → ℕ → ℕ → Type 0
IsGoalNode space family w i cost =
    (n : Node) × (w < space.owners) × At (family.logs w).owner.nodes i n × (is_goal_state space.task n.state ≡ true)
    × (n.cost ≡ cost)
