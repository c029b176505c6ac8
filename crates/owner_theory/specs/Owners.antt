-- Optimal search divided among owners of states (hash distributed A*: Kishimoto, Fukunaga and Botea 2013): one owner,
-- its nodes, its outboxes, and its runs, which are lists of its own events. Worker w runs owner w.
use Rattle.std.specs.Prelude.{◌≡◌, ℕ, zero, suc, ◌+◌, Bool, true, false, ◌&&◌, ◌||◌, not, ◌==◌, nat_lt, nat_eq, if◌then◌else◌, List, [], ◌∷◌, ◌++◌, length, Option, Some, None, slice_get, slice_set, replicate, filter_map}
use Rattle.std.specs.List.{list_all, range_with_len}
use Rattle.std.specs.Option.{option_map}
use Rattle.std.specs.Cmp.Lexicographic.{pointwise}
use Rattle.cost.specs.Distances.{Distance, Finite, Infinite, is_at_most, ◌+ᵈ◌, lesser}
use Rattle.fdr.specs.Tasks.{FiniteDomainTask, ranges, step, is_goal_state, cost_of}
use Rattle.checker_clauses.specs.Clauses.{is_state}

-- ---- lists

-- x is the element at index `i`
abbrev pub At : {X : Type 0} → List X → ℕ → X → Type 0
At [] i x = ⊥
At (y ∷ ys) zero x = y ≡ x
At (y ∷ ys) (suc i) x = At ys i x

-- the list at index `v`, empty past the end
abbrev pub list_at : {X : Type 0} → List (List X) → ℕ → List X
list_at [] v = []
list_at (q ∷ qs) zero = q
list_at (q ∷ qs) (suc v) = list_at qs v

-- the function with another value at one argument
abbrev pub put : {X : Type 0} → (ℕ → X) → ℕ → X → ℕ → X
put f w x v = if v == w then x else f v

-- ---- what is searched

-- a task, a heuristic, the owner of each state, and the number of owners
pub record SearchSpace : Type 0 where
  pub task : FiniteDomainTask
  pub heuristic : List ℕ → Distance
  pub owner_of : List ℕ → ℕ
  pub owners : ℕ

-- the f-value of a state that was reached at this cost: f = g + h
abbrev pub f_value : SearchSpace → List ℕ → ℕ → Distance
f_value space state cost = Finite cost +ᵈ space.heuristic state

-- ---- what an owner has

-- the origin of a reached state: a worker, the index of one of its nodes, and the number of an operator
pub record Parent : Type 0 where
  pub worker : ℕ
  pub index : ℕ
  pub operator : ℕ

-- a reached state, with the cost, the number of operators and the parent
pub record Message : Type 0 where
  pub state : List ℕ
  pub cost : ℕ
  pub steps : ℕ
  pub parent : Parent

-- a state that is stored; it is expanded if its successors at this cost and number of steps were generated
pub record Node : Type 0 where
  pub state : List ℕ
  pub cost : ℕ
  pub steps : ℕ
  pub parent : Option Parent
  pub expanded : Bool

-- a message with the worker that handed it out (removed it from its outbox); its receiver is the owner of its state
pub record Packet : Type 0 where
  pub sender : ℕ
  pub message : Message

-- an owner: its nodes, an outbox for each owner (the oldest message first), the bound that it has read last, and the
-- least cost at which it has taken a goal state
pub record Owner : Type 0 where
  pub nodes : List Node
  pub outboxes : List (List Message)
  pub bound : Distance
  pub best : Distance

-- an owner and its history: messages taken and handed out (the last one first), the least bound read, the least cost
-- offered, and the number of expansions
pub record Log : Type 0 where
  pub owner : Owner
  pub taken : List Packet
  pub handed : List Message
  pub seen : Distance
  pub offered : Distance
  pub expansions : ℕ

-- ---- taking a message

-- two states are equal, as `==` tests it
unfoldable pub same_state : List ℕ → List ℕ → Bool
same_state xs ys = pointwise nat_eq xs ys

-- the first cost and number of steps are below the second: by cost, then by steps
abbrev pub rank_less : ℕ → ℕ → ℕ → ℕ → Bool
rank_less cost steps cost' steps' = nat_lt cost cost' || ((cost == cost') && nat_lt steps steps')

abbrev pub node_of : Message → Node
node_of m = record { state = m.state; cost = m.cost; steps = m.steps; parent = Some m.parent; expanded = false }

-- the nodes after a message is taken: each state occurs once, with the least rank at which it was taken
abbrev pub improve : List Node → Message → List Node
improve [] m = node_of m ∷ []
improve (n ∷ ns) m =
    if same_state n.state m.state
    then (if rank_less m.cost m.steps n.cost n.steps then node_of m ∷ ns else n ∷ ns)
    else n ∷ improve ns m

-- the owner after it takes a message
abbrev pub took : SearchSpace → Owner → Message → Owner
took space o m =
    record {
      nodes = improve o.nodes m;
      outboxes = o.outboxes;
      bound = o.bound;
      best = if is_goal_state space.task m.state then lesser o.best (Finite m.cost) else o.best;
    }

-- the owner after it appends a message to the outbox for the owner of the message's state
abbrev pub posted : SearchSpace → Owner → Message → Owner
posted space o m =
    record {
      nodes = o.nodes;
      outboxes = slice_set o.outboxes (space.owner_of m.state) (list_at o.outboxes (space.owner_of m.state) ++ m ∷ []);
      bound = o.bound;
      best = o.best;
    }

-- ---- expanding a node

-- a successor is dropped if its f-value reaches the bound; otherwise this owner takes it if the state is its own, or
-- puts it into an outbox
abbrev pub treat : SearchSpace → ℕ → Owner → Message → Owner
treat space me o m =
    if is_at_most o.bound (f_value space m.state m.cost)
    then o
    else (if space.owner_of m.state == me then took space o m else posted space o m)

abbrev pub treat_all : SearchSpace → ℕ → Owner → List Message → Owner
treat_all space me o [] = o
treat_all space me o (m ∷ ms) = treat_all space me (treat space me o m) ms

-- the message for the state that an operator reaches from a node of this worker
abbrev pub message_to : FiniteDomainTask → ℕ → ℕ → Node → ℕ → List ℕ → Message
message_to task me index n o state =
    record {
      state = state;
      cost = n.cost + cost_of task o;
      steps = suc n.steps;
      parent = record { worker = me; index = index; operator = o };
    }

-- the node's successor by an operator, if the operator applies
abbrev pub successor_by : FiniteDomainTask → ℕ → ℕ → Node → ℕ → Option Message
successor_by task me index n o = option_map (message_to task me index n o) (step task n.state o)

-- the node's successors by all operators, in the order of their numbers
abbrev pub successors : FiniteDomainTask → ℕ → ℕ → Node → List Message
successors task me index n = filter_map (successor_by task me index n) (range_with_len 0 (length task.operators))

abbrev pub marked : Node → Node
marked n = record { state = n.state; cost = n.cost; steps = n.steps; parent = n.parent; expanded = true }

abbrev pub mark_node : Owner → ℕ → Node → Owner
mark_node o index n = record { nodes = slice_set o.nodes index (marked n); outboxes = o.outboxes; bound = o.bound; best = o.best }

-- whether a node is not expanded, has an f-value below the bound, and has the least f-value of the nodes not expanded
unfoldable pub may_expand : SearchSpace → Owner → Node → Bool
may_expand space o n =
    not n.expanded && (not (is_at_most o.bound (f_value space n.state n.cost))
    && list_all (λ x. x.expanded || is_at_most (f_value space n.state n.cost) (f_value space x.state x.cost)) o.nodes)

-- the owner after the node at index `index` is expanded, if there is one and it may be expanded
abbrev pub expanded_at : SearchSpace → ℕ → Owner → ℕ → Option Node → Owner
expanded_at space me o index None = o
expanded_at space me o index (Some n) =
    if may_expand space o n
    then treat_all space me (mark_node o index n) (successors space.task me index n)
    else o

-- the number of nodes that are expanded at an index with this node: one if it may be expanded, else none
abbrev pub count_at : SearchSpace → Owner → Option Node → ℕ
count_at space o None = 0
count_at space o (Some n) = if may_expand space o n then 1 else 0

-- ---- runs

-- whether this owner may take a message: its state is a state of the task, and belongs to this owner
abbrev pub fits : SearchSpace → ℕ → Message → Bool
fits space me m = is_state (ranges space.task) m.state && (space.owner_of m.state == me)

-- the events of an owner: take a message that a worker handed out, expand the node at an index, hand out the first
-- message for a worker, read a bound, or offer its best cost
pub data Event : Type 0 where
  Take : ℕ → Message → Event
  Expand : ℕ → Event
  HandOut : ℕ → Event
  Look : Distance → Event
  Offer : Event

-- the log after the first message of the outbox for v, given as this list, is handed out
abbrev pub handed_out : ℕ → Log → List Message → Log
handed_out v l [] = l
handed_out v l (m ∷ ms) =
    record l {
      owner =
          record {
            nodes = l.owner.nodes;
            outboxes = slice_set l.owner.outboxes v ms;
            bound = l.owner.bound;
            best = l.owner.best;
          };
      handed = m ∷ l.handed;
    }

-- the log after one event; nothing changes if the event's condition fails
abbrev pub happens : SearchSpace → ℕ → Log → Event → Log
happens space me l (Take sender m) =
    if fits space me m
    then record l { owner = took space l.owner m; taken = record { sender = sender; message = m } ∷ l.taken }
    else l
happens space me l (Expand i) =
    record l {
      owner = expanded_at space me l.owner i (slice_get l.owner.nodes i);
      expansions = l.expansions + count_at space l.owner (slice_get l.owner.nodes i);
    }
happens space me l (HandOut v) = handed_out v l (list_at l.owner.outboxes v)
happens space me l (Look b) =
    record l {
      owner = record { nodes = l.owner.nodes; outboxes = l.owner.outboxes; bound = b; best = l.owner.best };
      seen = lesser l.seen b;
    }
happens space me l Offer = record l { offered = lesser l.offered l.owner.best }

abbrev pub first_node : SearchSpace → Node
first_node space = record { state = space.task.initial; cost = 0; steps = 0; parent = None; expanded = false }

-- an owner at the start; the owner of the initial state starts with that state, which counts as taken in `best`
abbrev pub start_owner : SearchSpace → Bool → Owner
start_owner space true =
    record {
      nodes = first_node space ∷ [];
      outboxes = replicate space.owners [];
      bound = Infinite;
      best = if is_goal_state space.task space.task.initial then Finite 0 else Infinite;
    }
start_owner space false = record { nodes = []; outboxes = replicate space.owners []; bound = Infinite; best = Infinite }

abbrev pub start : SearchSpace → ℕ → Log
start space me =
    record {
      owner = start_owner space (space.owner_of space.task.initial == me);
      taken = [];
      handed = [];
      seen = Infinite;
      offered = Infinite;
      expansions = 0;
    }

-- the log of an owner after these events, which are listed with the last one first
abbrev pub run : SearchSpace → ℕ → List Event → Log
run space me [] = start space me
run space me (e ∷ es) = happens space me (run space me es) e

-- a run of this owner ends in this log
abbrev pub IsRun : SearchSpace → ℕ → Log → Type 0
IsRun space me l = (es : List Event) × (run space me es ≡ l)
