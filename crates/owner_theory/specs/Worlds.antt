-- Worlds of owners of states in one thread, with the messages underway delivered in any order: every run of a world is
-- a schedule of hash distributed A* (Kishimoto, Fukunaga and Botea 2013).
use Rattle.std.specs.Prelude.{◌≡◌, ℕ, zero, suc, ◌+◌, ◌<◌, ◌⊎◌, Bool, true, false, ◌&&◌, ◌||◌, ◌==◌, if◌then◌else◌, List, [], ◌∷◌, ◌++◌, Option, Some, None, length}
use Rattle.std.specs.List.{list_all}
use Rattle.cost.specs.Distances.{Distance, Infinite, is_at_most, lesser}
use Rattle.owner_theory.specs.Owners.{At, list_at, SearchSpace, Message, Node, Packet, Owner, Log, Take, Expand, HandOut, Look, Offer, f_value, may_expand, put, happens, start}
use Rattle.owner_theory.specs.Families.{Family, best_of, IsSettled}

-- the owners' logs, the messages handed out and not taken, the least cost offered, and which owners are at rest
pub record World : Type 0 where
  pub logs : ℕ → Log
  pub underway : List Packet
  pub bound : Distance
  pub resting : ℕ → Bool

-- the steps of a world: a worker expands its node at an index, sends its first message for another worker, is delivered
-- a message (by its number among those underway to it), offers its best cost, reads the bound, or rests
pub data Step : Type 0 where
  Expands : ℕ → ℕ → Step
  Sends : ℕ → ℕ → Step
  Delivers : ℕ → ℕ → Step
  Offers : ℕ → Step
  Looks : ℕ → Step
  Rests : ℕ → Step

-- ---- messages underway

-- packet k of those to v
abbrev pub nth_to : SearchSpace → ℕ → ℕ → List Packet → Option Packet
nth_to space v k [] = None
nth_to space v zero (p ∷ ps) = if space.owner_of p.message.state == v then Some p else nth_to space v zero ps
nth_to space v (suc k) (p ∷ ps) = if space.owner_of p.message.state == v then nth_to space v k ps else nth_to space v (suc k) ps

-- the packets without packet k of those to v
abbrev pub without_nth_to : SearchSpace → ℕ → ℕ → List Packet → List Packet
without_nth_to space v k [] = []
without_nth_to space v zero (p ∷ ps) = if space.owner_of p.message.state == v then ps else p ∷ without_nth_to space v zero ps
without_nth_to space v (suc k) (p ∷ ps) =
    if space.owner_of p.message.state == v then p ∷ without_nth_to space v k ps else p ∷ without_nth_to space v (suc k) ps

-- ---- idle owners

abbrev pub is_empty : {X : Type 0} → List X → Bool
is_empty [] = true
is_empty (x ∷ xs) = false

-- every node is expanded or has an f-value that reaches the bound read last
abbrev pub no_open : SearchSpace → Owner → Bool
no_open space o = list_all (λ n. n.expanded || is_at_most o.bound (f_value space n.state n.cost)) o.nodes

-- no node to expand and no message to send
abbrev pub idle : SearchSpace → Owner → Bool
idle space o = no_open space o && list_all is_empty o.outboxes

-- ---- runs

-- the world after w sends the first message of its outbox for v, given as this list
abbrev pub sent : SearchSpace → World → ℕ → ℕ → List Message → World
sent space world w v [] = world
sent space world w v (m ∷ ms) =
    record world {
      logs = put world.logs w (happens space w (world.logs w) (HandOut v));
      underway = world.underway ++ record { sender = w; message = m } ∷ [];
    }

-- the world after v is delivered packet k of those to it, if there is one; v is then not at rest
abbrev pub delivered : SearchSpace → World → ℕ → ℕ → Option Packet → World
delivered space world v k None = world
delivered space world v k (Some p) =
    record world {
      logs = put world.logs v (happens space v (world.logs v) (Take p.sender p.message));
      underway = without_nth_to space v k world.underway;
      resting = put world.resting v false;
    }

-- the world after one step; only an idle owner starts to rest
abbrev pub world_after : SearchSpace → World → Step → World
world_after space world (Expands w i) = record world { logs = put world.logs w (happens space w (world.logs w) (Expand i)) }
world_after space world (Sends w v) = sent space world w v (list_at (world.logs w).owner.outboxes v)
world_after space world (Delivers v k) = delivered space world v k (nth_to space v k world.underway)
world_after space world (Offers w) =
    record world {
      logs = put world.logs w (happens space w (world.logs w) Offer);
      bound = lesser world.bound (world.logs w).owner.best;
    }
world_after space world (Looks w) = record world { logs = put world.logs w (happens space w (world.logs w) (Look world.bound)) }
world_after space world (Rests w) =
    if idle space (world.logs w).owner then record world { resting = put world.resting w true } else world

abbrev pub world_start : SearchSpace → World
world_start space = record { logs = start space; underway = []; bound = Infinite; resting = λ w. false }

-- the world after these steps, the first one first
abbrev pub world_run : SearchSpace → World → List Step → World
world_run space world [] = world
world_run space world (s ∷ ss) = world_run space (world_after space world s) ss

-- the family of a world's owners
abbrev pub family_of : World → Family
family_of world = record { logs = world.logs; left = world.underway }

-- ---- when nothing is left

-- the number of messages in outboxes
abbrev pub waiting : List (List Message) → ℕ
waiting [] = 0
waiting (q ∷ qs) = length q + waiting qs

-- the number of messages in outboxes plus the number of owners not at rest, of the owners 0 to n - 1
abbrev pub busy : ℕ → World → ℕ
busy zero world = 0
busy (suc n) world = (waiting (world.logs n).owner.outboxes + (if world.resting n then 0 else 1)) + busy n world

-- the number of messages underway or in outboxes, plus the number of owners not at rest
abbrev pub count : SearchSpace → World → ℕ
count space world = length world.underway + busy space.owners world

-- no message is underway or in an outbox, every owner is idle, and the family is settled
pub record IsQuiet (space : SearchSpace) (world : World) : Type 0 where
  pub underway : world.underway ≡ []
  pub outboxes : (w v : ℕ) → w < space.owners → list_at (world.logs w).owner.outboxes v ≡ []
  pub idle : (w : ℕ) → w < space.owners → idle space (world.logs w).owner ≡ true
  pub settled : IsSettled space (family_of world) (best_of space (family_of world))

-- ---- requests

-- steps as they are requested; the owner that is to expand a node chooses the node
pub data Request : Type 0 where
  ToExpand : ℕ → Request
  ToSend : ℕ → ℕ → Request
  ToDeliver : ℕ → ℕ → Request
  ToOffer : ℕ → Request
  ToLook : ℕ → Request
  ToRest : ℕ → Request

-- the owner has a node at this index, which it may expand
abbrev pub MayExpandAt : SearchSpace → Owner → ℕ → Type 0
MayExpandAt space o i = (n : Node) × At o.nodes i n × (may_expand space o n ≡ true)

-- the step does what is requested; a request to expand results in the expansion of a node that may be expanded, unless
-- there is none
abbrev pub Does : SearchSpace → World → Request → Step → Type 0
Does space world (ToExpand w) s =
    (i : ℕ) × (s ≡ Expands w i) × (MayExpandAt space (world.logs w).owner i ⊎ (no_open space (world.logs w).owner ≡ true))
Does space world (ToSend w v) s = s ≡ Sends w v
Does space world (ToDeliver v k) s = s ≡ Delivers v k
Does space world (ToOffer w) s = s ≡ Offers w
Does space world (ToLook w) s = s ≡ Looks w
Does space world (ToRest w) s = s ≡ Rests w

-- each step does what is requested, in the world that results from the steps before it
abbrev pub IsRunOf : SearchSpace → World → List Request → List Step → Type 0
IsRunOf space world [] [] = Unit {0}
IsRunOf space world (x ∷ xs) (s ∷ ss) = Does space world x s × IsRunOf space (world_after space world s) xs ss
IsRunOf space world [] (s ∷ ss) = ⊥
IsRunOf space world (x ∷ xs) [] = ⊥
