-- Owners of states in one thread as they are stored, with the messages underway delivered in any order (hash
-- distributed A*: Kishimoto, Fukunaga and Botea 2013).
use Rattle.std.specs.Prelude.{◌≡◌, ℕ, ◌≤◌, ◌⊎◌, ◌==◌, Bool, true, false, not, ◌&&◌, nat_lt, List, [], length, map, filter, flat_map, ◌∷◌, ◌++◌, slice_get}
use Rattle.std.specs.Option.{option_map_or}
use Rattle.cost.specs.Distances.{Distance, Infinite, is_at_most, is_below}
use Rattle.owner_theory.specs.Owners as owners
use Rattle.owner_theory.specs.Owners.{At, list_at, SearchSpace, Packet}
use Rattle.owner_theory.specs.Worlds as machine
use Rattle.owner_theory.specs.Worlds.{no_open, idle, is_empty, Request, ToExpand, ToSend, ToDeliver, ToOffer, ToLook, ToRest, Step, Does, IsRunOf, world_start, world_run, world_after}
use Rattle.owner.specs.Spaces.{SpaceOf, searched}
use Rattle.owner.specs.Owned.{OwnerOf, IsLogOf, under, IsRefusal}
use Rattle.owner.specs.declared.fault.OwnerFault.{OwnerFault}
use Rattle.owner.specs.declared.fault.OwnerFault.TheVariants.{OutOfMemory, TotalTooLarge, LimitReached}
use Rattle.netcore.specs.declared.step.WorldStep.{WorldStep}
use Rattle.netcore.specs.declared.step.WorldStep.TheVariants.{Expand, Send, Deliver, Offer, Look, Rest}

-- the space, the owners, the messages underway to each of them (the oldest first), the bound that each has read last,
-- the least cost that was offered, which owners are at rest, and whether a list of steps was ended by an owner's limit
pub record WorldOf (S : Type 0) : Type 0 where
  pub space : SpaceOf S
  pub owners : List (OwnerOf S)
  pub underway : List (List Packet)
  pub seen : List Distance
  pub bound : Distance
  pub resting : List Bool
  pub limited : Bool

-- a queue, a bound and a flag for each owner
pub record IsFilled {S : Type 0} (w : WorldOf S) : Type 0 where
  pub queues : length w.underway ≡ length w.owners
  pub bounds : length w.seen ≡ length w.owners
  pub flags : length w.resting ≡ length w.owners

-- the search space of the world's owners
abbrev pub space_in : {S : Type 0} → (S → List ℕ → ℕ → ℕ) → WorldOf S → SearchSpace
space_in owner w = searched owner w.space (length w.owners)

-- the messages to one owner, in their order
abbrev pub packets_to : SearchSpace → ℕ → List Packet → List Packet
packets_to space v packets = filter (λ p. space.owner_of p.message.state == v) packets

-- an owner without nodes and messages, which has taken no goal state
pub record IsVoid (o : owners.Owner) : Type 0 where
  pub nodes : o.nodes ≡ []
  pub outboxes : (u : ℕ) → list_at o.outboxes u ≡ []
  pub best : o.best ≡ Infinite

-- the stored world represents this one; past its last owner, the latter has owners that are void
pub record Shows {S : Type 0} (owner : S → List ℕ → ℕ → ℕ) (w : WorldOf S) (world : machine.World) : Type 0 where
  pub owners : (v : ℕ) (o : OwnerOf S) (b : Distance) → At w.owners v o → At w.seen v b → IsLogOf (world.logs v) o b
  pub underway : (v : ℕ) (ps : List Packet) → At w.underway v ps → packets_to (space_in owner w) v world.underway ≡ ps
  pub bound : world.bound ≡ w.bound
  pub resting : (v : ℕ) (r : Bool) → At w.resting v r → world.resting v ≡ r
  pub others : (v : ℕ) → length w.owners ≤ v → IsVoid (world.logs v).owner

-- the messages underway, queue by queue
abbrev pub left_in : {S : Type 0} → WorldOf S → List Packet
left_in w = flat_map (λ ps. ps) w.underway

-- the world of the definition after these steps, from the start
abbrev pub world_after_run : SearchSpace → List Step → machine.World
world_after_run space steps = world_run space (world_start space) steps

-- the request for a step
abbrev pub request_of : WorldStep → Request
request_of (Expand w) = ToExpand w
request_of (Send w v) = ToSend w v
request_of (Deliver v k) = ToDeliver v k
request_of (Offer w) = ToOffer w
request_of (Look w) = ToLook w
request_of (Rest w) = ToRest w

-- a step that does what is requested changes the world that the old one represents into the world that the new one
-- represents
pub record Steps {S : Type 0} (owner : S → List ℕ → ℕ → ℕ) (old : WorldOf S) (world : machine.World) (asked : WorldStep) (new : WorldOf S)
    : Type 0 where
  pub step : Step
  pub does : Does (space_in owner old) world (request_of asked) step
  pub shown : Shows owner new (world_after (space_in owner old) world step)

-- the stored world represents the one after a run from the start that does what is requested
pub record IsAfter {S : Type 0} (owner : S → List ℕ → ℕ → ℕ) (space : SearchSpace) (asked : List WorldStep) (w : WorldOf S) : Type 0 where
  pub steps : List Step
  pub run : IsRunOf space (world_start space) (map request_of asked) steps
  pub shown : Shows owner w (world_after_run space steps)

-- whether this holds of owner number `v` and the bound that it has read last; false if there is no such owner
abbrev pub at_owner : {S : Type 0} → WorldOf S → ℕ → (OwnerOf S → Distance → Bool) → Bool
at_owner w v holds = option_map_or (λ o. option_map_or (holds o) (slice_get w.seen v) false) (slice_get w.owners v) false

-- two distances differ
abbrev pub differ : Distance → Distance → Bool
differ x y = not (is_at_most x y && is_at_most y x)

-- whether the step would change something: there is a node to expand below the bound read last, whatever the limit; a
-- message to send; a message of that number underway; a cost below the least offered; a bound not yet read; or an idle
-- owner not at rest
abbrev pub would_change : {S : Type 0} → (S → List ℕ → ℕ → ℕ) → WorldOf S → WorldStep → Bool
would_change owner w (Expand v) = at_owner w v (λ o b. not (no_open (space_in owner w) (under o b)))
would_change owner w (Send v to) = at_owner w v (λ o b. not (is_empty (list_at o.outboxes to)))
would_change owner w (Deliver v k) = nat_lt k (length (list_at w.underway v))
would_change owner w (Offer v) = at_owner w v (λ o b. is_below o.best w.bound)
would_change owner w (Look v) = at_owner w v (λ o b. differ b w.bound)
would_change owner w (Rest v) =
    at_owner w v (λ o b. option_map_or not (slice_get w.resting v) false && idle (space_in owner w) (under o b))

-- a step is refused as the owner that is to expand its next node, by the limit and the columns of the world's space,
-- refuses it, or because an allocation failed; the world is unchanged
abbrev pub IsStepRefusal : {S : Type 0} → (S → List ℕ → ℕ → ℕ) → WorldOf S → WorldOf S → WorldStep → OwnerFault → Type 0
IsStepRefusal {S = S} owner old new asked OutOfMemory = (would_change owner old asked ≡ true) × (new ≡ old)
IsStepRefusal {S = S} owner old new asked e =
    (v : ℕ) × (o : OwnerOf S) × (b : Distance) × (asked ≡ Expand v) × At old.owners v o × At old.seen v b
    × (o.space ≡ old.space) × IsRefusal owner b o o e × (new ≡ old)

-- a world of n owners of this space, after these steps
pub record IsWorldAfter {S : Type 0} (owner : S → List ℕ → ℕ → ℕ) (over : SpaceOf S) (n : ℕ) (asked : List WorldStep) (w : WorldOf S) : Type 0 where
  pub after : IsAfter owner (searched owner over n) asked w
  pub space : w.space ≡ over
  pub owners : length w.owners ≡ n

-- one of these steps is refused, in the world `w` after those before it
pub record IsRefusedStep {S : Type 0} (owner : S → List ℕ → ℕ → ℕ) (over : SpaceOf S) (n : ℕ) (asked : List WorldStep) (w : WorldOf S) (e : OwnerFault)
    : Type 0 where
  pub before : List WorldStep
  pub step : WorldStep
  pub rest : List WorldStep
  pub are : asked ≡ before ++ step ∷ rest
  pub world : IsWorldAfter owner over n before w
  pub refused : IsStepRefusal owner w w step e

-- the world after these steps; or a limited one, in which one of them asks an owner for more nodes than its limit
-- allows: that step changes nothing, and no later step is done
abbrev pub IsRun : {S : Type 0} → (S → List ℕ → ℕ → ℕ) → SpaceOf S → ℕ → List WorldStep → WorldOf S → Type 0
IsRun owner over n asked w =
    IsFilled w
    × ((IsWorldAfter owner over n asked w × (w.limited ≡ false)) ⊎ (IsRefusedStep owner over n asked w LimitReached × (w.limited ≡ true)))

-- a step is refused for another reason than the limit
abbrev pub IsRunRefusal : {S : Type 0} → (S → List ℕ → ℕ → ℕ) → SpaceOf S → ℕ → List WorldStep → OwnerFault → Type 0
IsRunRefusal owner over n asked OutOfMemory = Unit {0}
IsRunRefusal owner over n asked LimitReached = ⊥
IsRunRefusal {S = S} owner over n asked TotalTooLarge = (w : WorldOf S) × IsRefusedStep owner over n asked w TotalTooLarge
