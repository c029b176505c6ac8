-- The value of a worker, and its invariant: a run of its owner, what went over its links, what it has seen and offered.
use Rattle.std.specs.Prelude.{◌≡◌, ℕ, Bool, false, List, [], ◌∷◌, map, length, slice_get, Option, Some, None}
use Rattle.std.specs.List.{sum_by}
use Rattle.fdr.specs.Tasks.{ranges}
use Rattle.cost.specs.Distances.{Distance, Infinite}
use Rattle.owner_theory.specs.Owners.{Log, Message, Packet, list_at}
use Rattle.owner_theory.specs.Threads.{IsWorker}
use Rattle.closed.specs.Tables.{message_of}
use Rattle.owner.specs.Spaces.{SpaceOf}
use Rattle.owner.specs.Owned.{OwnerOf, IsLogOf, space_of}
use Rattle.extract.specs.Views.{packet_of}
use Rattle.extract.specs.declared.packet.Packet.{Packet as PacketOf}
use Rattle.links.specs.declared.ends.Out.{Out}
use Rattle.links.specs.declared.ends.In.{In}
use Rattle.links.specs.Ends.{sent, received, known, SameOut, SameIn}

-- the owner; the ends of its links, by the other worker; the bound read last, the least bound read, and the least cost
-- offered; messages that were taken from a link and do not fit this owner; whether the worker is not counted among the
-- units, because it had nothing to do; the number of messages in its outboxes that are not yet added to the units; and
-- the number of messages that it has taken and not yet subtracted from them
pub record WorkerOf (S F : Type 0) : Type 0 where
  pub owner : OwnerOf S
  pub outs : List (Out F)
  pub ins : List (In F)
  pub bound : Distance
  pub seen : Distance
  pub offered : Distance
  pub misfits : List Packet
  pub resting : Bool
  pub uncounted : ℕ
  pub taken : ℕ

-- the values of a form of a state, if `values` returns these from the ranges of the task's variables
abbrev pub values_in : {S F : Type 0} → (List ℕ → F → List ℕ) → WorkerOf S F → F → List ℕ
values_in values w = values (ranges w.owner.space.task)

abbrev pub misfits_of : {F : Type 0} → (F → List ℕ) → Option (PacketOf F) → List Packet
misfits_of values None = []
misfits_of values (Some p) = packet_of values p ∷ []

-- what was sent to each worker, and what was received from each, with `values` as the values of a form of a state
abbrev pub sent_to : {F : Type 0} → (F → List ℕ) → List (Out F) → ℕ → List Message
sent_to values outs v = list_at (map (λ o. map (message_of values) (sent o)) outs) v

abbrev pub received_from : {F : Type 0} → (F → List ℕ) → List (In F) → ℕ → List Message
received_from values ins u = list_at (map (λ i. map (message_of values) (received i)) ins) u

-- the messages that are known to be left to take from worker `u`
abbrev pub known_from : {F : Type 0} → (F → List ℕ) → List (In F) → ℕ → List Message
known_from values ins u = list_at (map (λ i. map (message_of values) (known i)) ins) u

-- the number of messages that are known to be left to take from all workers
abbrev pub known_in : {F : Type 0} → List (In F) → ℕ
known_in ins = sum_by (λ i. length (known i)) ins

-- the log records a run of the owner, what went over the links and what was seen and offered
pub record IsWorking {S F : Type 0} (owner : S → List ℕ → ℕ → ℕ) (values : List ℕ → F → List ℕ) (w : WorkerOf S F) (log : Log) : Type 0 where
  pub works : IsWorker (space_of owner w.owner) w.owner.worker log (sent_to (values_in values w) w.outs) (received_from (values_in values w) w.ins) [] w.misfits
  pub log_is : IsLogOf log w.owner w.bound
  pub seen_is : log.seen ≡ w.seen
  pub offered_is : log.offered ≡ w.offered

-- there is a link to each worker and from each, and there is such a log
pub record IsKept {S F : Type 0} (owner : S → List ℕ → ℕ → ℕ) (values : List ℕ → F → List ℕ) (w : WorkerOf S F) : Type 0 where
  pub outs : length w.outs ≡ length w.owner.outboxes
  pub ins : length w.ins ≡ length w.owner.outboxes
  pub working : ∥ ((log : Log) × IsWorking owner values w log) ∥₁

-- the same ends, one by one
pub record AreSameOuts {F : Type 0} (old new : List (Out F)) : Type 0 where
  pub len : length new ≡ length old
  pub each : (v : ℕ) (o p : Out F) → slice_get old v ≡ Some o → slice_get new v ≡ Some p → SameOut o p

pub record AreSameIns {F : Type 0} (old new : List (In F)) : Type 0 where
  pub len : length new ≡ length old
  pub each : (v : ℕ) (i j : In F) → slice_get old v ≡ Some i → slice_get new v ≡ Some j → SameIn i j

-- worker `v` of `workers`, at the start
pub record IsFirstWorker {S F : Type 0} (searched_space : SpaceOf S) (v workers : ℕ) (senders : List (Out F)) (receivers : List (In F)) (w : WorkerOf S F) : Type 0 where
  pub space : w.owner.space ≡ searched_space
  pub number : w.owner.worker ≡ v
  pub owners : length w.owner.outboxes ≡ workers
  pub outs : w.outs ≡ senders
  pub ins : w.ins ≡ receivers
  pub bound : w.bound ≡ Infinite
  pub seen : w.seen ≡ Infinite
  pub offered : w.offered ≡ Infinite
  pub misfits : w.misfits ≡ []
  pub resting : w.resting ≡ false
  pub uncounted : w.uncounted ≡ 0
  pub taken : w.taken ≡ 0
