-- The effects of single steps and of a turn of a worker: a pass of the loop of hash distributed A* (Kishimoto, Fukunaga
-- and Botea 2013).
use Rattle.std.specs.Prelude.{◌≡◌, ◌≢◌, ℕ, zero, suc, ◌+◌, ◌<◌, ◌≤◌, ◌⊎◌, Bool, true, false, ◌&&◌, ◌||◌, not, ◌==◌, nat_le, List, [], ◌∷◌, ◌++◌, length, slice_get, slice_set, Option, Some, None, pos, ◌+ℤ◌, ◌-ℤ◌}
use Rattle.std.specs.List.{list_any}
use Rattle.cost.specs.Distances.{Distance, ◌≤ᵈ◌, is_below, lesser}
use Rattle.owner_theory.specs.Owners.{Message, list_at, put, took, fits}
use Rattle.owner_theory.specs.Worlds.{waiting, idle}
use Rattle.board.specs.declared.views.View.{View}
use Rattle.board.specs.Rule.{with_seen, with_offered, with_share}
use Rattle.links.specs.declared.ends.Out.{Out}
use Rattle.links.specs.declared.ends.In.{In}
use Rattle.links.specs.Ends.{room, known}
use Rattle.owner.specs.declared.fault.OwnerFault.{OwnerFault}
use Rattle.owner.specs.declared.fault.OwnerFault.TheVariants.{OutOfMemory, TotalTooLarge, LimitReached}
use Rattle.owner.specs.Owned.{space_of, under, IsExpansion, IsRefusal, least_open}
use Rattle.worker.specs.declared.outcome.Received.{Received}
use Rattle.worker.specs.declared.outcome.Received.TheVariants.{Taken, Nothing, SetAside}
use Rattle.worker.specs.declared.outcome.Turn.{Turn}
use Rattle.worker.specs.declared.outcome.Turn.TheVariants.{Next, Last, Misfit}
use Rattle.worker.specs.Workers.{WorkerOf, values_in, sent_to, received_from, known_from, AreSameOuts, AreSameIns}

-- `R 0`, `R 1`, .. `R (n - 1)` in this order, each from the result of the last one
abbrev pub chained : {W : Type 0} → (ℕ → W → W → Type 0) → ℕ → W → W → Type 0
chained R zero a b = b ≡ a
chained {W} R (suc k) a b = (m : W) × chained R k a m × R k m b

-- ---- single steps

-- the bound is read, and the seat has seen it; it is at most what the seat had seen and offered
pub record HasLooked {S F : Type 0} (old new : WorkerOf S F) (before after : View) : Type 0 where
  pub view : after ≡ with_seen before new.bound
  pub falls : (new.bound ≤ᵈ before.seen) × (new.bound ≤ᵈ before.offered)
  pub worker : new ≡ record old { bound = new.bound; seen = lesser old.seen new.bound }

-- the least cost at which the owner has taken a goal state is offered
pub record HasOffered {S F : Type 0} (old new : WorkerOf S F) (before after : View) : Type 0 where
  pub view : after ≡ with_offered before (lesser before.offered old.owner.best)
  pub worker : new ≡ record old { offered = lesser old.offered old.owner.best }

abbrev pub posted_by : Option ℕ → ℕ
posted_by None = 0
posted_by (Some posted) = posted

-- the next node below the bound read last is expanded, and the messages are yet to be added to the units; or there is
-- none
pub record HasExpanded {S F : Type 0} (owner : S → List ℕ → ℕ → ℕ) (old new : WorkerOf S F) (posted : Option ℕ) : Type 0 where
  pub expansion : IsExpansion owner old.bound old.owner new.owner posted
  pub worker : new ≡ record old { owner = new.owner; uncounted = old.uncounted + posted_by posted }

-- the reason why no node is expanded; the worker is unchanged
abbrev pub IsExpandRefusal : {S F : Type 0} → (S → List ℕ → ℕ → ℕ) → WorkerOf S F → WorkerOf S F → OwnerFault → Type 0
IsExpandRefusal owner old new fault = IsRefusal owner old.bound old.owner new.owner fault × (new ≡ old)

-- ---- flow control

-- the number of messages that wait for one link, and for all links together, from which on a worker expands nothing
abbrev pub link_congestion : ℕ
link_congestion = 32

abbrev pub congestion : ℕ
congestion = 1024

-- that many messages wait for some link
abbrev pub has_congested_link : List (List Message) → Bool
has_congested_link outboxes = list_any (λ box. nat_le link_congestion (length box)) outboxes

-- that many messages wait for some link, or for all links together
abbrev pub is_congested : List (List Message) → Bool
is_congested outboxes = has_congested_link outboxes || nat_le congestion (waiting outboxes)

-- the expansion of a turn: none if the outboxes are congested, and the worker is unchanged; otherwise that of the next
-- node, if there is one
abbrev pub ExpandsUnless : {S F : Type 0} → (S → List ℕ → ℕ → ℕ) → WorkerOf S F → WorkerOf S F → Option ℕ → Bool → Type 0
ExpandsUnless owner old new posted true = (new ≡ old) × (posted ≡ None)
ExpandsUnless owner old new posted false = HasExpanded owner old new posted

-- the outboxes are not congested, and the least f-value of an open node is below the bound read last
abbrev pub is_to_expand : {S F : Type 0} → (S → List ℕ → ℕ → ℕ) → WorkerOf S F → Bool
is_to_expand owner w = not (is_congested w.owner.outboxes) && is_below (least_open (space_of owner w.owner) w.owner.nodes) w.bound

-- ---- counting, sending and receiving

-- the messages in outboxes that are not yet added to the units are added
pub record HasAdded {S F : Type 0} (old new : WorkerOf S F) (before after : View) : Type 0 where
  pub view : after ≡ with_share before (before.share +ℤ pos old.uncounted)
  pub worker : new ≡ record old { uncounted = 0 }

-- the oldest message for worker `to` is sent
pub record HasSent {S F : Type 0} (values : List ℕ → F → List ℕ) (to : ℕ) (old new : WorkerOf S F) : Type 0 where
  pub message : Message
  pub outbox : list_at old.owner.outboxes to ≡ message ∷ list_at new.owner.outboxes to
  pub link : (v : ℕ) → sent_to (values_in values old) new.outs v ≡ put (sent_to (values_in values old) old.outs) to (sent_to (values_in values old) old.outs to ++ message ∷ []) v
  pub ends : AreSameOuts old.outs new.outs
  pub worker : new ≡ record old {
    owner = record old.owner { outboxes = slice_set old.owner.outboxes to (list_at new.owner.outboxes to) };
    outs = new.outs;
  }

-- nothing is sent to worker `to`: there is no message for it, or the link was not known to have room
pub record HasNotSent {S F : Type 0} (values : List ℕ → F → List ℕ) (to : ℕ) (old new : WorkerOf S F) : Type 0 where
  pub why : (o : Out F) → slice_get old.outs to ≡ Some o → 0 < room o → list_at old.owner.outboxes to ≡ []
  pub link : (v : ℕ) → sent_to (values_in values old) new.outs v ≡ sent_to (values_in values old) old.outs v
  pub ends : AreSameOuts old.outs new.outs
  pub worker : new ≡ record old { outs = new.outs }

abbrev pub SendsOrNot : {S F : Type 0} → (List ℕ → F → List ℕ) → ℕ → WorkerOf S F → WorkerOf S F → Bool → Type 0
SendsOrNot values to old new true = HasSent values to old new
SendsOrNot values to old new false = HasNotSent values to old new

-- the oldest message from worker `from` was taken from the link, and of those that were known to be in its ring no
-- other
pub record HasPopped {S F : Type 0} (values : List ℕ → F → List ℕ) (from : ℕ) (message : Message) (old new : WorkerOf S F) : Type 0 where
  pub link : (u : ℕ) → received_from (values_in values old) new.ins u ≡ put (received_from (values_in values old) old.ins) from (received_from (values_in values old) old.ins from ++ message ∷ []) u
  pub fewer : length (known_from (values_in values old) old.ins from) ≤ suc (length (known_from (values_in values old) new.ins from))
  pub ends : AreSameIns old.ins new.ins

-- the oldest message from worker `from` is taken by the owner, and is yet to be subtracted from the units
pub record HasTaken {S F : Type 0} (owner : S → List ℕ → ℕ → ℕ) (values : List ℕ → F → List ℕ) (from : ℕ) (old new : WorkerOf S F) : Type 0 where
  pub message : Message
  pub popped : HasPopped values from message old new
  pub took : (bound : Distance) → under new.owner bound ≡ took (space_of owner old.owner) (under old.owner bound) message
  pub others : new.owner ≡ record old.owner { nodes = new.owner.nodes; ever = new.owner.ever; best = new.owner.best }
  pub worker : new ≡ record old { owner = new.owner; ins = new.ins; taken = suc old.taken }

-- the link was not known to hold a message, and nothing is taken
pub record HasNothingTaken {S F : Type 0} (values : List ℕ → F → List ℕ) (from : ℕ) (old new : WorkerOf S F) : Type 0 where
  pub why : (i : In F) → slice_get old.ins from ≡ Some i → known i ≡ []
  pub link : (u : ℕ) → received_from (values_in values old) new.ins u ≡ received_from (values_in values old) old.ins u
  pub ends : AreSameIns old.ins new.ins
  pub worker : new ≡ record old { ins = new.ins }

-- the oldest message from worker `from` does not fit this owner and is set aside
pub record HasSetAside {S F : Type 0} (owner : S → List ℕ → ℕ → ℕ) (values : List ℕ → F → List ℕ) (from : ℕ) (old new : WorkerOf S F) : Type 0 where
  pub message : Message
  pub popped : HasPopped values from message old new
  pub unfit : fits (space_of owner old.owner) old.owner.worker message ≡ false
  pub worker : new ≡ record old { ins = new.ins; misfits = record { sender = from; message = message } ∷ [] }

-- the owner could not take the oldest message from worker `from`, and the worker holds it: the message is known to be
-- left to take
pub record HasHeld {S F : Type 0} (values : List ℕ → F → List ℕ) (from : ℕ) (old new : WorkerOf S F) : Type 0 where
  pub link : (u : ℕ) → received_from (values_in values old) new.ins u ≡ received_from (values_in values old) old.ins u
  pub known_is : known_from (values_in values old) new.ins from ≢ []
  pub ends : AreSameIns old.ins new.ins
  pub worker : new ≡ record old { ins = new.ins }

-- the result of receiving from worker `from`
abbrev pub HasReceived : {S F : Type 0} → (S → List ℕ → ℕ → ℕ) → (List ℕ → F → List ℕ) → ℕ → WorkerOf S F → WorkerOf S F → Received → Type 0
HasReceived owner values from old new Taken = HasTaken owner values from old new
HasReceived owner values from old new Nothing = HasNothingTaken values from old new
HasReceived owner values from old new SetAside = HasSetAside owner values from old new

-- ---- a turn

-- at most one message is taken from the link
abbrev pub ReceivesFrom : {S F : Type 0} → (S → List ℕ → ℕ → ℕ) → (List ℕ → F → List ℕ) → ℕ → WorkerOf S F → WorkerOf S F → Type 0
ReceivesFrom owner values from old new = HasTaken owner values from old new ⊎ HasNothingTaken values from old new

-- at most one message is sent over the link
abbrev pub SendsTo : {S F : Type 0} → (List ℕ → F → List ℕ) → ℕ → WorkerOf S F → WorkerOf S F → Type 0
SendsTo values to old new = HasSent values to old new ⊎ HasNotSent values to old new

-- the worker was resting and has taken a message, so it counts among the units again
abbrev pub wakes : {S F : Type 0} → WorkerOf S F → Bool
wakes w = w.resting && not (w.taken == 0)

-- the worker comes to rest: it counts among the units, has nothing to expand below its bound and no message in its
-- outboxes
abbrev pub comes_to_rest : {S F : Type 0} → (S → List ℕ → ℕ → ℕ) → WorkerOf S F → Bool
comes_to_rest owner w = (not w.resting || wakes w) && idle (space_of owner w.owner) (under w.owner w.bound)

abbrev pub one_if : Bool → ℕ
one_if true = 1
one_if false = 0

-- the messages that were taken are subtracted from the units, and the worker counts among them exactly if it is not at
-- rest
pub record HasCounted {S F : Type 0} (owner : S → List ℕ → ℕ → ℕ) (old new : WorkerOf S F) (before after : View) : Type 0 where
  pub view : after ≡ with_share before
      (((before.share +ℤ pos (one_if (wakes old))) -ℤ pos old.taken) -ℤ pos (one_if (comes_to_rest owner old)))
  pub worker : new ≡ record old { taken = 0; resting = (old.resting && not (wakes old)) || comes_to_rest owner old }

-- one turn, in this order: at most one message is taken from each link, the bound is read, at most one node is
-- expanded, and none if the outboxes are congested, its messages are added to the units, the best goal is offered, at
-- most one message is sent over each link, and the messages taken and the worker's own unit are counted
pub record HasTurned {S F : Type 0} (owner : S → List ℕ → ℕ → ℕ) (values : List ℕ → F → List ℕ) (old new : WorkerOf S F) (before after : View) : Type 0 where
  pub received : WorkerOf S F
  pub receives : chained (ReceivesFrom owner values) (length old.ins) old received
  pub looked : WorkerOf S F
  pub view_looked : View
  pub looks : HasLooked received looked before view_looked
  pub expanded : WorkerOf S F
  pub posted : Option ℕ
  pub expands : ExpandsUnless owner looked expanded posted (is_congested looked.owner.outboxes)
  pub added : WorkerOf S F
  pub view_added : View
  pub adds : HasAdded expanded added view_looked view_added
  pub offered : WorkerOf S F
  pub view_offered : View
  pub offers : HasOffered added offered view_added view_offered
  pub sent : WorkerOf S F
  pub sends : chained (SendsTo values) (length offered.outs) offered sent
  pub counts : HasCounted owner sent new view_offered after

-- a turn that ends with a message that does not fit: the links before it were received from, and nothing else is done
pub record HasStopped {S F : Type 0} (owner : S → List ℕ → ℕ → ℕ) (values : List ℕ → F → List ℕ) (old new : WorkerOf S F) : Type 0 where
  pub from : ℕ
  pub within : from < length old.ins
  pub received : WorkerOf S F
  pub receives : chained (ReceivesFrom owner values) from old received
  pub aside : HasSetAside owner values from received new

-- a turn that ends with a message that the owner could not take: the links before it were received from, and nothing
-- else is done
pub record HasHeldBack {S F : Type 0} (owner : S → List ℕ → ℕ → ℕ) (values : List ℕ → F → List ℕ) (old new : WorkerOf S F) : Type 0 where
  pub from : ℕ
  pub within : from < length old.ins
  pub received : WorkerOf S F
  pub receives : chained (ReceivesFrom owner values) from old received
  pub held : HasHeld values from received new

-- the result of receiving from each link: no message was set aside, or one was, and nothing was received from the links
-- after it
abbrev pub HasReceivedEach : {S F : Type 0} → (S → List ℕ → ℕ → ℕ) → (List ℕ → F → List ℕ) → WorkerOf S F → WorkerOf S F → Bool → Type 0
HasReceivedEach owner values old new true = chained (ReceivesFrom owner values) (length old.ins) old new
HasReceivedEach owner values old new false = HasStopped owner values old new

-- a turn in which the owner refused to expand: the outboxes were not congested, and nothing was done after the bound
-- was read
pub record HasRefused {S F : Type 0} (owner : S → List ℕ → ℕ → ℕ) (values : List ℕ → F → List ℕ) (fault : OwnerFault) (old new : WorkerOf S F) (before after : View) : Type 0 where
  pub received : WorkerOf S F
  pub receives : chained (ReceivesFrom owner values) (length old.ins) old received
  pub looks : HasLooked received new before after
  pub uncongested : is_congested new.owner.outboxes ≡ false
  pub refusal : IsRefusal owner new.bound new.owner new.owner fault

-- the reason why a turn is refused: allocation failed for a message, and the worker holds it; or the owner refused to
-- expand
abbrev pub IsTurnRefusal : {S F : Type 0} → (S → List ℕ → ℕ → ℕ) → (List ℕ → F → List ℕ) → WorkerOf S F → WorkerOf S F → View → View → OwnerFault → Type 0
IsTurnRefusal owner values old new before after OutOfMemory =
    (HasHeldBack owner values old new × (after ≡ before)) ⊎ HasRefused owner values OutOfMemory old new before after
IsTurnRefusal owner values old new before after LimitReached = HasRefused owner values LimitReached old new before after
IsTurnRefusal owner values old new before after TotalTooLarge = HasRefused owner values TotalTooLarge old new before after

-- the result of a turn; a round is over for the worker if the board says so
abbrev pub IsTurn : {S F : Type 0} → (S → List ℕ → ℕ → ℕ) → (List ℕ → F → List ℕ) → WorkerOf S F → WorkerOf S F → View → View → Turn → Type 0
IsTurn owner values old new before after Next = HasTurned owner values old new before after
IsTurn owner values old new before after Last = HasTurned owner values old new before after
IsTurn owner values old new before after Misfit = HasStopped owner values old new × (after ≡ before)
