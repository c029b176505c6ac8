-- The turns of one worker in a round: what they preserve, what they change at its seat, and how they end.
use Rattle.std.specs.Prelude.{◌≡◌, ◌≢◌, ℕ, ◌⊎◌, Bool, true, false, List, [], Option, Some, None}
use Rattle.cost.specs.Distances.{Distance, lesser, ◌≤ᵈ◌}
use Rattle.board.specs.declared.views.View.{View}
use Rattle.board.specs.declared.words.Board.{Board}
use Rattle.board.specs.Seats.{BoardSeat, IsSeatOf, view}
use Rattle.owner.specs.declared.fault.OwnerFault.TheVariants.{OutOfMemory, TotalTooLarge, LimitReached}
use Rattle.owner.specs.Owned.{IsRefusal}
use Rattle.worker.specs.Workers.{WorkerOf, AreSameOuts, AreSameIns}
use Rattle.worker.specs.declared.outcome.Received.{Received}
use Rattle.worker.specs.declared.outcome.Received.TheVariants.{Taken, Nothing, SetAside}
use Rattle.worker.specs.Turns.{HasReceivedEach, HasLooked, HasTurned, HasStopped, HasHeldBack, HasCounted, IsTurnRefusal}
use Rattle.engine_round.specs.declared.gate.Stop.{Stop}
use Rattle.engine_round.specs.declared.fault.TurnFault.{TurnFault}
use Rattle.engine_round.specs.declared.fault.TurnFault.TheVariants.{Owner, Gate}

-- in which ways a gate may end a search, for each worker's number and turn
abbrev pub MayStop : Type 1
MayStop = ℕ → ℕ → Stop → Type 0

-- the same worker, before and after
pub record IsSameWorker {S F : Type 0} (old new : WorkerOf S F) : Type 0 where
  pub space : new.owner.space ≡ old.owner.space
  pub number : new.owner.worker ≡ old.owner.worker
  pub outs : AreSameOuts old.outs new.outs
  pub ins : AreSameIns old.ins new.ins

-- the bounds that the worker has read and the costs that it has offered in the meantime are those of its seat
pub record IsSeated {S F : Type 0} (old new : WorkerOf S F) (before after : View) : Type 0 where
  pub seen_since : Distance
  pub offered_since : Distance
  pub seen : new.seen ≡ lesser old.seen seen_since
  pub offered : new.offered ≡ lesser old.offered offered_since
  pub view_seen : after.seen ≡ lesser before.seen seen_since
  pub view_offered : after.offered ≡ lesser before.offered offered_since
  pub parts : after.parts ≡ before.parts

-- ---- a worker between the turns of a round

-- it has a seat at the board; it is the same worker as before; the bounds that it has read and the costs that it has
-- offered since are those of its seat; and no message is left to be added to the units, or set aside
pub record IsRelaying {S F : Type 0} (b : Board) (s : BoardSeat) (old : WorkerOf S F) (t : BoardSeat) (w : WorkerOf S F) : Type 0 where
  pub seat : IsSeatOf b t
  pub same : IsSameWorker old w
  pub seated : IsSeated old w (view s) (view t)
  pub uncounted : w.uncounted ≡ 0
  pub misfits : w.misfits ≡ []

-- the same, and no message that it has taken is left to be subtracted from the units
pub record IsAtWork {S F : Type 0} (b : Board) (s : BoardSeat) (old : WorkerOf S F) (t : BoardSeat) (w : WorkerOf S F) : Type 0 where
  pub seat : IsSeatOf b t
  pub same : IsSameWorker old w
  pub seated : IsSeated old w (view s) (view t)
  pub uncounted : w.uncounted ≡ 0
  pub taken : w.taken ≡ 0
  pub misfits : w.misfits ≡ []

-- the result of receiving from each link: no message was set aside, or one was, and nothing was received from the links
-- after it
abbrev pub HasReceivedAll : {S F : Type 0} → (S → List ℕ → ℕ → ℕ) → (List ℕ → F → List ℕ) → WorkerOf S F → WorkerOf S F → Received → Type 0
HasReceivedAll owner values old new Taken = HasReceivedEach owner values old new true
HasReceivedAll owner values old new Nothing = HasReceivedEach owner values old new true
HasReceivedAll owner values old new SetAside = HasReceivedEach owner values old new false

-- what the worker has taken was subtracted from the units, or nothing was done
abbrev pub CountsOrNot : {S F : Type 0} → (S → List ℕ → ℕ → ℕ) → WorkerOf S F → WorkerOf S F → View → View → Type 0
CountsOrNot owner old new before after = HasCounted owner old new before after ⊎ ((new ≡ old) × (after ≡ before))

-- a message was set aside while the worker relayed messages, and nothing was done after that
pub record HasRelayedAside {S F : Type 0} (owner : S → List ℕ → ℕ → ℕ) (values : List ℕ → F → List ℕ) (b : Board) (s : BoardSeat) (old : WorkerOf S F) (t : BoardSeat) (w : WorkerOf S F)
    : Type 0 where
  pub seat : BoardSeat
  pub worker : WorkerOf S F
  pub before : IsRelaying b s old seat worker
  pub stopped : HasStopped owner values worker w
  pub unseen : view t ≡ view seat

-- the owner could not take a message while the worker relayed messages, and nothing was done after that: the worker
-- holds the message
pub record HasRelayedBack {S F : Type 0} (owner : S → List ℕ → ℕ → ℕ) (values : List ℕ → F → List ℕ) (b : Board) (s : BoardSeat) (old : WorkerOf S F) (t : BoardSeat) (w : WorkerOf S F)
    : Type 0 where
  pub seat : BoardSeat
  pub worker : WorkerOf S F
  pub before : IsRelaying b s old seat worker
  pub held : HasHeldBack owner values worker w
  pub unseen : view t ≡ view seat

-- messages were sent and received between two turns, or a message was set aside
abbrev pub HasPassedOn : {S F : Type 0} → (S → List ℕ → ℕ → ℕ) → (List ℕ → F → List ℕ) → Board → BoardSeat → WorkerOf S F → BoardSeat → WorkerOf S F → Bool → Type 0
HasPassedOn owner values b s old t w true = IsRelaying b s old t w
HasPassedOn owner values b s old t w false = HasRelayedAside owner values b s old t w

-- messages were sent and received between two turns, and what was taken is counted: the worker is at work, or a message
-- was set aside
abbrev pub HasRelayed : {S F : Type 0} → (S → List ℕ → ℕ → ℕ) → (List ℕ → F → List ℕ) → Board → BoardSeat → WorkerOf S F → BoardSeat → WorkerOf S F → Bool → Type 0
HasRelayed owner values b s old t w true = IsAtWork b s old t w
HasRelayed owner values b s old t w false = HasRelayedAside owner values b s old t w

-- ---- the turns of one worker in a round

-- a worker after its turns, its seat, and the fault that ended them, if one did
pub record WorkedOf (S F : Type 0) : Type 0 where
  pub worker : WorkerOf S F
  pub seat : BoardSeat
  pub fault : Option TurnFault

-- it is the same worker; the bounds that it has read and the costs that it has offered are those of its seat; and
-- unless it has set a message aside, the bound that it read last is at most the one that its seat had seen before
pub record HasKept {S F : Type 0} (old new : WorkerOf S F) (before after : View) : Type 0 where
  pub same : IsSameWorker old new
  pub seated : IsSeated old new before after
  pub told : new.misfits ≡ [] → new.bound ≤ᵈ before.seen
  pub uncounted : new.uncounted ≡ 0

-- the reason why a turn was not completed: the owner refused to expand the next node, or failed to allocate memory for
-- a message, and the worker is as such a turn leaves it; or the gate may end the search before that turn of this
-- worker, which has read the bound and done nothing else
abbrev pub IsTurnFault : {S F : Type 0} → (S → List ℕ → ℕ → ℕ) → (List ℕ → F → List ℕ) → MayStop → WorkerOf S F → WorkerOf S F → View → View → TurnFault → Type 0
IsTurnFault owner values may_stop old new before after (Owner fault) = IsTurnRefusal owner values old new before after fault
IsTurnFault owner values may_stop old new before after (Gate turn stop) = may_stop old.owner.worker turn stop × HasLooked old new before after

-- this fault is the worker's: its owner, in its present state, refuses to expand the next node, or allocation failed;
-- or the gate may end the search before that turn of this worker
abbrev pub IsFaultOf : {S F : Type 0} → (S → List ℕ → ℕ → ℕ) → MayStop → WorkerOf S F → TurnFault → Type 0
IsFaultOf owner may_stop w (Owner OutOfMemory) = Unit {0}
IsFaultOf owner may_stop w (Owner LimitReached) = IsRefusal owner w.bound w.owner w.owner LimitReached
IsFaultOf owner may_stop w (Owner TotalTooLarge) = IsRefusal owner w.bound w.owner w.owner TotalTooLarge
IsFaultOf owner may_stop w (Gate turn stop) = may_stop w.owner.worker turn stop

-- the last turn of the worker was a whole one, or ended with a message that is not for its owner
abbrev pub HasEndedTurn : {S F : Type 0} → (S → List ℕ → ℕ → ℕ) → (List ℕ → F → List ℕ) → WorkerOf S F → Type 0
HasEndedTurn {S} {F} owner values w = (old : WorkerOf S F) × (before : View) × (after : View) × (HasTurned owner values old w before after ⊎ HasStopped owner values old w)

-- how the turns ended
abbrev pub HasEnded : {S F : Type 0} → (S → List ℕ → ℕ → ℕ) → (List ℕ → F → List ℕ) → MayStop → WorkerOf S F → Option TurnFault → Type 0
HasEnded owner values may_stop w None = HasEndedTurn owner values w
HasEnded owner values may_stop w (Some fault) = IsFaultOf owner may_stop w fault

-- the turns of a worker in a round, with that seat at the board: unless allocation failed, the invariants hold after
-- them
pub record HasWorked {S F : Type 0} (owner : S → List ℕ → ℕ → ℕ) (values : List ℕ → F → List ℕ) (may_stop : MayStop) (b : Board) (s : BoardSeat) (old : WorkerOf S F) (r : WorkedOf S F)
    : Type 0 where
  pub seat : IsSeatOf b r.seat
  pub kept : r.fault ≢ Some (Owner OutOfMemory) → HasKept old r.worker (view s) (view r.seat)
  pub ended : HasEnded owner values may_stop r.worker r.fault

-- one turn, and what was relayed after it: the worker is at work, or these were all its turns
abbrev pub HasStepped : {S F : Type 0} → (S → List ℕ → ℕ → ℕ) → (List ℕ → F → List ℕ) → MayStop → Board → BoardSeat → WorkerOf S F → BoardSeat → WorkerOf S F → Bool → Type 0
HasStepped owner values may_stop b s old t w true = IsAtWork b s old t w
HasStepped owner values may_stop b s old t w false = HasWorked owner values may_stop b s old (record { worker = w; seat = t; fault = None })
