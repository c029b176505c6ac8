-- The workers of a round with their seats, before and after the round.
use Rattle.std.specs.Prelude.{◌≡◌, ◌≢◌, ℕ, suc, ◌+◌, List, [], ◌∷◌, map, length, All, Some}
use Rattle.cost.specs.Distances.{Distance, ◌≤ᵈ◌, lesser, least}
use Rattle.owner.specs.declared.fault.OwnerFault.TheVariants.{OutOfMemory}
use Rattle.board.specs.declared.views.View.{View}
use Rattle.board.specs.declared.words.Board.{Board}
use Rattle.board.specs.Rule.{total_parts, all_parts, joined}
use Rattle.board.specs.Seats.{BoardSeat, IsSeatOf, view}
use Rattle.worker.specs.Workers.{WorkerOf}
use Rattle.engine_round.specs.Turns.{MayStop, WorkedOf, HasWorked}
use Rattle.engine_round.specs.declared.fault.TurnFault.TheVariants.{Owner}

-- `count` seats that were split from one with the view `v`: each has seen the same bound, together they have its parts
-- and have offered what it had offered
pub record AreSplit (b : Board) (v : View) (count : ℕ) (seats : List BoardSeat) : Type 0 where
  pub count_is : length seats ≡ count
  pub each : All (λ s. IsSeatOf b s × ((view s).seen ≡ v.seen)) seats
  pub parts : total_parts (map view seats) ≡ v.parts
  pub offered : least (map (λ s. (view s).offered) seats) ≡ v.offered

-- the numbers of the workers are consecutive, from `v` on
abbrev pub AreNumbered : {S F : Type 0} → ℕ → List (WorkerOf S F) → Type 0
AreNumbered v [] = Unit {0}
AreNumbered v (w ∷ ws) = (w.owner.worker ≡ v) × AreNumbered (suc v) ws

-- a worker with a seat for a round
pub record JobOf (S F : Type 0) : Type 0 where
  pub seat : BoardSeat
  pub worker : WorkerOf S F

-- the worker may take turns with that seat
abbrev pub IsReady : {S F : Type 0} → Board → JobOf S F → Type 0
IsReady b j = IsSeatOf b j.seat × (j.worker.misfits ≡ [])

-- the seat through which a board was opened for a round: the least cost offered in earlier rounds is offered and was
-- read
pub record IsOpened (best : Distance) (v : View) : Type 0 where
  pub offered : v.offered ≡ best
  pub seen : v.seen ≤ᵈ best
  pub parts : v.parts ≡ all_parts

-- a seat for the caller and one for each of these workers, none of which has set a message aside: together the seats
-- have all parts and have offered this cost, and none has seen a greater bound
pub record AreSetUp {S F : Type 0} (b : Board) (best : Distance) (workers : List (WorkerOf S F)) (own : BoardSeat) (jobs : List (JobOf S F)) : Type 0 where
  pub own_seat : IsSeatOf b own
  pub workers_are : map (λ j. j.worker) jobs ≡ workers
  pub ready : All (IsReady b) jobs
  pub told : All (λ j. (view j.seat).seen ≤ᵈ best) jobs
  pub parts : (view own).parts + total_parts (map (λ j. view j.seat) jobs) ≡ all_parts
  pub offered : lesser (view own).offered (least (map (λ j. (view j.seat).offered) jobs)) ≡ best

-- a job that was begun at a board, with this gate
pub record BegunOf (J G : Type 0) : Type 0 where
  pub board : Board
  pub job : J
  pub gate : G

-- the worker of that job has taken its turns
abbrev pub HasDone : {S F : Type 0} → (S → List ℕ → ℕ → ℕ) → (List ℕ → F → List ℕ) → MayStop → Board → JobOf S F → WorkedOf S F → Type 0
HasDone owner values may_stop b j r = HasWorked owner values may_stop b j.seat j.worker r

-- allocation did not fail in the worker
abbrev pub HasMemory : {S F : Type 0} → WorkedOf S F → Type 0
HasMemory r = r.fault ≢ Some (Owner OutOfMemory)

-- what a seat knows after it was joined with the seats of these workers, one by one
abbrev pub joined_all : {S F : Type 0} → View → List (WorkedOf S F) → View
joined_all v [] = v
joined_all v (r ∷ rs) = joined_all (joined v (view r.seat)) rs
