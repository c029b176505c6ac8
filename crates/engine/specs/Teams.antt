-- A team: the workers of a search as one value, between the rounds in which they take turns.
use Rattle.std.specs.Prelude.{◌≡◌, ℕ, zero, suc, ◌<◌, List, [], ◌∷◌, map, length, slice_get, Some}
use Rattle.cost.specs.Distances.{Distance, Infinite, ◌≤ᵈ◌, least}
use Rattle.fdr.specs.Tasks.{ranges}
use Rattle.owner_theory.specs.Owners.{At, Message}
use Rattle.owner.specs.Spaces.{SpaceOf}
use Rattle.links.specs.declared.ends.Out.{Out}
use Rattle.links.specs.declared.ends.In.{In}
use Rattle.links.specs.Ends.{room}
use Rattle.links.specs.Tables.{HasSize, AreMatched}
use Rattle.worker.specs.Matching.{AreLinked}
use Rattle.worker.specs.Workers.{WorkerOf, IsFirstWorker, sent_to, received_from}

-- the space, the workers in the order of their numbers, and the least cost that any of them has offered
pub record TeamOf (S F : Type 0) : Type 0 where
  pub space : SpaceOf S
  pub workers : List (WorkerOf S F)
  pub best : Distance

-- worker `v` of `workers` in a space, with a link to each and from each; no message in its outboxes is uncounted
pub record IsMember {S F : Type 0} (searched_space : SpaceOf S) (workers v : ℕ) (w : WorkerOf S F) : Type 0 where
  pub space : w.owner.space ≡ searched_space
  pub number : w.owner.worker ≡ v
  pub outs : length w.outs ≡ workers
  pub ins : length w.ins ≡ workers
  pub counted : w.uncounted ≡ 0

-- for each two of them, their ends are those of a link from the one to the other
abbrev pub AreAllLinked : {S F : Type 0} → List (WorkerOf S F) → Type 0
AreAllLinked {S = S} {F = F} ws = (u v : ℕ) (a b : WorkerOf S F) → At ws u a → At ws v b → AreLinked a.outs v b.ins u

-- the workers of a space, in the order of their numbers, with links between them
pub record AreMembers {S F : Type 0} (searched_space : SpaceOf S) (ws : List (WorkerOf S F)) : Type 0 where
  pub each : (v : ℕ) (w : WorkerOf S F) → At ws v w → IsMember searched_space (length ws) v w
  pub links : AreAllLinked ws

-- there are workers, and no bound that any of them has seen is below the least cost that was offered
pub record IsTeam {S F : Type 0} (t : TeamOf S F) : Type 0 where
  pub some : 0 < length t.workers
  pub members : AreMembers t.space t.workers
  pub best : t.best ≡ least (map (λ w. w.offered) t.workers)
  pub bounded : (v : ℕ) (w : WorkerOf S F) → At t.workers v w → t.best ≤ᵈ w.seen

-- ---- the start

-- the ends of new links between these workers, each with room for `capacity` messages: the rows of sending ends by
-- sender, of receiving ends by receiver
pub record AreFreshLinks {F : Type 0} (capacity workers : ℕ) (outs : List (List (Out F))) (ins : List (List (In F))) : Type 0 where
  pub senders : HasSize workers workers outs
  pub receivers : HasSize workers workers ins
  pub matched : AreMatched capacity outs ins

-- worker `v` at the start, with its ends of these links
pub record IsFirst {S F : Type 0} (searched_space : SpaceOf S) (workers : ℕ) (outs : List (List (Out F))) (ins : List (List (In F))) (v : ℕ) (w : WorkerOf S F)
    : Type 0 where
  pub is : IsFirstWorker searched_space v workers w.outs w.ins w
  pub sends : At outs v w.outs
  pub receives : At ins v w.ins

-- `workers` workers at the start
pub record AreFirstWorkers {S F : Type 0} (searched_space : SpaceOf S) (workers : ℕ) (outs : List (List (Out F))) (ins : List (List (In F)))
    (ws : List (WorkerOf S F)) : Type 0 where
  pub len : length ws ≡ workers
  pub each : (v : ℕ) (w : WorkerOf S F) → At ws v w → IsFirst searched_space workers outs ins v w

-- `workers` workers at the start, with links that have room for `capacity` messages and over which nothing was sent
pub record IsFirstTeam {S F : Type 0} (searched_space : SpaceOf S) (workers capacity : ℕ) (t : TeamOf S F) : Type 0 where
  pub space : t.space ≡ searched_space
  pub count : length t.workers ≡ workers
  pub each : (v : ℕ) (w : WorkerOf S F) → At t.workers v w → IsFirstWorker searched_space v workers w.outs w.ins w
  pub none_sent : (v : ℕ) (w : WorkerOf S F) → At t.workers v w → (values : F → List ℕ) (to : ℕ) → sent_to values w.outs to ≡ []
  pub none_received : (v : ℕ) (w : WorkerOf S F) → At t.workers v w → (values : F → List ℕ) (from : ℕ) → received_from values w.ins from ≡ []
  pub room : (v : ℕ) (w : WorkerOf S F) → At t.workers v w → (to : ℕ) (o : Out F) → slice_get w.outs to ≡ Some o → room o ≡ capacity
  pub best : t.best ≡ Infinite

-- ---- what was sent

-- what worker `u` has sent to worker `to`, nothing past the last worker, with `values` as the values of a form of a
-- state
abbrev pub sent_by : {S F : Type 0} → (F → List ℕ) → List (WorkerOf S F) → ℕ → ℕ → List Message
sent_by values [] u to = []
sent_by values (w ∷ ws) zero to = sent_to values w.outs to
sent_by values (w ∷ ws) (suc u) to = sent_by values ws u to

-- the values of a form of a state, if `values` returns these from the ranges of the task's variables
abbrev pub values_on : {S F : Type 0} → (List ℕ → F → List ℕ) → TeamOf S F → F → List ℕ
values_on values t = values (ranges t.space.task)

-- no message is in a ring: each worker has received all that was sent to it
abbrev pub AreEmpty : {S F : Type 0} → (List ℕ → F → List ℕ) → TeamOf S F → Type 0
AreEmpty {S = S} {F = F} values t =
    (u v : ℕ) (a b : WorkerOf S F) → At t.workers u a → At t.workers v b
    → received_from (values_on values t) b.ins u ≡ sent_to (values_on values t) a.outs v
