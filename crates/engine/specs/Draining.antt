-- What is taken from rings between rounds, with `values` as the values of a form of a state.
use Rattle.std.specs.Prelude.{◌≡◌, ◌≢◌, ℕ, zero, suc, ◌<◌, ◌≤◌, List, [], ◌∷◌, ◌++◌, length, drop}
use Rattle.cost.specs.Distances.{Distance}
use Rattle.owner_theory.specs.Owners.{At, SearchSpace, Message, Owner, took}
use Rattle.owner.specs.Owned.{space_of, under}
use Rattle.worker.specs.Workers.{WorkerOf, sent_to, received_from, known_from}
use Rattle.engine.specs.Teams.{TeamOf, AreAllLinked, values_on, sent_by, AreEmpty}

-- the owner after it takes these messages, in order
abbrev pub took_each : SearchSpace → Owner → List Message → Owner
took_each space o [] = o
took_each space o (m ∷ ms) = took_each space (took space o m) ms

-- the messages in the rings from the workers 0 to n - 1, worker by worker: those that were sent and not received, the
-- oldest first
abbrev pub in_rings : (ℕ → List Message) → (ℕ → List Message) → ℕ → List Message
in_rings sent received zero = []
in_rings sent received (suc n) = in_rings sent received n ++ drop (length (received n)) (sent n)

-- these messages are taken by the owner, in this order; nothing is sent, and the worker is otherwise unchanged, but for
-- what it knows of its links, and its units
pub record HasTakenEach {S F : Type 0} (owner : S → List ℕ → ℕ → ℕ) (ms : List Message) (old new : WorkerOf S F) : Type 0 where
  pub took : (bound : Distance) → under new.owner bound ≡ took_each (space_of owner old.owner) (under old.owner bound) ms
  pub others : new.owner ≡ record old.owner { nodes = new.owner.nodes; ever = new.owner.ever; best = new.owner.best }
  pub sent : (values : F → List ℕ) (to : ℕ) → sent_to values new.outs to ≡ sent_to values old.outs to
  pub outs : length new.outs ≡ length old.outs
  pub ins : length new.ins ≡ length old.ins
  pub worker : new ≡ record old { owner = new.owner; outs = new.outs; ins = new.ins; resting = new.resting; taken = new.taken }

-- each worker has taken what was in the rings to it, and the rings are empty
pub record IsDrained {S F : Type 0} (owner : S → List ℕ → ℕ → ℕ) (values : List ℕ → F → List ℕ) (old new : TeamOf S F) : Type 0 where
  pub space : new.space ≡ old.space
  pub count : length new.workers ≡ length old.workers
  pub best : new.best ≡ old.best
  pub each : (v : ℕ) (a b : WorkerOf S F) → At old.workers v a → At new.workers v b
      → HasTakenEach owner (in_rings (λ u. sent_by (values_on values old) old.workers u v) (received_from (values_on values old) a.ins) (length old.workers)) a b
  pub none_aside : (v : ℕ) (w : WorkerOf S F) → At new.workers v w → w.misfits ≡ []
  pub empty : AreEmpty values new

-- ---- link by link

-- nothing is taken or received, and the worker is unchanged, but for what it knows of its links, and its units
pub record IsLookedAt {S F : Type 0} (owner : S → List ℕ → ℕ → ℕ) (old new : WorkerOf S F) : Type 0 where
  pub taken : HasTakenEach owner [] old new
  pub received : (values : F → List ℕ) (from : ℕ) → received_from values new.ins from ≡ received_from values old.ins from

pub record AreLookedAt {S F : Type 0} (owner : S → List ℕ → ℕ → ℕ) (old new : List (WorkerOf S F)) : Type 0 where
  pub len : length new ≡ length old
  pub links : AreAllLinked new
  pub each : (v : ℕ) (a b : WorkerOf S F) → At old v a → At new v b → IsLookedAt owner a b

-- the ends of the link from worker `from` to worker `to` were matched; `count` messages are in its ring
pub record IsLinkMatched {S F : Type 0} (owner : S → List ℕ → ℕ → ℕ) (from to : ℕ) (old new : List (WorkerOf S F)) (count : ℕ) : Type 0 where
  pub looked : AreLookedAt owner old new
  pub all : (values : F → List ℕ) (b : WorkerOf S F) → At new to b
      → received_from values b.ins from ++ known_from values b.ins from ≡ sent_by values old from to
  pub counted : (values : F → List ℕ) (b : WorkerOf S F) → At new to b → count ≡ length (known_from values b.ins from)

-- the worker has taken what was in the ring of one link, over which `sent` was sent
pub record HasEmptied {S F : Type 0} (owner : S → List ℕ → ℕ → ℕ) (values : F → List ℕ) (from : ℕ) (sent : List Message) (old new : WorkerOf S F) : Type 0 where
  pub taken : HasTakenEach owner (drop (length (received_from values old.ins from)) sent) old new
  pub all : received_from values new.ins from ≡ sent
  pub others : (u : ℕ) → u ≢ from → received_from values new.ins u ≡ received_from values old.ins u

-- worker `to` has taken what was in the ring from worker `from`
pub record IsLinkEmptied {S F : Type 0} (owner : S → List ℕ → ℕ → ℕ) (values : F → List ℕ) (from to : ℕ) (old new : List (WorkerOf S F)) : Type 0 where
  pub len : length new ≡ length old
  pub links : AreAllLinked new
  pub receiver : (a b : WorkerOf S F) → At old to a → At new to b → HasEmptied owner values from (sent_by values old from to) a b
  pub none_aside : (b : WorkerOf S F) → At new to b → b.misfits ≡ []
  pub others : (v : ℕ) (a b : WorkerOf S F) → v ≢ to → At old v a → At new v b → IsLookedAt owner a b

-- the worker has taken what was in the rings from the workers 0 to n - 1, which have sent it the messages `sent`
pub record HasEmptiedEach {S F : Type 0} (owner : S → List ℕ → ℕ → ℕ) (values : F → List ℕ) (sent : ℕ → List Message) (n : ℕ) (old new : WorkerOf S F) : Type 0 where
  pub taken : HasTakenEach owner (in_rings sent (received_from values old.ins) n) old new
  pub below : (u : ℕ) → u < n → received_from values new.ins u ≡ sent u
  pub others : (u : ℕ) → n ≤ u → received_from values new.ins u ≡ received_from values old.ins u

-- worker `to` has taken what was in the rings from the workers 0 to n - 1
pub record AreLinksEmptied {S F : Type 0} (owner : S → List ℕ → ℕ → ℕ) (values : F → List ℕ) (n to : ℕ) (old new : List (WorkerOf S F)) : Type 0 where
  pub len : length new ≡ length old
  pub links : AreAllLinked new
  pub receiver : (a b : WorkerOf S F) → At old to a → At new to b → HasEmptiedEach owner values (λ u. sent_by values old u to) n a b
  pub none_aside : (b : WorkerOf S F) → At new to b → b.misfits ≡ []
  pub others : (v : ℕ) (a b : WorkerOf S F) → v ≢ to → At old v a → At new v b → IsLookedAt owner a b

-- the workers 0 to n - 1 have taken what was in the rings to them
pub record AreDrained {S F : Type 0} (owner : S → List ℕ → ℕ → ℕ) (values : F → List ℕ) (n : ℕ) (old new : List (WorkerOf S F)) : Type 0 where
  pub len : length new ≡ length old
  pub links : AreAllLinked new
  pub below : (v : ℕ) (a b : WorkerOf S F) → v < n → At old v a → At new v b
      → HasEmptiedEach owner values (λ u. sent_by values old u v) (length old) a b × (b.misfits ≡ [])
  pub others : (v : ℕ) (a b : WorkerOf S F) → n ≤ v → At old v a → At new v b → IsLookedAt owner a b
