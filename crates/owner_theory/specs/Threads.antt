-- Workers as threads, each of which runs one owner of states: the owner's run, and the messages that passed through the
-- rings between workers.
use Rattle.std.specs.Prelude.{◌≡◌, ℕ, ◌+◌, false, List, ◌++◌}
use Rattle.cost.specs.Distances.{◌≤ᵈ◌}
use Rattle.owner_theory.specs.Owners.{At, SearchSpace, Message, Packet, Log, fits, IsRun}
use Rattle.owner_theory.specs.Families.{In, Family, copies, copies_from, least_of}

-- the log is the end of a run; the messages handed out are those sent into the rings plus those that a full ring
-- returned and the worker holds; those received from the rings were taken, except messages that do not fit
pub record IsWorker
    (space : SearchSpace) (w : ℕ) (l : Log) (sent received : ℕ → List Message) (held : List Message) (misfits : List Packet)
    : Type 0 where
  pub run : IsRun space w l
  pub handed : (m : Message) → copies m l.handed ≡ copies m (sent (space.owner_of m.state)) + copies m held
  -- the ring to v receives only messages for v
  pub pushed : (v : ℕ) (m : Message) → In m (sent v) → space.owner_of m.state ≡ v
  pub popped : (u : ℕ) (m : Message) → copies m (received u) ≡ copies_from u m l.taken + copies_from u m misfits
  pub unfit : (i : ℕ) (p : Packet) → At misfits i p → fits space w p.message ≡ false

-- all workers have joined; the messages sent into a ring are those received from it and those still in it; the messages
-- left are those held or in a ring; and no bound that was read is below the least cost that was offered
pub record AreJoined
    (space : SearchSpace) (family : Family) (sent received in_ring : ℕ → ℕ → List Message) (held : ℕ → List Message)
    (misfits : ℕ → List Packet)
    : Type 0 where
  pub workers : (w : ℕ) → IsWorker space w (family.logs w) (sent w) (received w) (held w) (misfits w)
  pub rings : (w v : ℕ) → sent w v ≡ received v w ++ in_ring w v
  pub left : (w : ℕ) (m : Message)
      → copies_from w m family.left ≡ copies m (held w) + copies m (in_ring w (space.owner_of m.state))
  pub board : (w : ℕ) → least_of space.owners (λ v. (family.logs v).offered) ≤ᵈ (family.logs w).seen
