-- The state of a link, from both of its ends, while no other thread has one of them.
use Rattle.std.specs.Prelude.{◌≡◌, ℕ, List, ◌++◌, length, slice_get, slice_set, Some}
use Rattle.links.specs.declared.ends.Out.{Out}
use Rattle.links.specs.declared.ends.In.{In}
use Rattle.links.specs.Ends.{AreEnds}
use Rattle.worker.specs.Workers.{sent_to, received_from, known_from}

-- the end to worker `to` in a row of sending ends and the end from worker `from` in a row of receiving ends are the two
-- ends of one link
abbrev pub AreLinked : {F : Type 0} → List (Out F) → ℕ → List (In F) → ℕ → Type 0
AreLinked {F = F} outs to ins from = (o : Out F) (i : In F) → slice_get outs to ≡ Some o → slice_get ins from ≡ Some i → AreEnds o i

-- the two ends of one link are matched: what was sent over it was received or is known to be in its ring, which has
-- `count` messages; nothing is sent or received, and the other ends are unchanged
pub record IsMatchedUp {F : Type 0} (to from : ℕ) (outs new_outs : List (Out F)) (ins new_ins : List (In F)) (count : ℕ) : Type 0 where
  pub sender : Out F
  pub receiver : In F
  pub outs_after : new_outs ≡ slice_set outs to sender
  pub ins_after : new_ins ≡ slice_set ins from receiver
  pub ends : AreEnds sender receiver
  pub sent_same : (values : F → List ℕ) (v : ℕ) → sent_to values new_outs v ≡ sent_to values outs v
  pub received_same : (values : F → List ℕ) (u : ℕ) → received_from values new_ins u ≡ received_from values ins u
  pub all : (values : F → List ℕ) → received_from values new_ins from ++ known_from values new_ins from ≡ sent_to values new_outs to
  pub counted : (values : F → List ℕ) → count ≡ length (known_from values new_ins from)
