-- What was sent over a link, what was taken from it, and what is known to be left to take.
use Rattle.std.specs.Prelude.{◌≡◌, ℕ, List, [], ◌∷◌, ◌++◌, None}
use Rattle.std.specs.Option.{option_to_list}
use Rattle.rtrb.specs.Ring
use Rattle.links.specs.Returned.{but_returned}
use Rattle.closed.specs.declared.message.Message.{Message}
use Rattle.links.specs.declared.ends.Out.{Out}
use Rattle.links.specs.declared.ends.In.{In}

-- every message sent so far, the oldest first
abbrev pub sent : {F : Type 0} → Out F → List (Message F)
sent o = Ring.sent o.producer

-- the number of further messages for which the sender knows that there is room
abbrev pub room : {F : Type 0} → Out F → ℕ
room o = Ring.known_free o.producer

-- every message taken so far and not put back, the oldest first
abbrev pub received : {F : Type 0} → In F → List (Message F)
received i = but_returned (Ring.received i.consumer) i.returned

-- the messages that the receiver knows to be left to take, which the next calls of `pop` return: one that was put back,
-- and those that it knows to be in the ring
abbrev pub known : {F : Type 0} → In F → List (Message F)
known i = option_to_list i.returned ++ Ring.known_items i.consumer

-- the number of messages for which the ring has room
abbrev pub capacity : {F : Type 0} → In F → ℕ
capacity i = Ring.consumer_capacity i.consumer

-- `message` was taken last, and none is put back
pub record WasTakenLast {F : Type 0} (i : In F) (message : Message F) : Type 0 where
  pub before : List (Message F)
  pub received_is : received i ≡ before ++ message ∷ []
  pub none_back : i.returned ≡ None

-- the two ends of one link
abbrev pub AreEnds : {F : Type 0} → Out F → In F → Type 0
AreEnds o i = Ring.IsPair o.producer i.consumer

-- the same end, before and after a call
abbrev pub SameOut : {F : Type 0} → Out F → Out F → Type 0
SameOut a b = Ring.SameProducer a.producer b.producer

abbrev pub SameIn : {F : Type 0} → In F → In F → Type 0
SameIn a b = Ring.SameConsumer a.consumer b.consumer

-- the two ends of a link with room for `messages` messages, over which nothing was sent
pub record IsFresh {F : Type 0} (messages : ℕ) (o : Out F) (i : In F) : Type 0 where
  pub ends : AreEnds o i
  pub room_is : room o ≡ messages
  pub capacity_is : capacity i ≡ messages
  pub sent_none : sent o ≡ []
  pub received_none : received i ≡ []
  pub known_none : known i ≡ []
