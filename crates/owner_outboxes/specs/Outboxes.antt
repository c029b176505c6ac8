-- Outboxes as they are stored.
use Rattle.std.specs.Prelude.{ℕ, ◌+◌, ◌-◌, List, [], ◌∷◌, length, map, take, not, count_by, slice_set}
use Rattle.std.specs.declared.collections.VecDeque.{VecDeque}
use Rattle.owner_theory.specs.Owners as machine
use Rattle.owner_theory.specs.Owners.{list_at}
use Rattle.owner_theory.specs.Worlds.{is_empty}
use Rattle.closed.specs.declared.message.Message.{Message}
use Rattle.closed.specs.Tables.{message_of}

-- the messages of each queue
abbrev pub boxes_of : {X Y : Type 0} → List (VecDeque X Y) → List (List X)
boxes_of queues = map (λ q. q.items) queues

-- the messages of each outbox, if `values` returns the values of a form
abbrev pub shown : {F : Type 0} → (F → List ℕ) → List (List (Message F)) → List (List machine.Message)
shown values boxes = map (map (message_of values)) boxes

-- the number of outboxes with a message
abbrev pub count_in_use : {X : Type 0} → List (List X) → ℕ
count_in_use boxes = count_by (λ b. not (is_empty b)) boxes

-- the number of messages in all outboxes
abbrev pub message_count : {X : Type 0} → List (List X) → ℕ
message_count [] = 0
message_count (b ∷ bs) = length b + message_count bs

-- ---- messages are withdrawn

abbrev pub without_last : {X : Type 0} → List X → List X
without_last xs = take (length xs - 1) xs

-- the outboxes without the newest message for each of these receivers, starting with the last
abbrev pub withdrawn : {X : Type 0} → List ℕ → List (List X) → List (List X)
withdrawn [] boxes = boxes
withdrawn (v ∷ vs) boxes = slice_set (withdrawn vs boxes) v (without_last (list_at (withdrawn vs boxes) v))
