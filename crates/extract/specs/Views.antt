-- Packets as they are stored, if `values` returns the values of a form.
use Rattle.std.specs.Prelude.{ℕ, List, map, flat_map}
use Rattle.std.specs.Global.{Global}
use Rattle.std.specs.declared.collections.VecDeque.{VecDeque}
use Rattle.owner_theory.specs.Owners as machine
use Rattle.closed.specs.Tables.{message_of}
use Rattle.extract.specs.declared.packet.Packet.{Packet}

abbrev pub packet_of : {F : Type 0} → (F → List ℕ) → Packet F → machine.Packet
packet_of values p = record { sender = p.sender; message = message_of values p.message }

-- the packets of a queue, the oldest first
abbrev pub packets_in : {F : Type 0} → (F → List ℕ) → VecDeque (Packet F) Global → List machine.Packet
packets_in values queue = map (packet_of values) queue.items

-- the packets of several queues
abbrev pub all_packets : {F : Type 0} → (F → List ℕ) → List (VecDeque (Packet F) Global) → List machine.Packet
all_packets values queues = flat_map (packets_in values) queues
