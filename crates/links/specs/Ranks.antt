-- Ranks of messages between workers.
use Rattle.std.specs.Prelude.{◌≤◌, ◌^◌}
use Rattle.closed.specs.declared.message.Message.{Message}

-- the message's state was reached at a cost of at most 2^62 and over at most 2^62 operators
abbrev pub HasSmallRank : {F : Type 0} → Message F → Type 0
HasSmallRank m = (m.rank.cost ≤ 2 ^ 62) × (m.rank.steps ≤ 2 ^ 62)
