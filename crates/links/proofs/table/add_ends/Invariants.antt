use Rattle.std.proofs.Common.{◌≡◌, ◌++◌, length}
use Rattle.links.specs.Tables.{rows, grown}
use Rattle.links.proofs.table.add_ends.Given as goal

abbrev pub invariant-loop-row : goal.invariant-loop-row
invariant-loop-row g l = (length l.row-iterator.a.rest.items ≡ length l.row-iterator.b.rest.items) × (grown (rows l.fn.ins.items) l.fn.ends.items ≡ rows l.all.items ++ grown (rows l.row-iterator.a.rest.items) l.row-iterator.b.rest.items)
