use Rattle.std.proofs.Common.{◌≡◌, vec_len}
use Rattle.links.specs.Tables.{AreFresh}
use Rattle.links.proofs.table.links_from.Given as goal

abbrev pub invariant-loop : goal.invariant-loop
invariant-loop g l = (vec_len l.outs ≡ l.counter) × (vec_len l.ins ≡ l.counter) × AreFresh l.capacity l.outs.items l.ins.items
