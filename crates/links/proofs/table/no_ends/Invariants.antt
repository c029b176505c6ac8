use Rattle.links.specs.Tables.{rows, HasSize}
use Rattle.links.proofs.table.no_ends.Given as goal

abbrev pub invariant-loop : goal.invariant-loop
invariant-loop g l = HasSize l.counter 0 (rows l.ins.items)
