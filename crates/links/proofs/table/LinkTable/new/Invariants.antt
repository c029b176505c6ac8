use Rattle.links.specs.Tables.{rows, HasSize, AreMatched}
use Rattle.links.proofs.table.LinkTable.new.Given as goal

abbrev pub invariant-loop : goal.invariant-loop
invariant-loop g l = HasSize l.counter l.workers (rows l.outs.items) × HasSize l.workers l.counter (rows l.ins.items) × AreMatched l.capacity (rows l.outs.items) (rows l.ins.items)
