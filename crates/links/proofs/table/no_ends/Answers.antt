use Rattle.std.proofs.Common.{rules, ◌+◌, sym, subst, ap, ◌∙◌}
use Rattle.links.specs.Tables.{rows, HasSize}
use Rattle.links.proofs.Rows.{size_pushed, rows_pushed}
use Rattle.links.proofs.table.no_ends.Goals as goal

pub loop-preserved : goal.loop-preserved
loop-preserved g c = subst (HasSize (c.loop.counter + 1) 0) (sym (ap rows c.in_ok-push.ensures.items ∙ rows_pushed c.loop.ins.items c.new.result)) (size_pushed c.loop.counter 0 (rows c.loop.ins.items) c.new.result.items c.loop.invariant (search rules))
