use Rattle.std.proofs.Common.{rules, List, sym, subst}
use Rattle.links.specs.declared.ends.Out.{Out}
use Rattle.links.specs.declared.ends.In.{In}
use Rattle.links.specs.Tables.{AreFresh}
use Rattle.links.proofs.Rows.{fresh_pushed}
use Rattle.links.proofs.table.links_from.Goals as goal

pub loop-preserved : goal.loop-preserved
loop-preserved g c =
    let more = fresh_pushed c.args.capacity c.loop.counter c.loop.outs.items c.loop.ins.items c.in_ok-sender.sender c.in_ok-sender.receiver (search rules) (search rules) c.loop.invariant.2 c.in_ok-sender.ensures in
    let P : List (Out g.row.F.Denot) × List (In g.row.F.Denot) → Type 0 = λ z. AreFresh c.args.capacity z.0 z.1 in
    (search rules, search rules, subst P (λ i. (sym c.in_ok-push.ensures.items i, sym c.in_ok-push-2.ensures.items i)) more)
