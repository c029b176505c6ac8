use Rattle.std.proofs.Common.{rules, ◌+◌, List, sym, subst, ap, ◌∙◌}
use Rattle.links.specs.declared.ends.Out.{Out}
use Rattle.links.specs.declared.ends.In.{In}
use Rattle.links.specs.Tables.{rows, HasSize, AreMatched}
use Rattle.links.proofs.Rows.{size_pushed, rows_pushed, size_grown, matched_grown}
use Rattle.links.proofs.table.LinkTable.new.Goals as goal

pub loop-preserved : goal.loop-preserved
loop-preserved g c =
    let k = c.loop.counter in let n = c.args.workers in
    let size = c.in_ok-senders.ensures.size in
    let outs' = ap rows c.in_ok-push.ensures.items ∙ rows_pushed c.loop.outs.items c.in_ok-senders.senders in
    let ins' = c.in_ok-ins-2.ensures in
    let tall = size_pushed k n (rows c.loop.outs.items) c.in_ok-senders.senders.items c.loop.invariant.0 (search rules) in
    let tall' = size_grown n k (rows c.loop.ins.items) c.in_ok-senders.receivers.items c.loop.invariant.1 (search rules) in
    let matched = matched_grown c.args.capacity n k (rows c.loop.outs.items) (rows c.loop.ins.items) c.in_ok-senders.senders.items c.in_ok-senders.receivers.items c.loop.invariant.0 c.loop.invariant.1 c.loop.invariant.2 c.in_ok-senders.ensures.fresh in
    let P : List (List (Out g.row.F.Denot)) × List (List (In g.row.F.Denot)) → Type 0 = λ z. AreMatched c.args.capacity z.0 z.1 in
    (subst (HasSize (k + 1) n) (sym outs') tall, subst (HasSize n (k + 1)) (sym ins') tall', subst P (λ i. (sym outs' i, sym ins' i)) matched)
