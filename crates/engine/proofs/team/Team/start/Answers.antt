use Rattle.std.proofs.Common.{length, max}
use Rattle.links.specs.Tables.{rows}
use Rattle.engine.proofs.Starting.{fresh_rows, starts_team, starts_first}
use Rattle.engine.proofs.team.Team.start.Goals as goal

pub first_workers-requires-clause-links : goal.first_workers-requires-clause-links
first_workers-requires-clause-links g c =
    let links = fresh_rows c.max.result c.args.workers c.in_ok-links.links.outs.items c.in_ok-links.links.ins.items c.in_ok-links.ensures.size.0 c.in_ok-links.ensures.size.1
    c.in_ok-links.ensures.matched in
    (c.max.result, links.1)

pub invariant_of-result : goal.invariant_of-result
invariant_of-result g c =
    let links = fresh_rows c.max.result c.args.workers c.in_ok-links.links.outs.items c.in_ok-links.links.ins.items c.in_ok-links.ensures.size.0 c.in_ok-links.ensures.size.1
    c.in_ok-links.ensures.matched in
    starts_team c.max.result (length c.in_ok-links.links.outs.items) c.args.workers (rows c.in_ok-links.links.outs.items) (rows c.in_ok-links.links.ins.items) links.1
    c.args.space.now c.in_ok-first_workers.field-0.items c.in_ok-first_workers.ensures links.0 c.inf.result c.inf.ensures c.requires.workers

pub returns : goal.returns
returns g c =
    let links = fresh_rows c.max.result c.args.workers c.in_ok-links.links.outs.items c.in_ok-links.links.ins.items c.in_ok-links.ensures.size.0 c.in_ok-links.ensures.size.1
    c.in_ok-links.ensures.matched in
    starts_first c.max.result (length c.in_ok-links.links.outs.items) c.args.workers (rows c.in_ok-links.links.outs.items) (rows c.in_ok-links.links.ins.items) links.1
    c.args.space.now c.in_ok-first_workers.field-0.items c.in_ok-first_workers.ensures links.0 c.inf.result c.inf.ensures (max c.args.capacity 1) c.max.ensures
