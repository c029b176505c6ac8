use Rattle.std.proofs.Common.{subst}
use Rattle.std.specs.Option.{option_map}
use Rattle.packed_spread.specs.Spreads.{zobrist_owner}
use Rattle.engine.specs.Searches.{IsSearched}
use Rattle.optplan_search.specs.Findings.{plain}
use Rattle.optplan_solver.proofs.ThreadEnds.{found_settled, found_stopped}
use Rattle.optplan_solver.proofs.stages.by_threads.Goals as goal

pub returns-in_ok-settled_at-in-Ok-Settled-clause-found : goal.returns-in_ok-settled_at-in-Ok-Settled-clause-found
returns-in_ok-settled_at-in-Ok-Settled-clause-found g c =
    let may_stop = g.G.Gate.may_stop c.args.gate.now in
    let n = c.workers-workers.result in
    found_settled c.args.options.now may_stop c.args.space.now.task (option_map plain c.args.wanted.now) c.args.space.now c.requires.space
    n c.workers-workers.ensures.value c.in-Ok-Settled.joined c.in_ok-settled_at-in-Ok-Settled.field-0
    (subst (IsSearched zobrist_owner may_stop c.args.space.now n) c.in-Ok-Settled.field-0-is c.in-Ok-Settled.ensures.searched)
    c.in_ok-settled_at-in-Ok-Settled.ensures

pub returns-in_ok-stopped_at-in-Ok-Stopped-clause-found : goal.returns-in_ok-stopped_at-in-Ok-Stopped-clause-found
returns-in_ok-stopped_at-in-Ok-Stopped-clause-found g c =
    let may_stop = g.G.Gate.may_stop c.args.gate.now in
    let n = c.workers-workers.result in
    found_stopped c.args.options.now may_stop c.args.space.now.task (option_map plain c.args.wanted.now) c.args.space.now c.requires.space
    n c.workers-workers.ensures.value c.in-Ok-Stopped.joined c.in-Ok-Stopped.cause c.in_ok-stopped_at-in-Ok-Stopped.field-0
    (subst (IsSearched zobrist_owner may_stop c.args.space.now n) c.in-Ok-Stopped.field-0-is c.in-Ok-Stopped.ensures.searched)
    c.in_ok-stopped_at-in-Ok-Stopped.ensures
