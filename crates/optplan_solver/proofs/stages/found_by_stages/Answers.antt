use Rattle.std.proofs.Common.{◌≤◌, ◌+◌, List, [], map, true, sym, subst, arith}
use Rattle.std.specs.Prelude.{Vec}
use Rattle.std.proofs.lemmas.List.Elements.{All-nil}
use Rattle.fdr.specs.Tasks.{FiniteDomainTask}
use Rattle.std.specs.Global.{Global}
use Rattle.abstraction_mapping.specs.declared.mapping.Mapping.{Mapping as KeptMapping}
use Rattle.scp.specs.Partitions.{mappings_of}
use Rattle.std.specs.Option.{option_map}
use Rattle.optplan_search.specs.Findings.{plain, IsOwnFinding}
use Rattle.optplan_solver.specs.ThreadedSearches.{EndsIn, stops_in}
use Rattle.scp_orders.specs.Orders.{IsOrder, AreOrders}
use Rattle.optplan_solver.specs.Stages.{IsStageFound}
use Rattle.optplan_options.specs.declared.options.Tables.TheVariants.{Staged}
use Rattle.optplan_solver.proofs.KnownByStages.{HaveEnded, none_ended, one_more_ended, found_after_stages, found_in_stage}
use Rattle.optplan_solver.proofs.stages.found_by_stages.Goals as goal

-- before the first stage
no_orders : (task : FiniteDomainTask) → AreOrders task []
no_orders task = record { each = All-nil (IsOrder task); few = omega arith }

pub returns-in-Answered-clause-found : goal.returns-in-Answered-clause-found
returns-in-Answered-clause-found g c =
    let options = c.args.options.now in
    let may_stop = g.G.Gate.may_stop c.args.gate.now in
    let task = c.args.task.now in
    let wanted = option_map plain c.args.wanted.now in
    let few : c.loop-stage.stage ≤ 3 = omega arith in
    subst (IsOwnFinding task wanted (EndsIn Staged options may_stop task)) (sym c.with_known.ensures)
    (found_after_stages options may_stop task wanted c.loop-stage.stage c.loop-stage.known c.in-Answered.found few c.loop-stage.invariant.0
    (found_in_stage options may_stop task wanted true c.in-Answered.found
    (subst (IsStageFound options (stops_in true may_stop) task wanted) c.in-Answered.is c.in_ok-found.ensures.found)))

pub loop-stage-init : goal.loop-stage-init
loop-stage-init g c =
    let task = c.args.task.now in (
      none_ended c.args.options.now (g.G.Gate.may_stop c.args.gate.now) task (option_map plain c.args.wanted.now),
      subst (λ (orders : List (Vec KeptMapping Global)). AreOrders task (map mappings_of orders)) (sym c.new-orders.ensures.items) (no_orders task),
    )

pub loop-stage-preserved : goal.loop-stage-preserved
loop-stage-preserved g c =
    let options = c.args.options.now in
    let may_stop = g.G.Gate.may_stop c.args.gate.now in
    let task = c.args.task.now in
    let wanted = option_map plain c.args.wanted.now in
    let ended = subst (IsStageFound options (stops_in true may_stop) task wanted) c.in-Ended.is c.in_ok-found.ensures.found in (
      subst (HaveEnded options may_stop task wanted (c.loop-stage.stage + 1)) (sym c.better_known-known.ensures)
          (one_more_ended options may_stop task wanted c.loop-stage.stage c.loop-stage.known c.in-Ended.now c.in-Ended.of_stage c.loop-stage.invariant.0 ended),
      ended.3.are,
    )

pub returns-clause-found : goal.returns-clause-found
returns-clause-found g c =
    let options = c.args.options.now in
    let may_stop = g.G.Gate.may_stop c.args.gate.now in
    let task = c.args.task.now in
    let wanted = option_map plain c.args.wanted.now in
    let few : c.loop-stage.stage ≤ 3 = omega arith in
    subst (IsOwnFinding task wanted (EndsIn Staged options may_stop task)) (sym c.with_known-2.ensures)
    (found_after_stages options may_stop task wanted c.loop-stage.stage c.loop-stage.known c.in_ok-found-2.found few c.loop-stage.invariant.0
    c.in_ok-found-2.ensures.found)
