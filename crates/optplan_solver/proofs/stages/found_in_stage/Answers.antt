use Rattle.std.proofs.Common.{Bool, is_some, subst}
use Rattle.std.specs.Prelude.{IfOk}
use Rattle.std.specs.Option.{option_map}
use Rattle.optplan_search.specs.Findings.{plain}
use Rattle.optplan_solver.specs.ThreadedSearches.{stops_in}
use Rattle.optplan_solver.specs.Stages.{IsStageFound}
use Rattle.optplan_solver.proofs.stages.found_in_stage.Goals as goal

pub returns-clause-found : goal.returns-clause-found
returns-clause-found g c =
    let options = c.args.options.now in
    let task = c.args.task.now in
    let wanted = option_map plain c.args.wanted.now in
    let gate = c.new-stage_gate.result in
    subst
    (λ (has_end : Bool). IfOk c.found_with.result (IsStageFound options (stops_in has_end (g.G.Gate.may_stop c.args.gate.now)) task wanted))
    c.new-stage_gate.ensures.end
    (subst
    (λ (callers : g.row.G.Denot). IfOk c.found_with.result (IsStageFound options (stops_in (is_some gate.share) (g.G.Gate.may_stop callers)) task wanted))
    c.new-stage_gate.ensures.gate c.found_with.ensures.found)
