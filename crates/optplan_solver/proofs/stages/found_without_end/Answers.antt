use Rattle.std.proofs.Common.{Bool, false, is_some, subst}
use Rattle.std.specs.Option.{option_map}
use Rattle.optplan_search.specs.Findings.{plain}
use Rattle.optplan_solver.specs.ThreadedSearches.{stops_in}
use Rattle.optplan_solver.specs.Stages.{IsStageFound}
use Rattle.optplan_solver.specs.declared.stages.StageFound.TheVariants.{Answered}
use Rattle.optplan_solver.proofs.KnownByStages.{found_in_stage}
use Rattle.optplan_solver.proofs.stages.found_without_end.Goals as goal

pub returns-clause-found : goal.returns-clause-found
returns-clause-found g c =
    let options = c.args.options.now in
    let may_stop = g.G.Gate.may_stop c.args.gate.now in
    let task = c.args.task.now in
    let wanted = option_map plain c.args.wanted.now in
    let gate = c.new-gate.result in
    found_in_stage options may_stop task wanted false c.in-Answered.found
    (subst (λ (has_end : Bool). IsStageFound options (stops_in has_end may_stop) task wanted (Answered c.in-Answered.found)) c.new-gate.ensures.end
    (subst (λ (callers : g.row.G.Denot). IsStageFound options (stops_in (is_some gate.share) (g.G.Gate.may_stop callers)) task wanted (Answered c.in-Answered.found))
    c.new-gate.ensures.gate
    (subst (IsStageFound options (stops_in (is_some gate.share) (g.G.Gate.may_stop gate.gate.now)) task wanted) c.in-Answered.is c.in_ok-found.ensures.found)))
