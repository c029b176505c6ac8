use Rattle.std.proofs.Common.{sym, subst, ◌∙◌}
use Rattle.std.specs.Prelude.{IfOk}
use Rattle.std.proofs.lemmas.Result.{IfOk-weaker}
use Rattle.std.specs.Option.{option_map}
use Rattle.optplan_search.specs.Findings.{plain, IsOwnFinding}
use Rattle.optplan_solver.specs.ThreadedSearches.{EndsIn}
use Rattle.optplan_solver.specs.Stages.{IsSearchFound}
use Rattle.optplan_options.specs.declared.options.Tables.{Tables}
use Rattle.optplan_options.specs.declared.options.Tables.TheVariants.{Goal}
use Rattle.optplan_solver.proofs.KnownByStages.{found_alone as as_one_search}
use Rattle.optplan_solver.proofs.stages.found_without_reduction.Goals as goal

pub returns-in-Goal-clause-found : goal.returns-in-Goal-clause-found
returns-in-Goal-clause-found g c =
    let options = c.args.options.now in
    let may_stop = g.G.Gate.may_stop c.args.gate.now in
    let task = c.args.task.now in
    let wanted = option_map plain c.args.wanted.now in
    subst (λ (t : Tables). IfOk c.found_alone.result (IsOwnFinding task wanted (EndsIn t options may_stop task))) (sym (sym c.tables.ensures ∙ c.in-Goal.is))
    (IfOk-weaker c.found_alone.result (IsSearchFound options may_stop task wanted) (IsOwnFinding task wanted (EndsIn Goal options may_stop task))
    (as_one_search options may_stop task wanted) c.found_alone.ensures.found)

pub returns-in-Staged-clause-found : goal.returns-in-Staged-clause-found
returns-in-Staged-clause-found g c =
    let options = c.args.options.now in
    let may_stop = g.G.Gate.may_stop c.args.gate.now in
    let task = c.args.task.now in
    let wanted = option_map plain c.args.wanted.now in
    subst (λ (t : Tables). IfOk c.found_by_stages.result (IsOwnFinding task wanted (EndsIn t options may_stop task))) (sym (sym c.tables.ensures ∙ c.in-Staged.is))
    c.found_by_stages.ensures.found
