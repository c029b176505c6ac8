use Rattle.std.proofs.Common.{sym}
use Rattle.std.proofs.lemmas.Result.{IfErr-weaker}
use Rattle.optplan_solver.specs.ThreadedSearches.{IsRefusedIn, IsRefusedByThreads}
use Rattle.optplan_solver.proofs.SearchedTasks.{itself, refused_by_threads}
use Rattle.optplan_solver.proofs.reducing.found_by_threads.Goals as goal

pub returns-clause-refused : goal.returns-clause-refused
returns-clause-refused g c =
    let options = c.args.options.now in
    let may_stop = g.G.Gate.may_stop c.args.gate.now in
    let task = c.args.task.now in
    IfErr-weaker c.found_without_reduction.result (IsRefusedIn options may_stop task) (IsRefusedByThreads options may_stop task)
    (refused_by_threads options may_stop task task (itself options may_stop task (sym c.if-reduction.ensures))) c.found_without_reduction.ensures.refused
