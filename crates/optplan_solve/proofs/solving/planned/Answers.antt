use Rattle.std.proofs.Common.{refl}
use Rattle.std.proofs.lemmas.Result.{err_from_is_err_and}
use Rattle.optplan_pddl.proofs.Answering.{search_refused}
use Rattle.optplan_search.specs.declared.fault.SearchFault.TheVariants.{OutOfMemory}
use Rattle.optplan_solve.specs.Schedules.{IsRefusedBy}
use Rattle.optplan_solve.proofs.Refusals.{memory_refused}
use Rattle.optplan_solve.proofs.solving.planned.Goals as goal

pub returns-in_err-watcher-in-Threads-clause-refused : goal.returns-in_err-watcher-in-Threads-clause-refused
returns-in_err-watcher-in-Threads-clause-refused g c = λ domain problem prepared.
    let p = err_from_is_err_and c.from_residual.result c.from_residual.ensures.1 in
    rw (p.1, p.2)
    (search_refused c.args.settings.now.options.certificate domain problem c.args.prepared prepared c.args.prepared.translated.task refl
    (IsRefusedBy c.args.settings.now.options c.args.settings.now.schedule) OutOfMemory
    (memory_refused c.args.settings.now.options c.args.settings.now.schedule c.args.prepared.translated.task))

pub returns-in_ok-watcher-in-Threads-clause-answer : goal.returns-in_ok-watcher-in-Threads-clause-answer
returns-in_ok-watcher-in-Threads-clause-answer g c = λ domain problem prepared.
    rw c.in-Threads.is (rw (← c.in_ok-watcher-in-Threads.ensures) (c.solve.ensures.answer c.args.settings.now.options.certificate domain problem prepared))

pub returns-in_ok-watcher-in-Threads-clause-refused : goal.returns-in_ok-watcher-in-Threads-clause-refused
returns-in_ok-watcher-in-Threads-clause-refused g c = λ domain problem prepared.
    rw c.in-Threads.is (rw (← c.in_ok-watcher-in-Threads.ensures) (c.solve.ensures.refused c.args.settings.now.options.certificate domain problem prepared))

pub returns-in-Drawn-clause-refused : goal.returns-in-Drawn-clause-refused
returns-in-Drawn-clause-refused g c = λ domain problem prepared.
    rw c.in-Drawn.is (c.simulate.ensures.refused c.args.settings.now.options.certificate domain problem prepared)
