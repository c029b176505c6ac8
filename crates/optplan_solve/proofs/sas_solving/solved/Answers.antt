use Rattle.optplan_solve.proofs.sas_solving.solved.Goals as goal

pub returns-in_ok-watcher-in-Threads-clause-answer : goal.returns-in_ok-watcher-in-Threads-clause-answer
returns-in_ok-watcher-in-Threads-clause-answer g c = λ sas spells.
    rw c.in-Threads.is (rw (← c.in_ok-watcher-in-Threads.ensures) (c.solve_task.ensures.answer sas spells))
