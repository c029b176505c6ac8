use Rattle.owner_theory.proofs.Joins.{begins, acts, takes, misses, holds_out, pushes}
use Rattle.owner_theory.proofs.laws.worker_steps.Goals as goal

pub returns-clause-start : goal.returns-clause-start
returns-clause-start c = begins

pub returns-clause-act : goal.returns-clause-act
returns-clause-act c = acts

pub returns-clause-take : goal.returns-clause-take
returns-clause-take c = takes

pub returns-clause-miss : goal.returns-clause-miss
returns-clause-miss c = misses

pub returns-clause-hand_out : goal.returns-clause-hand_out
returns-clause-hand_out c = holds_out

pub returns-clause-push : goal.returns-clause-push
returns-clause-push c = pushes
