use Rattle.cost.specs.Distances.{Finite}
use Rattle.optplan_solver.proofs.reducing.so_far_for_task.Goals as goal

pub returns-clause-known : goal.returns-clause-known
returns-clause-known c = λ wanted most is. record {
  least = (c.requires.reduction.exact.bounds (Finite c.args.known.bound)).0 is.least;
  certified = c.in_ok-certificate.ensures wanted (Finite c.args.known.bound) is.certified;
  best_is = c.in_ok-best.ensures most is.best_is;
}
