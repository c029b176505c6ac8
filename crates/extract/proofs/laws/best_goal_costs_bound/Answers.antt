use Rattle.extract.proofs.Families.{best_cost}
use Rattle.extract.proofs.laws.best_goal_costs_bound.Goals as goal

pub returns : goal.returns
returns g c = λ e family v i cost ok form ends best settled. (best.0, best.1, best_cost g.S.Spread.owner e family ends ok v i cost best settled)
