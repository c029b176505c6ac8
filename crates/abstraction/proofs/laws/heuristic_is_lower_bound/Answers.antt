use Rattle.abstraction.proofs.Bounds.{heuristic_lower}
use Rattle.abstraction.proofs.laws.heuristic_is_lower_bound.Goals as goal

pub returns : goal.returns
returns c task columns s plan well ok state leads = heuristic_lower task well columns ok plan s state leads
