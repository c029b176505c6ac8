use Rattle.reduction.proofs.Exact.{reduction_exact, cheapest_plan}
use Rattle.reduction.proofs.laws.reduction_is_exact.Goals as goal

pub returns-clause-exact : goal.returns-clause-exact
returns-clause-exact c task classes retained well is = reduction_exact task classes retained well is

pub returns-clause-cheapest : goal.returns-clause-cheapest
returns-clause-cheapest c task classes retained plan well is leads least = cheapest_plan task classes retained plan well is leads least
