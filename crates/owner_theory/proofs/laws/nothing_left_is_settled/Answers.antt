use Rattle.owner_theory.specs.Worlds.{world_start, world_run}
use Rattle.owner_theory.proofs.Worlds.{run_ok, count_zero}
use Rattle.owner_theory.proofs.laws.nothing_left_is_settled.Goals as goal

pub returns : goal.returns
returns c = λ space ss ok none. count_zero space (world_run space (world_start space) ss) ok (run_ok space ss ok) none
