use Rattle.owner_theory.specs.Worlds.{world_start, world_run}
use Rattle.owner_theory.proofs.Worlds.{run_ok, lawful}
use Rattle.owner_theory.proofs.laws.world_is_lawful.Goals as goal

pub returns : goal.returns
returns c = λ space ss ok. lawful space (world_run space (world_start space) ss) ok (run_ok space ss ok)
