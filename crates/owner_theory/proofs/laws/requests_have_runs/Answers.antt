use Rattle.owner_theory.specs.Worlds.{world_start}
use Rattle.owner_theory.proofs.Requests.{all_asked}
use Rattle.owner_theory.proofs.laws.requests_have_runs.Goals as goal

pub returns : goal.returns
returns c = λ space requests. all_asked space (world_start space) requests
