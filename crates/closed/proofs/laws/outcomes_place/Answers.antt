use Rattle.closed.proofs.Reached.{slice_get-reached-New, slice_get-reached-Better}
use Rattle.closed.proofs.laws.outcomes_place.Goals as goal

pub returns-clause-new : goal.returns-clause-new
returns-clause-new c = slice_get-reached-New

pub returns-clause-better : goal.returns-clause-better
returns-clause-better c = slice_get-reached-Better
