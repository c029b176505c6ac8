use Rattle.translate_theory.proofs.Bounding.{bound_forth, bound_back, none_forth, none_back}
use Rattle.translate_theory.proofs.laws.translation_has_same_bounds.Goals as goal

pub returns-clause-bound : goal.returns-clause-bound
returns-clause-bound c task atoms actions variables well listed all ok bound =
    (bound_forth task atoms actions variables well listed all ok bound, bound_back task atoms actions variables well listed all ok bound)

pub returns-clause-none : goal.returns-clause-none
returns-clause-none c task atoms actions variables well listed all ok =
    (none_forth task atoms actions variables well listed all ok, none_back task atoms actions variables well listed all ok)
