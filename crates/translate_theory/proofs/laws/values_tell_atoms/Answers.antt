use Rattle.translate_theory.proofs.Bounding.{value_tells}
use Rattle.translate_theory.proofs.laws.values_tell_atoms.Goals as goal

pub returns : goal.returns
returns c = value_tells
