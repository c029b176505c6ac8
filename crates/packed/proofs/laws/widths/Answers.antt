use Rattle.packed.proofs.Digits.{width_enough, width_no_more}
use Rattle.packed.proofs.laws.widths.Goals as goal

pub returns-clause-enough : goal.returns-clause-enough
returns-clause-enough c = width_enough

pub returns-clause-no_more : goal.returns-clause-no_more
returns-clause-no_more c = width_no_more
