use Rattle.std.proofs.Common.{refl}
use Rattle.rand_core.specs.Steps.{first_words}
use Rattle.packed_spread.proofs.laws.worked_examples.Goals as goal

pub returns-clause-words : goal.returns-clause-words
unfolding first_words
returns-clause-words c = refl

pub returns-clause-first : goal.returns-clause-first
unfolding first_words
returns-clause-first c = refl

pub returns-clause-last : goal.returns-clause-last
unfolding first_words
returns-clause-last c = refl
