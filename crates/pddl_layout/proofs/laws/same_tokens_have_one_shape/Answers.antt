use Rattle.pddl_layout.proofs.TokenReading.{tokens_shape}
use Rattle.pddl_layout.proofs.SpelledTokens.{shape_tokens}
use Rattle.pddl_layout.proofs.laws.same_tokens_have_one_shape.Goals as goal

pub returns-clause-shape : goal.returns-clause-shape
returns-clause-shape c = tokens_shape

pub returns-clause-tokens : goal.returns-clause-tokens
returns-clause-tokens c = shape_tokens
