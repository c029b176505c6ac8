use Rattle.pddl_layout.proofs.SpelledTokens.{tree_tokens}
use Rattle.pddl_layout.proofs.laws.texts_have_the_tokens_of_their_trees.Goals as goal

pub returns : goal.returns
returns c = tree_tokens
