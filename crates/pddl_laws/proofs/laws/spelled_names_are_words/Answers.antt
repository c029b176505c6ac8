use Rattle.pddl_laws.proofs.WordNames.{spelled_words}
use Rattle.pddl_laws.proofs.laws.spelled_names_are_words.Goals as goal

pub returns : goal.returns
returns c = spelled_words
