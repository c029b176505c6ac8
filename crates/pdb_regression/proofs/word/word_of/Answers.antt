use Rattle.std.proofs.Common.{sym}
use Rattle.pdb_regression.proofs.WordLaws.{word_plain}
use Rattle.pdb_regression.proofs.word.word_of.Goals as goal

pub returns-then-plain-clause-word : goal.returns-then-plain-clause-word
returns-then-plain-clause-word c = sym (word_plain c.args.digits.now c.args.abstract_state c.requires.digits (c.requires.plain c.if-plain.true) c.requires.state)
