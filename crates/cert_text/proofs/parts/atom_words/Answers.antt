use Rattle.std.proofs.Common.{sym, ◌∙◌}
use Rattle.cert_text.proofs.AtomLaws.{word_is_text}
use Rattle.cert_text.proofs.parts.atom_words.Goals as goal

pub returns-in-Err : goal.returns-in-Err
returns-in-Err c = absurd (c.in-Err.ensures.cases.0 (word_is_text c.in-Some.word.now (sym c.is_atom_word.ensures ∙ c.if-not-is_atom_word.false)))
