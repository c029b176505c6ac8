use Rattle.sasfile_reader.proofs.Texts.{text_is_utf8}
use Rattle.sasfile_reader.proofs.line_forms.text_line.Goals as goal
use Rattle.std.proofs.Common.{sym, ◌∙◌}

pub returns-in-Err-clause-line : goal.returns-in-Err-clause-line
returns-in-Err-clause-line c = absurd (c.in-Err.ensures.cases.0 (text_is_utf8 c.in_ok-line.line.now (sym c.is_text.ensures ∙ c.if-not-is_text.false)))
