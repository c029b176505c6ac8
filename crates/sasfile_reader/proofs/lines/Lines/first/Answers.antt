use Rattle.std.proofs.Common.{sym, ◌∙◌}
use Rattle.sasfile_reader.proofs.Cuts.{line_none, line_first}
use Rattle.sasfile_reader.proofs.lines.Lines.first.Goals as goal

pub returns-then-is_empty-clause-line : goal.returns-then-is_empty-clause-line
returns-then-is_empty-clause-line c = line_none c.args.self.number c.args.self.rest.now (sym c.is_empty.ensures ∙ c.if-is_empty.true)

pub returns-clause-line : goal.returns-clause-line
returns-clause-line c = line_first c.args.self.number c.args.self.rest.now c.first_piece.result.0.now c.first_piece.result.1.now c.trimmed.result.now c.trimmed.ensures c.first_piece.ensures.pieces
