use Rattle.std.proofs.Common.{ap, arith, rules}
use Rattle.std.proofs.lemmas.List.{take_all}
use Rattle.cert_text.specs.Reading.{first_of, line_at}
use Rattle.cert_text.proofs.PieceLaws.{split_whole, split_first, first_line}
use Rattle.cert_text.proofs.lines.Lines.first.Goals as goal

pub returns-in-empty : goal.returns-in-empty
unfolding line_at
returns-in-empty c =
    ap (first_of c.args.self.number) (split_whole 10 c.args.self.rest.now c.split_at.result.0.now c.split_at.result.1.now c.piece_length.result c.piece_length.ensures.within c.piece_length.ensures.before c.split_at.ensures.front c.split_at.ensures.back_len (omega arith))

pub returns-in-len1-up : goal.returns-in-len1-up
unfolding line_at
returns-in-len1-up c =
    first_line c.args.self.number c.args.self.rest.now c.split_at.result.0.now _
    (split_first 10 c.args.self.rest.now c.split_at.result.0.now c.split_at.result.1.now _ c.piece_length.result c.piece_length.ensures.before c.piece_length.ensures.found c.split_at.ensures.front c.split_at.ensures.back c.split_at.ensures.back_len (omega arith) (take_all _ _ (search rules)))
