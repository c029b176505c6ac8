use Rattle.cert_text.proofs.PieceLaws.{nothing_is}
use Rattle.cert_text.proofs.lines.Lines.is_empty.Goals as goal

pub returns : goal.returns
returns c = nothing_is c.args.self.rest.now c.is_empty.result c.is_empty.ensures
