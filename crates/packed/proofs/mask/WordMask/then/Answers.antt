use Rattle.packed.proofs.MaskBits.{two_masks}
use Rattle.packed.proofs.mask.WordMask.then.Goals as goal

pub returns-clause-same : goal.returns-clause-same
returns-clause-same c = λ word. two_masks word c.args.self.keep c.args.self.set c.args.next.keep c.args.next.set
