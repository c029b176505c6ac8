use Rattle.packed.proofs.MaskBits.{two_tests}
use Rattle.packed.proofs.mask.WordTest.and.Goals as goal

pub returns-then-value-other-clause-same : goal.returns-then-value-other-clause-same
returns-then-value-other-clause-same c = λ word.
    two_tests word c.args.self.mask c.args.self.value c.args.other.mask c.args.other.value c.if-value-self.true c.if-value-other.true
