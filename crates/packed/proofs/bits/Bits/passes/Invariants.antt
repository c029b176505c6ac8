use Rattle.std.proofs.Common.{◌≡◌, drop}
use Rattle.packed.specs.Masks.{pass_all}
use Rattle.packed.proofs.bits.Bits.passes.Given as goal

abbrev pub invariant-loop-test : goal.invariant-loop-test
invariant-loop-test g l = pass_all (drop l.test-index l.tests) l.self.words ≡ pass_all l.tests l.self.words
