use Rattle.std.proofs.Common.{◌≡◌, drop}
use Rattle.packed.specs.Masks.{masked}
use Rattle.packed.proofs.bits.Bits.apply.Given as goal

abbrev pub invariant-loop-mask : goal.invariant-loop-mask
invariant-loop-mask g l = masked (drop l.mask-index l.masks) l.self.words ≡ masked l.masks l.fn.self.words
