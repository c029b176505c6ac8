use Rattle.std.proofs.Common.{ap, ◌∙◌, ◌-◌, arith}
use Rattle.std.specs.Int.Count.{count_leading_zeros}
use Rattle.packed.proofs.Digits.{width_from_zeros}
use Rattle.packed.proofs.field.width_of.Goals as goal

pub returns : goal.returns
returns c =
    ap (λ n. 64 - count_leading_zeros 64 n) c.saturating_sub.ensures ∙ width_from_zeros c.args.range (omega (arith, c.ranges.range.fits))
