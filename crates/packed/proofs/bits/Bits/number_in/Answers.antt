use Rattle.std.proofs.Common.{◌∙◌, ◌-◌, ◌*◌, ◌%◌, ◌^◌, ap, bit_and, arith}
use Rattle.std.specs.Prelude.{slice_index}
use Rattle.packed.proofs.Shifts.{shifted_down}
use Rattle.packed.proofs.bits.Bits.number_in.Goals as goal

pub returns : goal.returns
returns g c =
    ap (λ n. bit_and n ((1 * 2 ^ c.args.field.width) % 2 ^ 64 - 1)) c.wrapping_shr.ensures
    ∙ shifted_down (slice_index c.args.self.now.words c.args.field.word) c.args.field.shift c.args.field.width
    c.requires.in_one_word (omega (arith, c.requires.narrow))
