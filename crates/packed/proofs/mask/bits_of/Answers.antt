use Rattle.std.proofs.Common.{◌∙◌}
use Rattle.packed.proofs.Shifts.{field_bits}
use Rattle.packed.proofs.mask.bits_of.Goals as goal

pub returns : goal.returns
returns c = c.wrapping_shl.ensures ∙ field_bits c.args.field.shift c.args.field.width c.requires.in_one_word c.requires.narrow
