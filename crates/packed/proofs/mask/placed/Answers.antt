use Rattle.std.proofs.Common.{◌∙◌}
use Rattle.packed.proofs.Shifts.{value_placed}
use Rattle.packed.proofs.mask.placed.Goals as goal

pub returns : goal.returns
returns c =
    c.wrapping_shl.ensures
    ∙ value_placed c.args.value c.args.field.shift c.args.field.width c.requires.field.in_one_word c.requires.value
