use Rattle.translate_assembly.proofs.SlotLaws.{look_up_is}
use Rattle.translate_assembly.proofs.table.Table.new.Goals as goal

pub returns : goal.returns
returns c = look_up_is c.args.atoms.now c.as_slice-count.ensures.distinct c.args.variables.now c.requires.within c.in_ok-slots.slots.items c.in_ok-slots.ensures
