use Rattle.std.proofs.Common.{◌≡◌, length, take}
use Rattle.translate_theory.specs.Variables.{variables_at}
use Rattle.translate_vars.specs.Faults.{AreInOrder}
use Rattle.translate_vars.specs.Flags.{Tell}
use Rattle.translate_vars.proofs.OrderLaws.{are_in}
use Rattle.translate_vars.proofs.covering.check_each.Given as goal

abbrev pub invariant-loop-number : goal.invariant-loop-number
invariant-loop-number l = record {
  count : length l.taken.items ≡ length l.index.atoms;
  in_order : AreInOrder l.index.task l.index.actions (variables_at l.index.atoms l.variables) l.number;
  told : Tell l.index.atoms (are_in (take l.number (variables_at l.index.atoms l.variables))) l.taken.items;
}
