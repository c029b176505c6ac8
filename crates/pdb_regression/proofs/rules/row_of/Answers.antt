use Rattle.std.proofs.Common.{List, ◌∙◌, arith}
use Rattle.std.proofs.lemmas.List.{take_all}
use Rattle.abstraction_groups.specs.declared.change.DigitChange.{DigitChange}
use Rattle.abstraction_groups.specs.Changes.{at_digits}
use Rattle.abstraction_groups.proofs.RowSums.{length-at_digits}
use Rattle.pdb_regression.proofs.TransitionLaws.{row_more}
use Rattle.pdb_regression.proofs.rules.row_of.Goals as goal

pub loop-place-preserved : goal.loop-place-preserved
loop-place-preserved c = row_more c.args.digits.now c.args.changes.now c.loop-place.place _ _ c.loop-place.row.items c.push.new.self.items c.requires (omega arith) c.loop-place.invariant c.in_ok-push.ensures.items

pub returns : goal.returns
returns c =
    let row : List DigitChange = at_digits c.args.digits.now c.args.changes.now in
    c.loop-place.invariant ∙ take_all c.loop-place.place row (omega (arith, c.loop-place-test.false, length-at_digits c.args.digits.now c.args.changes.now c.requires))
