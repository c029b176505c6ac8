use Rattle.std.proofs.Common.{◌∙◌}
use Rattle.validate.specs.States.{holds_in}
use Rattle.validate.proofs.StateLaws.{without_all_next}
use Rattle.validate.proofs.state.AtomSet.remove_all.Goals as goal

pub loop-atom-preserved : goal.loop-atom-preserved
loop-atom-preserved c =
    without_all_next (holds_in c.loop-atom.self) (holds_in c.remove.new.self) c.args.atoms.now c.loop-atom.atom-index c.atom-item.result
    c.loop-atom-test.true c.atom-item.is c.remove.ensures
    ∙ c.loop-atom.invariant
