use Rattle.std.proofs.Common.{ap, sym, ◌∙◌}
use Rattle.pddl_task.specs.Atoms.{State}
use Rattle.validate.specs.States.{holds_in}
use Rattle.validate.specs.Validation.{with_all}
use Rattle.validate.proofs.StateLaws.{with_all_next, with_all_end, with_all_of_none}
use Rattle.validate.proofs.state.AtomSet.of.Goals as goal

pub loop-atom-init : goal.loop-atom-init
loop-atom-init c = ap (λ (s : State). with_all s c.args.atoms.now) c.new-set.ensures

pub loop-atom-preserved : goal.loop-atom-preserved
loop-atom-preserved c =
    with_all_next (holds_in c.loop-atom.set) (holds_in c.add.new.self) c.args.atoms.now c.loop-atom.atom-index c.atom-item.result c.in_ok-try_clone.field-0
    c.loop-atom-test.true c.atom-item.is c.in_ok-try_clone.ensures c.in_ok-add.ensures
    ∙ c.loop-atom.invariant

pub returns : goal.returns
returns c =
    sym (with_all_end (holds_in c.loop-atom.set) c.args.atoms.now c.loop-atom.atom-index c.loop-atom-test.false)
    ∙ c.loop-atom.invariant ∙ with_all_of_none c.args.atoms.now
