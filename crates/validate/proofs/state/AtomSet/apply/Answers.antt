use Rattle.std.proofs.Common.{◌∙◌, ap}
use Rattle.pddl_task.specs.Planning.{Action}
use Rattle.validate.specs.States.{holds_in}
use Rattle.validate.proofs.StateLaws.{applied}
use Rattle.validate.proofs.state.AtomSet.apply.Goals as goal

pub returns : goal.returns
returns c =
    applied c.add_all.result (holds_in c.args.self.now) (holds_in c.remove_all.new.self) (holds_in c.add_all.new.self)
    c.deref.result.now c.action.inside.adds.items c.args.action
    c.add_all.ensures c.remove_all.ensures
    (c.deref.ensures.value ∙ ap (λ (a : Action). a.deletes) c.action.view_is)
    (ap (λ (a : Action). a.adds) c.action.view_is)
