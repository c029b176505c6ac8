use Rattle.std.proofs.Common.{◌∙◌, ◌<◌, length}
use Rattle.pddl_task.proofs.Lists.{all_mem}
use Rattle.mutex_index.proofs.TestLaws.{usable_is}
use Rattle.mutex_index.proofs.index.ActionIndex.is_usable.Goals as goal

pub returns : goal.returns
returns c =
    let within = rw (← c.self.view_is) at c.requires.within in
    rw (← c.self.view_is)
    (c.is_usable.ensures
    ∙ usable_is c.self.inside.task.now c.self.inside.atoms.now c.self.inside.actions.now c.self.inside.tables c.self.invariant c.args.places.now
    (λ p m. all_mem (λ q. q < length c.self.inside.atoms.now) c.args.places.now p within m) c.requires.rising)
