use Rattle.std.proofs.Common.{◌∙◌, ◌≡◌}
use Rattle.std.specs.Prelude.{slice_get}
use Rattle.mutex_index.specs.Groups.{is_excluded}
use Rattle.mutex_index.proofs.TestLaws.{excluded_is, if_some}
use Rattle.mutex_index.proofs.index.ActionIndex.is_excluded.Goals as goal

pub returns : goal.returns
returns c =
    rw (← c.self.view_is)
    (if_some (slice_get c.self.inside.atoms.now c.args.place) (λ x. c.is_excluded.result ≡ is_excluded c.self.inside.task.now c.self.inside.actions.now x)
    (λ x e. c.is_excluded.ensures
    ∙ excluded_is c.self.inside.task.now c.self.inside.atoms.now c.self.inside.actions.now c.self.inside.tables c.self.invariant c.args.place x e))
