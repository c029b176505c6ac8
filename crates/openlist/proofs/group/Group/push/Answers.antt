use Rattle.std.proofs.Common.{sym, ◌∙◌}
use Rattle.openlist.proofs.Ascending.{pushed_back}
use Rattle.openlist.proofs.group.Group.push.Goals as goal

pub returns-then-fits_at_back-clause-pushed : goal.returns-then-fits_at_back-clause-pushed
returns-then-fits_at_back-clause-pushed c = λ yes.
    rw (← c.self.view_is)
    (pushed_back _ c.args.lower _ _ c.push_back.ensures.items (sym c.is_ok.ensures.value ∙ yes))
