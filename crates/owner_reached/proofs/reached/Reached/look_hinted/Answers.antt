use Rattle.std.proofs.Common.{ℕ, List, sym, ap, ◌∙◌, subst}
use Rattle.fdr.specs.Tasks.{ranges}
use Rattle.closed.specs.Tables.{outcome_of, fresh}
use Rattle.owner_reached.specs.Queues.{ReachedOf}
use Rattle.owner_reached.proofs.reached.Reached.look_hinted.Goals as goal

pub look_hinted-requires-clause-form : goal.look_hinted-requires-clause-form
look_hinted-requires-clause-form g c =
    subst (λ (rs : List ℕ). g.F.StateForm.IsForm rs c.args.form.now)
    (sym (c.self.invariant.0 ∙ ap (λ (r : ReachedOf g.row.S.Denot). ranges r.space.task) c.self.view_is)) c.requires.form

pub returns : goal.returns
returns g c = λ parent.
    let same = c.self.invariant.0 ∙ ap (λ (r : ReachedOf g.row.S.Denot). ranges r.space.task) c.self.view_is in
    c.look_hinted.ensures parent
    ∙ (λ j. outcome_of ((c.self.view_is j).nodes) (fresh (g.F.StateForm.values (same j) c.args.form.now) c.args.rank parent))
