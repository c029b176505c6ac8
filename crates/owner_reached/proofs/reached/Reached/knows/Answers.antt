use Rattle.std.proofs.Common.{List, ℕ, sym, ap, ◌∙◌, subst}
use Rattle.fdr.specs.Tasks.{ranges}
use Rattle.closed.specs.Tables.{outcome_of, fresh}
use Rattle.owner_reached.specs.Queues.{ReachedOf}
use Rattle.owner_reached.proofs.reached.Reached.knows.Goals as goal

pub returns-clause-form : goal.returns-clause-form
returns-clause-form g c known =
    subst (λ (rs : List ℕ). g.F.StateForm.IsForm rs c.args.form.now)
    (c.self.invariant.0 ∙ ap (λ (r : ReachedOf g.row.S.Denot). ranges r.space.task) c.self.view_is) (c.knows.ensures.known known).0

pub returns-clause-known : goal.returns-clause-known
returns-clause-known g c known parent =
    let same = c.self.invariant.0 ∙ ap (λ (r : ReachedOf g.row.S.Denot). ranges r.space.task) c.self.view_is in
    sym (λ j. outcome_of ((c.self.view_is j).nodes) (fresh (g.F.StateForm.values (same j) c.args.form.now) c.args.rank parent))
    ∙ (c.knows.ensures.known known).1 parent

pub returns-clause-unknown : goal.returns-clause-unknown
returns-clause-unknown g c unknown form parent kept =
    let same = c.self.invariant.0 ∙ ap (λ (r : ReachedOf g.row.S.Denot). ranges r.space.task) c.self.view_is in
    c.knows.ensures.unknown unknown (subst (λ (rs : List ℕ). g.F.StateForm.IsForm rs c.args.form.now) (sym same) form) parent
    ((λ j. outcome_of ((c.self.view_is j).nodes) (fresh (g.F.StateForm.values (same j) c.args.form.now) c.args.rank parent)) ∙ kept)
