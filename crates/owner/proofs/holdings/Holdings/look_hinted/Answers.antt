use Rattle.std.proofs.Common.{sym, ap, ◌∙◌, subst}
use Rattle.fdr.specs.Tasks.{ranges}
use Rattle.closed.specs.Tables.{outcome_of, fresh}
use Rattle.owner.specs.Owned.{OwnerOf}
use Rattle.owner.proofs.holdings.Holdings.look_hinted.Goals as goal

pub look_hinted-requires-clause-form : goal.look_hinted-requires-clause-form
look_hinted-requires-clause-form g c =
    subst (λ (o : OwnerOf g.row.S.Denot). g.F.StateForm.IsForm (ranges o.space.task) c.args.form.now) (sym c.self.view_is) c.requires.form

pub returns : goal.returns
returns g c = λ parent.
    c.look_hinted.ensures parent
    ∙ ap (λ (o : OwnerOf g.row.S.Denot). outcome_of o.nodes (fresh (g.F.StateForm.values (ranges o.space.task) c.args.form.now) c.args.rank parent))
    c.self.view_is
