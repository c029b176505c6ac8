use Rattle.std.proofs.Common.{◌≡◌, sym, ap, ◌∙◌, subst}
use Rattle.fdr.specs.Tasks.{ranges}
use Rattle.owner_theory.specs.Owners.{took}
use Rattle.closed.specs.Tables.{message_of}
use Rattle.owner_space.specs.Spaces.{SpaceOf}
use Rattle.owner.specs.Owned.{OwnerOf, space_of, under, IsMessageTo}
use Rattle.owner.proofs.owner.Owner.take.Goals as goal
use Rattle.owner.proofs.owner.Owner.take.Goals.{in-Ok, in-Err}

pub take_form-requires-clause-fits : goal.take_form-requires-clause-fits
take_form-requires-clause-fits g c =
    subst (λ (o : OwnerOf g.row.S.Denot). IsMessageTo (space_of g.S.Spread.owner o) o.worker
    (message_of (g.F.StateForm.values (ranges o.space.task)) c.args.message)) (sym c.self.view_is) c.requires

pub take_form-requires-clause-values : goal.take_form-requires-clause-values
take_form-requires-clause-values g c =
    sym (c.deref.ensures.value ∙ (c.unpack.ensures
    ∙ ap (λ rs. g.F.StateForm.values rs c.args.message.state)
    (c.layout.ensures ∙ ap (λ (s : SpaceOf g.row.S.Denot). ranges s.task) c.space.ensures)))

pub returns-clause-taken : goal.returns-clause-taken
returns-clause-taken g c =
    let h = c.self.inside.holdings in
    elim c.match-take_form.branch [
      | in-Ok w ↦ rw w.result-is (λ bound.
          w.in-Ok.ensures.taken bound
          ∙ ap (λ (o : OwnerOf g.row.S.Denot). took (space_of g.S.Spread.owner o) (under o bound)
          (message_of (g.F.StateForm.values (ranges o.space.task)) c.args.message)) c.self.view_is)
      | in-Err w ↦ rw w.result-is tt
    ]
