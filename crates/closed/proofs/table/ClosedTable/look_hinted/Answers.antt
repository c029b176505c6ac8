use Rattle.std.proofs.Common.{sym, ap, subst, ◌∙◌}
use Rattle.closed.specs.Tables.{Table, fresh, outcome_of}
use Rattle.closed.proofs.table.ClosedTable.look_hinted.Goals as goal

pub returns : goal.returns
returns g c parent =
    c.outcome_among.ensures.outcome c.self.inside.layout parent
    (subst (λ (t : Table). g.F.StateForm.IsForm t.ranges c.args.form.now) (sym c.self.view_is) c.requires.form) c.self.invariant.keys
    ∙ ap (λ (t : Table). outcome_of t.nodes (fresh (g.F.StateForm.values t.ranges c.args.form.now) c.args.rank parent)) c.self.view_is
