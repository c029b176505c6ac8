use Rattle.std.proofs.Common.{◌≡◌, Some, slice_get, sym, ap, ◌∙◌, subst}
use Rattle.closed.specs.declared.table.Entry.{Entry}
use Rattle.closed.specs.Tables.{Table, node_with}
use Rattle.closed.proofs.Entries.{node_at-value}
use Rattle.closed.proofs.table.ClosedTable.entry.Goals as goal

pub returns : goal.returns
returns g c n there =
    node_at-value (g.F.StateForm.values c.self.inside.layout) c.self.inside.rows c.args.index c.entry.result n c.entry.ensures
    (subst (λ (t : Table). slice_get t.nodes c.args.index ≡ Some n) (sym c.self.view_is) there)
    ∙ ap (λ (e : Entry). node_with n.state e) (sym c.entry-2.ensures)
