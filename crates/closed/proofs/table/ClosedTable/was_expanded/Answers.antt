use Rattle.std.proofs.Common.{Option, false, sym, ap, ◌∙◌}
use Rattle.std.specs.Option.{option_map_or}
use Rattle.closed.specs.declared.small_entry.SmallEntry.{SmallEntry}
use Rattle.closed.specs.Tables.{Table, was_expanded}
use Rattle.closed.proofs.Ever.{ever_at}
use Rattle.closed.proofs.table.ClosedTable.was_expanded.Goals as goal

pub returns-in-None : goal.returns-in-None
returns-in-None g c =
    ap (λ (r : Option (g.row.F.Denot × SmallEntry)). option_map_or (λ p. p.1.ever) r false) c.in-None.ensures
    ∙ (sym (ever_at c.self.inside.rows c.args.index)
    ∙ ap (λ (t : Table). was_expanded t.ever c.args.index) c.self.view_is)
