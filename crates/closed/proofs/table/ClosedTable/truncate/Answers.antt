use Rattle.std.proofs.Common.{List, take, sym, ap, ◌∙◌}
use Rattle.std.proofs.lemmas.List.{take-map}
use Rattle.closed.specs.declared.small_entry.SmallEntry.{SmallEntry}
use Rattle.closed.specs.Tables.{Table, node_with}
use Rattle.closed.specs.Entries.{entry_in, nodes_of, ever_of}
use Rattle.closed.proofs.table.ClosedTable.truncate.Goals as goal

pub returns-clause-nodes : goal.returns-clause-nodes
returns-clause-nodes g c =
    let values = g.F.StateForm.values c.self.inside.layout in
    ap (λ (es : List (g.row.F.Denot × SmallEntry)). nodes_of values es) c.truncate.ensures
    ∙ sym
    (take-map (λ (p : g.row.F.Denot × SmallEntry). node_with (values p.0) (entry_in p.1)) c.args.len c.self.inside.rows)
    ∙ ap (λ (t : Table). take c.args.len t.nodes) c.self.view_is

pub returns-clause-ever : goal.returns-clause-ever
returns-clause-ever g c =
    ap (λ (es : List (g.row.F.Denot × SmallEntry)). ever_of es) c.truncate.ensures
    ∙ sym (take-map (λ (p : g.row.F.Denot × SmallEntry). p.1.ever) c.args.len c.self.inside.rows)
    ∙ ap (λ (t : Table). take c.args.len t.ever) c.self.view_is
