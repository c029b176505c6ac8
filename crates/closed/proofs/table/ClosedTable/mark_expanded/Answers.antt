use Rattle.std.proofs.Common.{Bool, true, List, ◌≡◌, Some, slice_get, slice_set, sym, ap, ◌∙◌, subst}
use Rattle.owner_theory.specs.Owners.{Node, marked}
use Rattle.closed.specs.declared.table.Entry.{Entry}
use Rattle.std.specs.Prelude.{All}
use Rattle.closed.specs.declared.small_entry.SmallEntry.{SmallEntry}
use Rattle.closed.specs.Tables.{Table, node_with}
use Rattle.closed.specs.Entries.{entry_in, nodes_of, ever_of}
use Rattle.closed.proofs.Entries.{nodes_of-set_entry_at, with_entry-at, node_at-value, All-set_entry_at}
use Rattle.closed.proofs.Ever.{ever_of-set_entry_at}
use Rattle.closed.proofs.table.ClosedTable.mark_expanded.Goals as goal

pub invariant_of-self : goal.invariant_of-self
invariant_of-self g c =
    record {
      fits = c.self.invariant.fits;
      keys = subst (λ (rs : List (g.row.F.Denot × SmallEntry)). All (λ p. g.F.StateForm.IsForm c.self.inside.layout p.0) rs) (sym c.set_entry.ensures)
          (All-set_entry_at (g.F.StateForm.IsForm c.self.inside.layout) c.self.inside.rows c.args.index c.expand.new.self c.self.invariant.keys);
      buffer = c.self.invariant.buffer;
    }

pub returns-clause-nodes : goal.returns-clause-nodes
returns-clause-nodes g c n at =
    let values = g.F.StateForm.values c.self.inside.layout in
    let entries = c.self.inside.rows in
    let nodes = nodes_of values entries in
    let here : slice_get nodes c.args.index ≡ Some n =
    subst (λ (t : Table). slice_get t.nodes c.args.index ≡ Some n) (sym c.self.view_is) at in
    let is = node_at-value values entries c.args.index c.entry-entry.result n c.entry-entry.ensures here in
    ap (λ (rs : List (g.row.F.Denot × SmallEntry)). nodes_of values rs) c.set_entry.ensures
    ∙ nodes_of-set_entry_at values entries c.args.index c.expand.new.self
    ∙ with_entry-at nodes c.args.index n (entry_in c.expand.new.self) here
    ∙ ap (λ (e : Entry). slice_set nodes c.args.index (node_with n.state e)) c.expand.ensures.entry
    ∙ ap (λ (x : Node). slice_set nodes c.args.index (marked x)) (sym is)
    ∙ ap (λ (t : Table). slice_set t.nodes c.args.index (marked n)) c.self.view_is

pub returns-clause-ever : goal.returns-clause-ever
returns-clause-ever g c =
    let rows = c.self.inside.rows in
    ap (λ (rs : List (g.row.F.Denot × SmallEntry)). ever_of rs) c.set_entry.ensures
    ∙ ever_of-set_entry_at rows c.args.index c.expand.new.self
    ∙ ap (λ (b : Bool). slice_set (ever_of rows) c.args.index b) c.expand.ensures.ever
    ∙ ap (λ (t : Table). slice_set t.ever c.args.index true) c.self.view_is
