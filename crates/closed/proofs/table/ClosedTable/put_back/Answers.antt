use Rattle.std.proofs.Common.{List, ◌≤◌, length, sym, ap, ◌∙◌, subst, arith}
use Rattle.std.proofs.lemmas.List.{length-map}
use Rattle.std.specs.Prelude.{All}
use Rattle.closed.specs.declared.small_entry.SmallEntry.{SmallEntry}
use Rattle.closed.specs.Tables.{Table, node_with}
use Rattle.closed.specs.declared.table.Entry.{Entry}
use Rattle.closed.specs.Entries.{entry_in, nodes_of, ever_of, with_entry}
use Rattle.closed.proofs.Entries.{nodes_of-set_entry_at, All-set_entry_at}
use Rattle.closed.proofs.TakingBack.{with_entry-past}
use Rattle.closed.proofs.Ever.{ever_of-replaced}
use Rattle.closed.proofs.table.ClosedTable.put_back.Goals as goal

pub invariant_of-self : goal.invariant_of-self
invariant_of-self g c =
    record {
      fits = c.self.invariant.fits;
      keys = subst (λ (rs : List (g.row.F.Denot × SmallEntry)). All (λ p. g.F.StateForm.IsForm c.self.inside.layout p.0) rs) (sym c.set_entry.ensures)
          (All-set_entry_at (g.F.StateForm.IsForm c.self.inside.layout) c.self.inside.rows c.args.index c.in_place_of-restored.result c.self.invariant.keys);
      buffer = c.self.invariant.buffer;
    }

pub returns-then-index-len-clause-nodes : goal.returns-then-index-len-clause-nodes
returns-then-index-len-clause-nodes g c =
    ap (λ (rs : List (g.row.F.Denot × SmallEntry)). nodes_of (g.F.StateForm.values c.self.inside.layout) rs) c.set_entry.ensures
    ∙ nodes_of-set_entry_at (g.F.StateForm.values c.self.inside.layout) c.self.inside.rows c.args.index c.in_place_of-restored.result
    ∙ ap (λ (e : Entry). with_entry (nodes_of (g.F.StateForm.values c.self.inside.layout) c.self.inside.rows) c.args.index e)
    c.in_place_of-restored.ensures.entry
    ∙ ap (λ (t : Table). with_entry t.nodes c.args.index (entry_in c.args.entry)) c.self.view_is

pub returns-then-index-len-clause-ever : goal.returns-then-index-len-clause-ever
returns-then-index-len-clause-ever g c =
    ap (λ (rs : List (g.row.F.Denot × SmallEntry)). ever_of rs) c.set_entry.ensures
    ∙ ever_of-replaced c.self.inside.rows c.args.index c.entry.result c.in_place_of-restored.result c.entry.ensures c.in_place_of-restored.ensures.ever
    ∙ ap (λ (t : Table). t.ever) c.self.view_is

pub returns-else-index-len-clause-nodes : goal.returns-else-index-len-clause-nodes
returns-else-index-len-clause-nodes g c =
    let values = g.F.StateForm.values c.self.inside.layout in
    let entries = c.self.inside.rows in
    let long = length-map entries (λ p. node_with (values p.0) (entry_in p.1)) in
    let past : length (nodes_of values entries) ≤ c.args.index = omega (arith, c.len.ensures.len) in
    sym (ap (λ (t : Table). t.nodes) c.self.view_is)
    ∙ sym (with_entry-past (nodes_of values entries) c.args.index (entry_in c.args.entry) past)
    ∙ ap (λ (t : Table). with_entry t.nodes c.args.index (entry_in c.args.entry)) c.self.view_is
