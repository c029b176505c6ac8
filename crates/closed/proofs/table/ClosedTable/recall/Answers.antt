use Rattle.std.proofs.Common.{◌≡◌, ◌∙◌, length, sym, subst}
use Rattle.std.proofs.lemmas.List.{length-map}
use Rattle.std.specs.Prelude.{All}
use Rattle.fdr.specs.Tasks.{IsState}
use Rattle.closed.specs.Tables.{Table, node_with}
use Rattle.closed.specs.Entries.{entry_in}
use Rattle.closed.proofs.Entries.{All-states}
use Rattle.closed.proofs.table.ClosedTable.recall.Goals as goal

pub returns-clause-states : goal.returns-clause-states
returns-clause-states g c =
    let ranges = c.self.inside.layout in
    subst (λ (t : Table). All (λ n. IsState t.ranges n.state) t.nodes) c.self.view_is
    (All-states (g.F.StateForm.values ranges) (g.F.StateForm.IsForm ranges) (IsState ranges) (g.met.F.StateForm.state ranges)
    c.self.inside.rows c.self.invariant.keys)

pub returns-clause-fits : goal.returns-clause-fits
returns-clause-fits g c = subst (λ (t : Table). g.F.StateForm.Fits t.ranges) c.self.view_is c.self.invariant.fits

pub returns-clause-ever : goal.returns-clause-ever
returns-clause-ever g c =
    let values = g.F.StateForm.values c.self.inside.layout in
    let rows = c.self.inside.rows in
    subst (λ (t : Table). length t.ever ≡ length t.nodes) c.self.view_is
    (length-map rows (λ p. p.1.ever) ∙ sym (length-map rows (λ p. node_with (values p.0) (entry_in p.1))))
