use Rattle.std.proofs.Common.{ℕ, List, ap, ◌∙◌}
use Rattle.closed.specs.Tables.{Table, fresh, outcome_of}
use Rattle.closed.specs.Entries.{nodes_of}
use Rattle.closed.proofs.table.ClosedTable.look.Goals as goal

pub returns-clause-outcome : goal.returns-clause-outcome
returns-clause-outcome g c parent =
    let ranges = c.self.inside.layout in
    let nodes = nodes_of (g.F.StateForm.values ranges) c.self.inside.rows in
    c.outcome_among.ensures.outcome ranges parent c.repack.ensures.form c.self.invariant.keys
    ∙ ap (λ (s : List ℕ). outcome_of nodes (fresh s c.args.rank parent)) c.repack.ensures.values
    ∙ ap (λ (t : Table). outcome_of t.nodes (fresh c.args.state.now c.args.rank parent)) c.self.view_is
