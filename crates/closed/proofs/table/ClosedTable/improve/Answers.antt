use Rattle.std.proofs.Common.{ℕ, List, refl, sym, ap, ◌∙◌}
use Rattle.closed.specs.Tables.{Table, fresh, outcome_of}
use Rattle.closed.specs.Limits.{IsPastEntry}
use Rattle.closed.specs.Entries.{nodes_of}
use Rattle.closed.proofs.Reached.{refused_found}
use Rattle.closed.proofs.Entries.{Better-entry, New-missing, compares}
use Rattle.closed.proofs.table.ClosedTable.improve.Goals as goal

pub write-requires-clause-form : goal.write-requires-clause-form
write-requires-clause-form g c = (c.self.inside.layout, c.repack.ensures.form)

pub write-requires-clause-absent : goal.write-requires-clause-absent
write-requires-clause-absent g c i new =
    let ranges = c.self.inside.layout in
    let values = g.F.StateForm.values ranges in
    New-missing values (g.F.StateForm.IsForm ranges) g.F.PartialEq.eq
    (compares values (g.F.StateForm.IsForm ranges) g.F.PartialEq.eq (g.met.F.StateForm.equal ranges) (g.met.F.StateForm.same ranges))
    c.repack.new.self c.repack.ensures.form (fresh (values c.repack.new.self) c.args.rank c.args.parent) refl c.self.inside.rows i c.self.invariant.keys
    (sym (c.outcome_among-outcome.ensures.outcome ranges c.args.parent c.repack.ensures.form c.self.invariant.keys) ∙ new)

pub write-requires-clause-within : goal.write-requires-clause-within
write-requires-clause-within g c i better =
    let ranges = c.self.inside.layout in
    let values = g.F.StateForm.values ranges in
    Better-entry values c.self.inside.rows (fresh (values c.repack.new.self) c.args.rank c.args.parent) i
    (sym (c.outcome_among-outcome.ensures.outcome ranges c.args.parent c.repack.ensures.form c.self.invariant.keys) ∙ better)

pub returns-in_err-write-clause-refused : goal.returns-in_err-write-clause-refused
returns-in_err-write-clause-refused g c =
    let ranges = c.self.inside.layout in
    let nodes = nodes_of (g.F.StateForm.values ranges) c.self.inside.rows in
    refused_found (IsPastEntry c.args.rank c.args.parent) c.args.self.now.nodes (fresh c.args.state.now c.args.rank c.args.parent)
    c.outcome_among-outcome.result c.from_residual.result
    (c.outcome_among-outcome.ensures.outcome ranges c.args.parent c.repack.ensures.form c.self.invariant.keys
    ∙ ap (λ (s : List ℕ). outcome_of nodes (fresh s c.args.rank c.args.parent)) c.repack.ensures.values
    ∙ ap (λ (t : Table). outcome_of t.nodes (fresh c.args.state.now c.args.rank c.args.parent)) c.self.view_is)
    c.in_err-write.ensures.refused
