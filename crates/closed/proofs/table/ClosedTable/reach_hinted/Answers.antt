use Rattle.std.proofs.Common.{refl, sym, ap, ◌∙◌, subst}
use Rattle.closed.specs.Tables.{Table, fresh, outcome_of}
use Rattle.closed.specs.Limits.{IsPastEntry}
use Rattle.closed.proofs.Reached.{refused_new}
use Rattle.closed.proofs.Entries.{Better-entry, New-missing, compares}
use Rattle.closed.proofs.table.ClosedTable.reach_hinted.Goals as goal

pub write-requires-clause-form : goal.write-requires-clause-form
write-requires-clause-form g c = (c.args.self.now.ranges, c.requires.form)

pub write-requires-clause-absent : goal.write-requires-clause-absent
write-requires-clause-absent g c i new =
    let ranges = c.self.inside.layout in
    let values = g.F.StateForm.values ranges in
    let form = c.args.form.now in
    New-missing values (g.F.StateForm.IsForm ranges) g.F.PartialEq.eq
    (compares values (g.F.StateForm.IsForm ranges) g.F.PartialEq.eq (g.met.F.StateForm.equal ranges) (g.met.F.StateForm.same ranges))
    form (subst (λ (t : Table). g.F.StateForm.IsForm t.ranges form) (sym c.self.view_is) c.requires.form)
    (fresh (values form) c.args.rank c.args.parent) refl c.self.inside.rows i c.self.invariant.keys
    (ap (λ (t : Table). outcome_of t.nodes (fresh (g.F.StateForm.values t.ranges form) c.args.rank c.args.parent)) c.self.view_is
    ∙ sym c.requires.outcome ∙ new)

pub write-requires-clause-within : goal.write-requires-clause-within
write-requires-clause-within g c i better =
    let values = g.F.StateForm.values c.self.inside.layout in
    let form = c.args.form.now in
    Better-entry values c.self.inside.rows (fresh (values form) c.args.rank c.args.parent) i
    (ap (λ (t : Table). outcome_of t.nodes (fresh (g.F.StateForm.values t.ranges form) c.args.rank c.args.parent)) c.self.view_is
    ∙ sym c.requires.outcome ∙ better)

pub returns-clause-refused : goal.returns-clause-refused
returns-clause-refused g c =
    refused_new (IsPastEntry c.args.rank c.args.parent) c.args.self.now.nodes
    (fresh (g.F.StateForm.values c.args.self.now.ranges c.args.form.now) c.args.rank c.args.parent)
    c.args.outcome c.write.result c.requires.outcome c.write.ensures.refused
