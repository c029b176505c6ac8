use Rattle.std.proofs.Common.{◌∙◌}
use Rattle.pdb_refinement.proofs.WithRow.{set_first, push_last}
use Rattle.pdb_refinement.proofs.rows.put_row.Goals as goal

pub returns-in-Some : goal.returns-in-Some
returns-in-Some c = set_first c.args.rows.now.items c.args.row c.in-Some.position (rw (c.deref.ensures.value, c.variable.ensures) at c.in-Some.ensures.first)

pub returns-in_ok-push-in-None : goal.returns-in_ok-push-in-None
returns-in_ok-push-in-None c =
    c.in_ok-push-in-None.ensures.items ∙ push_last c.args.rows.now.items c.args.row (rw (c.deref.ensures.value, c.variable.ensures) at c.in-None.ensures.none)
