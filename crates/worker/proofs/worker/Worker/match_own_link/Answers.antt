use Rattle.worker.proofs.Working.{outs_matched, ins_matched}
use Rattle.worker.proofs.worker.Worker.match_own_link.Goals as goal

pub invariant_of-self : goal.invariant_of-self
invariant_of-self g c = (
  c.self.invariant.0,
  c.self.invariant.1,
  ins_matched g.S.Spread.owner g.F.StateForm.values _ _ _ _ _ _ _ c.match_in_rows.ensures
      (outs_matched g.S.Spread.owner g.F.StateForm.values _ _ _ _ _ _ _ c.match_in_rows.ensures c.self.invariant.2),
)
