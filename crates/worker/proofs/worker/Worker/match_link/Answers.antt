use Rattle.worker.proofs.Working.{outs_matched, ins_matched}
use Rattle.worker.proofs.worker.Worker.match_link.Goals as goal

pub invariant_of-self : goal.invariant_of-self
invariant_of-self g c =
    (c.self.invariant.0, c.self.invariant.1, outs_matched g.S.Spread.owner g.F.StateForm.values _ _ _ _ _ _ _ c.match_in_rows.ensures c.self.invariant.2)

pub invariant_of-receiver : goal.invariant_of-receiver
invariant_of-receiver g c =
    (c.receiver.invariant.0, c.receiver.invariant.1, ins_matched g.S.Spread.owner g.F.StateForm.values _ _ _ _ _ _ _ c.match_in_rows.ensures c.receiver.invariant.2)
