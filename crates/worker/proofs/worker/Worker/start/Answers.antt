use Rattle.std.proofs.Common.{◌≡◌, ◌∙◌, ap, sym, length, arith}
use Rattle.fdr.specs.Tasks.{FiniteDomainTask}
use Rattle.owner.specs.Spaces.{SpaceOf}
use Rattle.worker.proofs.Working.{begun}
use Rattle.worker.proofs.worker.Worker.start.Goals as goal

pub invariant_of-result : goal.invariant_of-result
invariant_of-result g c =
    let width : length c.task.result.now.value_names ≡ length c.in_ok-start.field-0.space.task.value_names =
    ap (λ (t : FiniteDomainTask). length t.value_names) c.task.ensures
    ∙ sym (ap (λ (s : SpaceOf g.row.S.Denot). length s.task.value_names) c.in_ok-start.ensures.space) in (
      sym c.in_ok-start.ensures.worker,
      omega (arith, width, c.variable_count.ensures, c.in_ok-vec.ensures.len, c.in_ok-vec.field-0.ok.0),
      rw (c.inf.ensures, c.inf-2.ensures, c.inf-3.ensures)
          (begun g.S.Spread.owner g.F.StateForm.values c.args.space.now c.args.number c.args.workers c.args.outs.items c.args.ins.items c.in_ok-start.field-0
          c.in_ok-start.ensures.started c.in_ok-start.ensures.space c.in_ok-start.ensures.worker c.in_ok-start.ensures.expansions c.in_ok-start.ensures.owners
          c.requires.outs.0 c.requires.outs.1 c.requires.ins.0 c.requires.ins.1),
    )
