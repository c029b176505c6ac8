use Rattle.std.proofs.Common.{ℕ, ◌<◌, subst, arith}
use Rattle.std.specs.Prelude.{◌↔◌, Contains, slice_index}
use Rattle.fdr.specs.Tasks.{FiniteDomainTask, ranges}
use Rattle.reduction.specs.Waiting.{WaitsForAny}
use Rattle.reduction.proofs.ClosingSteps.{all_due_any}
use Rattle.reduction.proofs.closing.Closing.visit_variable.Goals as goal

pub mark_all-requires-clause-due : goal.mark_all-requires-clause-due
mark_all-requires-clause-due c =
    let ops = c.for_variable.result.now in
    let two : 1 < slice_index (ranges c.args.task.now) c.args.fact.variable = omega arith in
    let waits = subst (λ (t : FiniteDomainTask). (o : ℕ) → Contains c.for_variable.result.now o ↔ WaitsForAny t c.args.fact.variable o) c.requires.waiting c.for_variable.ensures in
    all_due_any c.args.task.now c.args.self.now.asked c.args.self.now.changing.items c.args.fact c.requires.closing c.requires.asked ops two waits
