use Rattle.std.proofs.Common.{ℕ, subst}
use Rattle.std.specs.Prelude.{◌↔◌, Contains}
use Rattle.fdr.specs.Tasks.{FiniteDomainTask}
use Rattle.reduction.specs.Waiting.{WaitsFor}
use Rattle.reduction.proofs.ClosingLaws.{grows_more}
use Rattle.reduction.proofs.ClosingSteps.{all_due}
use Rattle.reduction.proofs.closing.Closing.visit.Goals as goal

pub mark_all-requires-clause-due : goal.mark_all-requires-clause-due
mark_all-requires-clause-due c =
    let waits = subst (λ (t : FiniteDomainTask). (o : ℕ) → Contains c.for_fact.result.now o ↔ WaitsFor t c.args.fact o) c.requires.waiting c.for_fact.ensures in
    all_due c.args.task.now c.args.self.now.asked c.args.self.now.changing.items c.args.fact c.requires.closing c.requires.asked c.for_fact.result.now waits

pub returns-clause-grows : goal.returns-clause-grows
returns-clause-grows c =
    let old = c.args.self.now in
    let mid = c.mark_all.new.self in
    let new = c.visit_variable.new.self in
    grows_more old.asked mid.asked new.asked old.pending.items mid.pending.items new.pending.items c.in_ok-mark_all.ensures.grows c.in_ok-visit_variable.ensures.grows
