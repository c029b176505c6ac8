use Rattle.std.proofs.Common.{subst}
use Rattle.std.specs.Option.{option_map}
use Rattle.optplan_search.specs.Findings.{plain, IsCertifiedBy}
use Rattle.optplan_solver.proofs.ReducedFindings.{certified_in_task}
use Rattle.optplan_solver.proofs.reducing.certificate_of.Goals as goal

pub returns-in_ok-made-in-Some : goal.returns-in_ok-made-in-Some
returns-in_ok-made-in-Some c = λ wanted bound certified.
    let r = c.args.reduction.now in
    let made = c.in_ok-made-in-Some in
    certified_in_task c.args.task.now r.task r.classes r.representatives.items wanted bound c.in-Some.certificate made.made
    (subst (IsCertifiedBy r.task (option_map plain wanted) bound) c.in-Some.is certified) made.ensures.value made.ensures.held made.ensures.lawful
