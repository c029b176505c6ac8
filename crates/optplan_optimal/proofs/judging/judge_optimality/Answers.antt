use Rattle.std.proofs.Common.{rules}
use Rattle.pddl_laws.proofs.GoalLaws.{spelled_well}
use Rattle.optplan_optimal.specs.Plans.{ClaimsUnsolvable}
use Rattle.optplan_optimal.specs.Answers.{IsRefusal}
use Rattle.optplan_optimal.proofs.Judgements.{err_as, guaranteed}
use Rattle.optplan_optimal.proofs.judging.judge_optimality.Goals as goal

pub returns-in_err-task-clause-refused : goal.returns-in_err-task-clause-refused
returns-in_err-task-clause-refused g c =
    err_as c.from_residual.result c.in_err-task.field-0.0 (IsRefusal c.args.domain.now c.args.problem.now c.args.plan.now c.args.cert.now) c.from_residual.ensures.1
    (c.in_err-task.ensures.refused c.args.plan.now c.args.cert.now)

pub returns-then-claims_unsolvable-clause-answer : goal.returns-then-claims_unsolvable-clause-answer
returns-then-claims_unsolvable-clause-answer g c =
    let claims : ClaimsUnsolvable c.args.plan.now = c.claims_unsolvable.ensures.0 c.if-claims_unsolvable.true in
    c.judge_claim.ensures.answer c.args.domain.now c.args.problem.now c.args.plan.now c.in_ok-task.ensures.found claims

pub returns-then-claims_unsolvable-clause-refused : goal.returns-then-claims_unsolvable-clause-refused
returns-then-claims_unsolvable-clause-refused g c =
    let claims : ClaimsUnsolvable c.args.plan.now = c.claims_unsolvable.ensures.0 c.if-claims_unsolvable.true in
    c.judge_claim.ensures.refused c.args.domain.now c.args.problem.now c.args.plan.now c.in_ok-task.ensures.found claims

pub returns-then-claims_unsolvable-clause-guarantees : goal.returns-then-claims_unsolvable-clause-guarantees
returns-then-claims_unsolvable-clause-guarantees g c = λ task spelled.
    let found = c.in_ok-task.ensures.found in
    guaranteed c.args.domain.now c.args.problem.now c.args.plan.now c.in_ok-task.task task c.judge_claim.result found spelled
    (c.judge_claim.ensures.guarantees c.args.plan.now (spelled_well c.args.domain.now c.args.problem.now c.in_ok-task.task found))

pub returns-clause-answer : goal.returns-clause-answer
returns-clause-answer g c = c.judge_plan.ensures.answer c.args.domain.now c.args.problem.now c.in_ok-task.ensures.found

pub returns-clause-refused : goal.returns-clause-refused
returns-clause-refused g c =
    let not_claimed : ClaimsUnsolvable c.args.plan.now → ⊥ = λ claims. let h = c.claims_unsolvable.ensures.1 claims in let k = c.if-claims_unsolvable.false in absurd (search rules) in
    c.judge_plan.ensures.refused c.args.domain.now c.args.problem.now c.in_ok-task.ensures.found not_claimed

pub returns-clause-guarantees : goal.returns-clause-guarantees
returns-clause-guarantees g c = λ task spelled.
    let found = c.in_ok-task.ensures.found in
    guaranteed c.args.domain.now c.args.problem.now c.args.plan.now c.in_ok-task.task task c.judge_plan.result found spelled
    (c.judge_plan.ensures.guarantees (spelled_well c.args.domain.now c.args.problem.now c.in_ok-task.task found))
