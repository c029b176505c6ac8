use Rattle.std.proofs.Common.{Bool, subst}
use Rattle.std.proofs.lemmas.Result.{err_from_is_err_and}
use Rattle.optplan_search.specs.Searches.{IsRefusedBySeed}
use Rattle.optplan_pddl.specs.Prepared.{IsPrepared}
use Rattle.optplan_pddl.proofs.Answering.{text_refused}
use Rattle.optplan_pddl.proofs.solving.simulate.Goals as goal

pub simulate-requires-clause-prepared : goal.simulate-requires-clause-prepared
simulate-requires-clause-prepared g c κs within = (c.certificate.result, (c.args.domain.now, (c.args.problem.now, c.in_ok-prepared.ensures.prepared)))

pub returns-in_err-prepared-clause-refused : goal.returns-in_err-prepared-clause-refused
returns-in_err-prepared-clause-refused g c =
    let p = err_from_is_err_and c.from_residual.result c.from_residual.ensures.1 in
    rw (p.1, p.2) (text_refused c.args.domain.now c.args.problem.now (IsRefusedBySeed c.args.options.now c.args.seed) c.in_err-prepared.field-0.0 c.in_err-prepared.ensures.refused)

pub returns-clause-answer : goal.returns-clause-answer
returns-clause-answer g c =
    c.in_ok-simulate.ensures.answer c.args.options.now.certificate c.args.domain.now c.args.problem.now
    (subst (λ (b : Bool). IsPrepared b c.args.domain.now c.args.problem.now c.in_ok-prepared.prepared) c.certificate.ensures c.in_ok-prepared.ensures.prepared)

pub returns-in_err-simulate-clause-refused : goal.returns-in_err-simulate-clause-refused
returns-in_err-simulate-clause-refused g c =
    let p = err_from_is_err_and c.from_residual-in_err-simulate.result c.from_residual-in_err-simulate.ensures.1 in
    rw (p.1, p.2) (c.in_err-simulate.ensures.refused c.certificate.result c.args.domain.now c.args.problem.now c.in_ok-prepared.ensures.prepared)
