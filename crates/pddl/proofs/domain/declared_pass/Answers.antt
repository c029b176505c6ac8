use Rattle.std.proofs.Common.{rules, ◌≡◌, Err}
use Rattle.pddl.proofs.Composing.{fails_here, fails_later, clean_later, no_pass, if_err}
use Rattle.pddl.proofs.domain.declared_pass.Goals as goal

pub returns-in_err-heads_pass-clause-fault : goal.returns-in_err-heads_pass-clause-fault
returns-in_err-heads_pass-clause-fault c =
    let e : c.from_residual.result ≡ Err c.in_err-heads_pass.field-0.0 = search rules in
    if_err c.from_residual.result c.in_err-heads_pass.field-0.0 _ e (fails_here _ _ _ c.in_err-heads_pass.ensures.fault)

pub returns-in_err-requirements_pass-clause-fault : goal.returns-in_err-requirements_pass-clause-fault
returns-in_err-requirements_pass-clause-fault c =
    let e : c.from_residual-in_err-requirements_pass.result ≡ Err c.in_err-requirements_pass.field-0.0 = search rules in
    if_err c.from_residual-in_err-requirements_pass.result c.in_err-requirements_pass.field-0.0 _ e (fails_later _ _ _ c.in_ok-heads_pass.ensures.clean (fails_here _ _ _ c.in_err-requirements_pass.ensures.fault))

pub returns-in_err-types_pass-clause-fault : goal.returns-in_err-types_pass-clause-fault
returns-in_err-types_pass-clause-fault c =
    let e : c.from_residual-in_err-types_pass.result ≡ Err c.in_err-types_pass.field-0.0 = search rules in
    if_err c.from_residual-in_err-types_pass.result c.in_err-types_pass.field-0.0 _ e (fails_later _ _ _ c.in_ok-heads_pass.ensures.clean (fails_later _ _ _ c.in_ok-requirements_pass.ensures.clean (fails_here _ _ _ c.in_err-types_pass.ensures.fault)))

pub returns-in_err-constants_pass-clause-fault : goal.returns-in_err-constants_pass-clause-fault
returns-in_err-constants_pass-clause-fault c =
    let e : c.from_residual-in_err-constants_pass.result ≡ Err c.in_err-constants_pass.field-0.0 = search rules in
    if_err c.from_residual-in_err-constants_pass.result c.in_err-constants_pass.field-0.0 _ e (fails_later _ _ _ c.in_ok-heads_pass.ensures.clean (fails_later _ _ _ c.in_ok-requirements_pass.ensures.clean (fails_later _ _ _ c.in_ok-types_pass.ensures.clean (fails_here _ _ _ c.in_err-constants_pass.ensures.fault))))

pub returns-in_err-predicates_pass-clause-fault : goal.returns-in_err-predicates_pass-clause-fault
returns-in_err-predicates_pass-clause-fault c =
    let e : c.from_residual-in_err-predicates_pass.result ≡ Err c.in_err-predicates_pass.field-0.0 = search rules in
    if_err c.from_residual-in_err-predicates_pass.result c.in_err-predicates_pass.field-0.0 _ e (fails_later _ _ _ c.in_ok-heads_pass.ensures.clean (fails_later _ _ _ c.in_ok-requirements_pass.ensures.clean (fails_later _ _ _ c.in_ok-types_pass.ensures.clean (fails_later _ _ _ c.in_ok-constants_pass.ensures.clean (fails_here _ _ _ c.in_err-predicates_pass.ensures.fault)))))

pub returns-in_err-functions_pass-clause-fault : goal.returns-in_err-functions_pass-clause-fault
returns-in_err-functions_pass-clause-fault c =
    let e : c.from_residual-in_err-functions_pass.result ≡ Err c.in_err-functions_pass.field-0.0 = search rules in
    if_err c.from_residual-in_err-functions_pass.result c.in_err-functions_pass.field-0.0 _ e (fails_later _ _ _ c.in_ok-heads_pass.ensures.clean (fails_later _ _ _ c.in_ok-requirements_pass.ensures.clean (fails_later _ _ _ c.in_ok-types_pass.ensures.clean (fails_later _ _ _ c.in_ok-constants_pass.ensures.clean (fails_later _ _ _ c.in_ok-predicates_pass.ensures.clean (fails_here _ _ _ c.in_err-functions_pass.ensures.fault))))))

pub returns-clause-clean : goal.returns-clause-clean
returns-clause-clean c = clean_later _ _ c.in_ok-heads_pass.ensures.clean (clean_later _ _ c.in_ok-requirements_pass.ensures.clean
    (clean_later _ _ c.in_ok-types_pass.ensures.clean (clean_later _ _ c.in_ok-constants_pass.ensures.clean
    (clean_later _ _ c.in_ok-predicates_pass.ensures.clean (clean_later _ _ c.in_ok-functions_pass.ensures.clean no_pass)))))
