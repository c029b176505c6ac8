use Rattle.std.proofs.Common.{rules, ◌≡◌, [], ◌∷◌, Err}
use Rattle.sexp.specs.Forms.{alone}
use Rattle.pddl_syntax.proofs.Trees.{on_ok}
use Rattle.pddl.specs.Texts as spec
use Rattle.pddl.proofs.Composing.{fails_early, if_err, if_err_behind, clean_behind}
use Rattle.pddl.proofs.domain.read_domain.Goals as goal

-- src/domain.rt:187:5
pub returns-in_err-declared_pass-clause-fault : goal.returns-in_err-declared_pass-clause-fault
returns-in_err-declared_pass-clause-fault c =
    let e : c.from_residual.result ≡ Err c.in_err-declared_pass.field-0.0 = search rules in
    if_err c.from_residual.result c.in_err-declared_pass.field-0.0 _ e
    (fails_early _ (spec.declaring_passes (alone c.args.root.now)) (spec.actions_pass (alone c.args.root.now) ∷ []) c.in_err-declared_pass.ensures.fault)

pub returns-clause-clean : goal.returns-clause-clean
returns-clause-clean c =
    on_ok c.actions_pass.result _ _ (clean_behind (spec.declaring_passes (alone c.args.root.now)) (spec.actions_pass (alone c.args.root.now)) c.in_ok-declared_pass.ensures.clean) c.actions_pass.ensures.clean

pub returns-clause-fault : goal.returns-clause-fault
returns-clause-fault c =
    if_err_behind c.actions_pass.result (spec.declaring_passes (alone c.args.root.now)) (spec.actions_pass (alone c.args.root.now)) c.in_ok-declared_pass.ensures.clean c.actions_pass.ensures.fault
