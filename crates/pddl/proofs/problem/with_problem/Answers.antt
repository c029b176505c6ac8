use Rattle.std.proofs.Common.{rules, ◌≡◌, [], ap, subst, ◌∙◌, Bool, List}
use Rattle.std.specs.Prelude.{Err, IfErr, OnOk, codes}
use Rattle.sexp.specs.Forms.{alone}
use Rattle.pddl_task.specs.Planning.{FunctionValue}
use Rattle.pddl_syntax.proofs.Trees.{on_ok}
use Rattle.pddl_problem.specs.Initial.{stated_values, values_of}
use Rattle.pddl.specs.Passes.{Pass, Fails}
use Rattle.pddl.specs.Texts as spec
use Rattle.pddl.specs.Texts.{inside_of}
use Rattle.pddl.proofs.Composing.{IsClean, fails_early, if_err, if_err_behind, clean_behind}
use Rattle.pddl.proofs.problem.with_problem.Goals as goal

pub returns-in_err-read_problem-clause-fault : goal.returns-in_err-read_problem-clause-fault
returns-in_err-read_problem-clause-fault c =
    let e : c.from_residual.result ≡ Err c.in_err-read_problem.field-0.0 = search rules in
    if_err c.from_residual.result c.in_err-read_problem.field-0.0 _ e
    (fails_early _ (spec.stating_passes c.args.domain.now.declarations c.args.domain.now.objects (alone c.args.root.now)) _ c.in_err-read_problem.ensures.fault)

pub returns-clause-clean : goal.returns-clause-clean
returns-clause-clean c =
    let d = c.args.domain.now in let p = alone c.args.root.now in let new = c.read_problem.new.problem in
    let values = stated_values (spec.scope_over d.declarations (spec.objects_of d.declarations d.objects p)) [] (inside_of p (codes ":init")) in
    let sums = spec.sums_pass (spec.has_metric p) values d.actions.schemas.items d.actions.places.items in
    let metric : spec.sums_pass new.metric (values_of new.values.entries) d.actions.schemas.items d.actions.places.items ≡ spec.sums_pass (spec.has_metric p) (values_of new.values.entries) d.actions.schemas.items d.actions.places.items
    = ap (λ (m : Bool). spec.sums_pass m (values_of new.values.entries) d.actions.schemas.items d.actions.places.items) c.in_ok-read_problem.ensures.metric in
    let same = metric ∙ ap (λ (vs : List FunctionValue). spec.sums_pass (spec.has_metric p) vs d.actions.schemas.items d.actions.places.items) c.in_ok-read_problem.ensures.values in
    on_ok c.sums_pass.result _ _ (clean_behind (spec.stating_passes d.declarations d.objects p) sums c.in_ok-read_problem.ensures.clean)
    (subst (λ (s : Pass). OnOk c.sums_pass.result (IsClean s)) same c.sums_pass.ensures.clean)

pub returns-clause-fault : goal.returns-clause-fault
returns-clause-fault c =
    let d = c.args.domain.now in let p = alone c.args.root.now in let new = c.read_problem.new.problem in
    let values = stated_values (spec.scope_over d.declarations (spec.objects_of d.declarations d.objects p)) [] (inside_of p (codes ":init")) in
    let sums = spec.sums_pass (spec.has_metric p) values d.actions.schemas.items d.actions.places.items in
    let metric : spec.sums_pass new.metric (values_of new.values.entries) d.actions.schemas.items d.actions.places.items ≡ spec.sums_pass (spec.has_metric p) (values_of new.values.entries) d.actions.schemas.items d.actions.places.items
    = ap (λ (m : Bool). spec.sums_pass m (values_of new.values.entries) d.actions.schemas.items d.actions.places.items) c.in_ok-read_problem.ensures.metric in
    let same = metric ∙ ap (λ (vs : List FunctionValue). spec.sums_pass (spec.has_metric p) vs d.actions.schemas.items d.actions.places.items) c.in_ok-read_problem.ensures.values in
    if_err_behind c.sums_pass.result (spec.stating_passes d.declarations d.objects p) sums c.in_ok-read_problem.ensures.clean
    (subst (λ (s : Pass). IfErr c.sums_pass.result (λ e. Fails e s)) same c.sums_pass.ensures.fault)
