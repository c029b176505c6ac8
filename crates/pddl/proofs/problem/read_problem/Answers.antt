use Rattle.std.proofs.Common.{rules, ◌≡◌, Err}
use Rattle.sexp.specs.Forms.{alone}
use Rattle.pddl.specs.Passes.{Fails}
use Rattle.pddl.specs.Texts as spec
use Rattle.pddl.proofs.Composing.{IsClean, fails_here, fails_later, clean_later, no_pass, if_err}
use Rattle.pddl.proofs.problem.read_problem.Goals as goal

pub returns-in_err-heads_pass-clause-fault : goal.returns-in_err-heads_pass-clause-fault
returns-in_err-heads_pass-clause-fault c =
    let d = c.args.declarations.now in let o = c.args.objects.now in let p = alone c.args.root.now in
    let os = spec.objects_of d o p in
    let e : c.from_residual.result ≡ Err c.in_err-heads_pass.field-0.0 = search rules in
    let h : Fails c.in_err-heads_pass.field-0.0 (spec.problem_heads_pass p) = search rules in
    if_err c.from_residual.result c.in_err-heads_pass.field-0.0 _ e (fails_here _ (spec.problem_heads_pass p) _ h)

pub returns-in_err-objects_pass-clause-fault : goal.returns-in_err-objects_pass-clause-fault
returns-in_err-objects_pass-clause-fault c =
    let d = c.args.declarations.now in let o = c.args.objects.now in let p = alone c.args.root.now in
    let os = spec.objects_of d o p in
    let e : c.from_residual-in_err-objects_pass.result ≡ Err c.in_err-objects_pass.field-0.0 = search rules in
    let h : Fails c.in_err-objects_pass.field-0.0 (spec.objects_pass d o p) = search rules in
    let heads_pass_clean : IsClean (spec.problem_heads_pass p) = search rules in
    if_err c.from_residual-in_err-objects_pass.result c.in_err-objects_pass.field-0.0 _ e (fails_later _ (spec.problem_heads_pass p) _ heads_pass_clean (fails_here _ (spec.objects_pass d o p) _ h))

pub returns-in_err-initial_pass-clause-fault : goal.returns-in_err-initial_pass-clause-fault
returns-in_err-initial_pass-clause-fault c =
    let d = c.args.declarations.now in let o = c.args.objects.now in let p = alone c.args.root.now in
    let os = spec.objects_of d o p in
    let e : c.from_residual-in_err-initial_pass.result ≡ Err c.in_err-initial_pass.field-0.0 = search rules in
    let h : Fails c.in_err-initial_pass.field-0.0 (spec.initial_pass d os p) = search rules in
    let heads_pass_clean : IsClean (spec.problem_heads_pass p) = search rules in
    let objects_pass_clean : IsClean (spec.objects_pass d o p) = search rules in
    if_err c.from_residual-in_err-initial_pass.result c.in_err-initial_pass.field-0.0 _ e (fails_later _ (spec.problem_heads_pass p) _ heads_pass_clean (fails_later _ (spec.objects_pass d o p) _ objects_pass_clean (fails_here _ (spec.initial_pass d os p) _ h)))

pub returns-in_err-goal_pass-clause-fault : goal.returns-in_err-goal_pass-clause-fault
returns-in_err-goal_pass-clause-fault c =
    let d = c.args.declarations.now in let o = c.args.objects.now in let p = alone c.args.root.now in
    let os = spec.objects_of d o p in
    let e : c.from_residual-in_err-goal_pass.result ≡ Err c.in_err-goal_pass.field-0.0 = search rules in
    let h : Fails c.in_err-goal_pass.field-0.0 (spec.goal_pass d os p) = search rules in
    let heads_pass_clean : IsClean (spec.problem_heads_pass p) = search rules in
    let objects_pass_clean : IsClean (spec.objects_pass d o p) = search rules in
    let initial_pass_clean : IsClean (spec.initial_pass d os p) = search rules in
    if_err c.from_residual-in_err-goal_pass.result c.in_err-goal_pass.field-0.0 _ e (fails_later _ (spec.problem_heads_pass p) _ heads_pass_clean (fails_later _ (spec.objects_pass d o p) _ objects_pass_clean (fails_later _ (spec.initial_pass d os p) _ initial_pass_clean (fails_here _ (spec.goal_pass d os p) _ h))))

pub returns-in_err-metric_pass-clause-fault : goal.returns-in_err-metric_pass-clause-fault
returns-in_err-metric_pass-clause-fault c =
    let d = c.args.declarations.now in let o = c.args.objects.now in let p = alone c.args.root.now in
    let os = spec.objects_of d o p in
    let e : c.from_residual-in_err-metric_pass.result ≡ Err c.in_err-metric_pass.field-0.0 = search rules in
    let h : Fails c.in_err-metric_pass.field-0.0 (spec.metric_pass p) = search rules in
    let heads_pass_clean : IsClean (spec.problem_heads_pass p) = search rules in
    let objects_pass_clean : IsClean (spec.objects_pass d o p) = search rules in
    let initial_pass_clean : IsClean (spec.initial_pass d os p) = search rules in
    let goal_pass_clean : IsClean (spec.goal_pass d os p) = search rules in
    if_err c.from_residual-in_err-metric_pass.result c.in_err-metric_pass.field-0.0 _ e (fails_later _ (spec.problem_heads_pass p) _ heads_pass_clean (fails_later _ (spec.objects_pass d o p) _ objects_pass_clean (fails_later _ (spec.initial_pass d os p) _ initial_pass_clean (fails_later _ (spec.goal_pass d os p) _ goal_pass_clean (fails_here _ (spec.metric_pass p) _ h)))))

pub returns-clause-clean : goal.returns-clause-clean
returns-clause-clean c =
    let d = c.args.declarations.now in let o = c.args.objects.now in let p = alone c.args.root.now in
    let os = spec.objects_of d o p in
    let heads_pass_clean : IsClean (spec.problem_heads_pass p) = search rules in
    let objects_pass_clean : IsClean (spec.objects_pass d o p) = search rules in
    let initial_pass_clean : IsClean (spec.initial_pass d os p) = search rules in
    let goal_pass_clean : IsClean (spec.goal_pass d os p) = search rules in
    let metric_pass_clean : IsClean (spec.metric_pass p) = search rules in
    clean_later (spec.problem_heads_pass p) _ heads_pass_clean (clean_later (spec.objects_pass d o p) _ objects_pass_clean (clean_later (spec.initial_pass d os p) _ initial_pass_clean (clean_later (spec.goal_pass d os p) _ goal_pass_clean (clean_later (spec.metric_pass p) _ metric_pass_clean no_pass))))
