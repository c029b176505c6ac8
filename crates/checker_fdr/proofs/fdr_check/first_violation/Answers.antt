use Rattle.std.proofs.Common.{◌≡◌, ◌∙◌, length, sym, ap}
use Rattle.std.proofs.lemmas.Bool.{eqb-true}
use Rattle.std.proofs.lemmas.List.{length-map}
use Rattle.abstraction_domain.specs.Rows.{Row}
use Rattle.checker_fdr.proofs.FirstFound.{none_met, first_if_judged, judged_itself}
use Rattle.checker_fdr.proofs.fdr_check.first_violation.Goals as goal

pub returns-then-is_empty : goal.returns-then-is_empty
returns-then-is_empty g c =
    let task = c.args.task.now in
    let certificate = c.args.certificate.now in
    let empty : length c.classes.result.now ≡ 0 = eqb-true (length c.classes.result.now) 0 (sym c.is_empty.ensures ∙ c.if-is_empty.true) in
    let none : length c.args.certificate.now.classes ≡ 0 =
    sym (ap length c.classes.ensures.classes) ∙ length-map c.classes.result.now (λ (r : Row). r.classes) ∙ empty in
    first_if_judged task certificate task c.clause_violation.result (judged_itself task certificate.classes none)
    (none_met task certificate 0 c.first_class_violation.result c.first_class_violation.ensures c.in_default.not-Some) c.clause_violation.ensures

pub returns : goal.returns
returns g c =
    let task = c.args.task.now in
    let certificate = c.args.certificate.now in
    first_if_judged task certificate c.in_ok-reduced.reduced c.clause_violation-2.result c.in_ok-reduced.ensures
    (none_met task certificate 0 c.first_class_violation.result c.first_class_violation.ensures c.in_default.not-Some) c.clause_violation-2.ensures
