use Rattle.std.proofs.Common.{ℕ, true, false, List, map, Option, refl, sym, ap, subst, ◌∙◌}
use Rattle.fdr.specs.Tasks.{FiniteDomainTask}
use Rattle.cert_value.specs.Certificates.{CertificateValue}
use Rattle.cert_value.specs.Views.{kind_of, columns_of}
use Rattle.cert_value.specs.Classes.{has_classes}
use Rattle.cert_value.specs.Lawful.{IsLawful}
use Rattle.cert_value.specs.declared.certificate.Version.TheVariants.{Three}
use Rattle.checker_clauses.specs.Violations.{IsHeld}
use Rattle.abstraction_domain.specs.Rows.{Row}
use Rattle.reduction_classes.proofs.Loops.{any_of_rows}
use Rattle.reduction_certs.specs.InTask.{columns_in_task, share_classes, HaveNumberedRows}
use Rattle.reduction_certs.proofs.Making.{made_of, no_classes}
use Rattle.reduction_certs.proofs.InTasks.{held_in_task}
use Rattle.reduction_certs.proofs.Texts.{lawful_in_task}
use Rattle.reduction_certs.proofs.certificate.certificate_for_task.Goals as goal

pub returns-in_ok-copied_rows-clause-value : goal.returns-in_ok-copied_rows-clause-value
returns-in_ok-copied_rows-clause-value c =
    c.with_classes-then-do_share_classes.ensures
    ∙ ap (λ (m : CertificateValue). record m { version = Three; classes = map (λ (r : Row). r.classes) c.in_ok-copied_rows.field-0.items }) c.new-made.ensures
    ∙ made_of c.args.reduction.now.classes (map (λ (r : Row). r.classes) c.in_ok-copied_rows.field-0.items) c.args.reduction.now.representatives.items c.args.certificate (kind_of c.into_parts-kind.result.0) c.into_parts-kind.result.1
    (columns_of c.in_ok-columns.columns.items) c.into_parts-kind.result.3 true c.into_parts-kind.ensures.kind c.into_parts-kind.ensures.bound
    (c.in_ok-columns.ensures.columns ∙ ap (λ (rs : List (Option ℕ)). columns_in_task rs (columns_of c.into_parts-kind.result.2.items)) c.deref.ensures.value ∙ ap (columns_in_task c.args.reduction.now.representatives.items) c.into_parts-kind.ensures.columns)
    c.into_parts-kind.ensures.closed
    (ap (map (λ (r : Row). r.classes)) c.in_ok-copied_rows.ensures ∙ c.rows-rows.ensures.rows) (ap share_classes (sym c.rows-rows.ensures.rows) ∙ sym (any_of_rows c.rows-rows.result.now) ∙ sym c.do_share_classes.ensures ∙ c.if-do_share_classes.true)

pub returns-else-do_share_classes-clause-value : goal.returns-else-do_share_classes-clause-value
returns-else-do_share_classes-clause-value c =
    c.new-made.ensures
    ∙ made_of c.args.reduction.now.classes c.args.reduction.now.classes c.args.reduction.now.representatives.items c.args.certificate (kind_of c.into_parts-kind.result.0) c.into_parts-kind.result.1
    (columns_of c.in_ok-columns.columns.items) c.into_parts-kind.result.3 false c.into_parts-kind.ensures.kind c.into_parts-kind.ensures.bound
    (c.in_ok-columns.ensures.columns ∙ ap (λ (rs : List (Option ℕ)). columns_in_task rs (columns_of c.into_parts-kind.result.2.items)) c.deref.ensures.value ∙ ap (columns_in_task c.args.reduction.now.representatives.items) c.into_parts-kind.ensures.columns)
    c.into_parts-kind.ensures.closed
    refl (ap share_classes (sym c.rows-rows.ensures.rows) ∙ sym (any_of_rows c.rows-rows.result.now) ∙ sym c.do_share_classes.ensures ∙ c.if-do_share_classes.false)

pub returns-in_ok-copied_rows-clause-held : goal.returns-in_ok-copied_rows-clause-held
returns-in_ok-copied_rows-clause-held c held =
    subst (IsHeld c.args.task.now) (sym (returns-in_ok-copied_rows-clause-value c))
    (held_in_task c.args.task.now c.args.reduction.now.classes c.args.reduction.now.retained.items c.args.reduction.now.representatives.items c.recall.ensures.task c.requires.reduction c.requires.represented c.args.certificate
    (no_classes (λ (r : Row). r.classes) c.classes.result.now c.args.certificate.classes (c.classes.ensures.some ∙ ap has_classes c.requires.version) c.classes.ensures.classes)
    (subst HaveNumberedRows c.into_parts-kind.ensures.columns c.in_ok-columns.ensures.numbered)
    (subst (λ (t : FiniteDomainTask). IsHeld t c.args.certificate) c.requires.task held))

pub returns-in_ok-copied_rows-clause-lawful : goal.returns-in_ok-copied_rows-clause-lawful
returns-in_ok-copied_rows-clause-lawful c lawful =
    subst IsLawful (sym (returns-in_ok-copied_rows-clause-value c))
    (lawful_in_task c.args.task.now c.recall.ensures.task c.recall.ensures.limits c.args.reduction.now.classes c.requires.reduction.classes_by.fit c.requires.reduction.classes_by.numbered c.args.reduction.now.representatives.items
    c.requires.represented.as_many c.args.certificate c.requires.version lawful)

pub returns-else-do_share_classes-clause-held : goal.returns-else-do_share_classes-clause-held
returns-else-do_share_classes-clause-held c held =
    subst (IsHeld c.args.task.now) (sym (returns-else-do_share_classes-clause-value c))
    (held_in_task c.args.task.now c.args.reduction.now.classes c.args.reduction.now.retained.items c.args.reduction.now.representatives.items c.recall.ensures.task c.requires.reduction c.requires.represented c.args.certificate
    (no_classes (λ (r : Row). r.classes) c.classes.result.now c.args.certificate.classes (c.classes.ensures.some ∙ ap has_classes c.requires.version) c.classes.ensures.classes)
    (subst HaveNumberedRows c.into_parts-kind.ensures.columns c.in_ok-columns.ensures.numbered)
    (subst (λ (t : FiniteDomainTask). IsHeld t c.args.certificate) c.requires.task held))

pub returns-else-do_share_classes-clause-lawful : goal.returns-else-do_share_classes-clause-lawful
returns-else-do_share_classes-clause-lawful c lawful =
    subst IsLawful (sym (returns-else-do_share_classes-clause-value c))
    (lawful_in_task c.args.task.now c.recall.ensures.task c.recall.ensures.limits c.args.reduction.now.classes c.requires.reduction.classes_by.fit c.requires.reduction.classes_by.numbered c.args.reduction.now.representatives.items
    c.requires.represented.as_many c.args.certificate c.requires.version lawful)
