use Rattle.std.proofs.Common.{◌++◌, refl, sym, ◌∙◌, inl, inr}
use Rattle.std.specs.Prelude.{option_map, string_bytes}
use Rattle.optplan_solve.specs.Outputs.{files_of, creations}
use Rattle.optplan_solve.proofs.Refusals.{text_refusal_status}
use Rattle.optplan_solve.proofs.Texts.{prepared_from, refused_from, explained_from}
use Rattle.optplan_solve.proofs.solving.solve_texts.Goals as goal

pub returns-in-Ok-clause-done : goal.returns-in-Ok-clause-done
returns-in-Ok-clause-done g c = λ h is same known.
    let after = c.solve_prepared.ensures.done h c.args.domain.items c.args.problem.items
    (prepared_from c.certificate-certificate.result c.args.settings.now.options.certificate c.deref.result.now c.args.domain.items c.deref-2.result.now c.args.problem.items
    c.in-Ok.prepared c.certificate-certificate.ensures c.deref.ensures.value c.deref-2.ensures.value c.in-Ok.ensures.prepared) is same known in
    (creations (files_of c.args.settings.now) ++ after.0, after.1, inr (after.0, refl, after.2))

pub returns-in-Err-clause-done : goal.returns-in-Err-clause-done
returns-in-Err-clause-done g c = λ h is same known.
    let refusal = c.in-Err.refusal in
    let explanation = option_map string_bytes refusal.explanation in
    let told = c.report_refusal.ensures.told h is in
    let refused = refused_from c.deref.result.now c.args.domain.items c.deref-2.result.now c.args.problem.items refusal.fault
    c.deref.ensures.value c.deref-2.ensures.value c.in-Err.ensures.refused in
    let explained = explained_from c.args.settings.now.explains c.args.names.domain.now c.deref.result.now c.args.domain.items c.args.names.problem.now c.deref-2.result.now c.args.problem.items
    refusal.fault explanation c.deref.ensures.value c.deref-2.ensures.value c.in-Err.ensures.explained in
    (told.0, told.1, inl (refusal.fault, explanation, refused, explained, c.report_refusal.ensures.status known, told.2))

pub returns-in-Err-clause-device_failed : goal.returns-in-Err-clause-device_failed
returns-in-Err-clause-device_failed g c = λ device_failed.
    absurd (text_refusal_status c.deref.result.now c.deref-2.result.now c.in-Err.refusal.fault c.in-Err.ensures.refused (sym (c.report_refusal.ensures.status (λ memory. cc)) ∙ device_failed))
