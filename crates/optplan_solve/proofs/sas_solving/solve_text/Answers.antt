use Rattle.std.proofs.Common.{◌++◌, refl, sym, ◌∙◌, subst, inl, inr}
use Rattle.std.specs.Prelude.{option_map, string_bytes}
use Rattle.sasfile_reader.specs.SasTexts.{SpellsTask}
use Rattle.optplan_explain.specs.Explanations.{IsExplained}
use Rattle.optplan_solve.specs.Outputs.{files_of, creations}
use Rattle.optplan_solve.specs.SasSolving.{files, IsSasTextRefusal}
use Rattle.optplan_solve.proofs.Refusals.{sas_text_refusal_status}
use Rattle.optplan_solve.proofs.sas_solving.solve_text.Goals as goal

pub returns-in-Ok-clause-done : goal.returns-in-Ok-clause-done
returns-in-Ok-clause-done g c = λ h is same known.
    let spelled = subst (λ sas. SpellsTask sas c.in-Ok.task) c.deref.ensures.value c.in-Ok.ensures.spelled in
    let after = c.solve_read.ensures.done h c.args.sas.items spelled is same known in
    (creations (files_of c.args.settings.now) ++ after.0, after.1, inr (after.0, refl, after.2))

pub returns-in-Err-clause-done : goal.returns-in-Err-clause-done
returns-in-Err-clause-done g c = λ h is same known.
    let refusal = c.in-Err.refusal in
    let explanation = option_map string_bytes refusal.explanation in
    let told = c.report_refusal.ensures.told h is in
    let refused = subst (λ sas. IsSasTextRefusal sas refusal.fault) c.deref.ensures.value c.in-Err.ensures.refused in
    let explained = subst (λ sas. IsExplained c.args.settings.now.explains (files c.args.name.now sas) refusal.fault explanation) c.deref.ensures.value c.in-Err.ensures.explained in
    (told.0, told.1, inl (refusal.fault, explanation, refused, explained, c.report_refusal.ensures.status known, told.2))

pub returns-in-Err-clause-device_failed : goal.returns-in-Err-clause-device_failed
returns-in-Err-clause-device_failed g c = λ device_failed.
    absurd (sas_text_refusal_status c.deref.result.now c.in-Err.refusal.fault c.in-Err.ensures.refused (sym (c.report_refusal.ensures.status (λ memory. cc)) ∙ device_failed))
