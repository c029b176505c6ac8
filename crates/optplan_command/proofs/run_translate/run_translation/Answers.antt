use Rattle.std.proofs.Common.{◌≡◌, ◌≢◌, ◌≤◌, ◌+◌, ◌++◌, arith, append_assoc}
use Rattle.optplan_explain.specs.Explanations.{IsExplained}
use Rattle.optplan_explain.specs.Files.{task_files}
use Rattle.optplan_replies.specs.declared.status.Status.TheVariants.{DeviceFailed}
use Rattle.optplan_replies.specs.Runs.{task_reads}
use Rattle.optplan_replies.proofs.Replies.{task_reads_same}
use Rattle.optplan_command.specs.Translating.{IsTranslationText, IsTranslationRefusal}
use Rattle.optplan_command.proofs.Translations.{translation_refusal_status, text_replied, text_reply_failed}
use Rattle.optplan_replies.proofs.Unput.{unput_then}
use Rattle.optplan_command.proofs.run_translate.run_translation.Goals as goal

pub returns-in-Ok-clause-done : goal.returns-in-Ok-clause-done
returns-in-Ok-clause-done g c = λ h is same known.
    let domain = c.args.domain.now in let problem = c.args.problem.now in
    let d = c.deref.result.now in let p = c.deref-in-Ok.result.now in
    let answer = c.explained_translation-answer.result in let status = c.reply_text.result in
    let old = g.D.Device.failure_count c.args.device.now in
    let mid = g.D.Device.failure_count c.read_task_files.new.device in
    let new = g.D.Device.failure_count c.reply_text.new.device in
    let read : mid ≡ old = c.in-Ok.ensures.same in
    let well : status ≢ DeviceFailed = λ device_failed.
    let failed : mid + 1 ≤ new = text_reply_failed (IsTranslationRefusal d p) answer status mid new (translation_refusal_status d p) c.explained_translation-answer.ensures.refused c.reply_text.ensures.counted (c.reply_text.ensures.refusal known) device_failed in
    omega (arith, failed, same, read) in
    let before = task_reads_same (g.D.Device.history c.read_task_files.new.device) h domain c.in-Ok.domain_text.items d problem c.in-Ok.problem_text.items p
    c.deref.ensures.value c.deref-in-Ok.ensures.value (c.in-Ok.ensures.told h is) in
    let told = h ++ task_reads domain d problem p in
    let after = text_replied (IsTranslationText d p) (IsTranslationRefusal d p) (IsExplained c.args.explains (task_files domain d problem p)) answer (g.D.Device.history c.read_task_files.new.device) (g.D.Device.history c.reply_text.new.device) told status
    before c.explained_translation-answer.ensures.text c.explained_translation-answer.ensures.refused c.explained_translation-answer.ensures.explained
    (c.reply_text.ensures.answered known well) (c.reply_text.ensures.status known well) (c.reply_text.ensures.refused told before) (c.reply_text.ensures.refusal known) in (
      told ++ after.0,
      after.1,
      record {
        domain_text = d;
        problem_text = p;
        later = after.0;
        events = append_assoc h (task_reads domain d problem p) after.0;
        follows = after.2;
      },
    )

pub returns-in-Ok-clause-unput : goal.returns-in-Ok-clause-unput
returns-in-Ok-clause-unput g c = λ memory.
    let history = g.D.Device.history in
    unput_then (history c.args.device.now) (history c.read_task_files.new.device) (history c.reply_text.new.device) c.in-Ok.ensures.unput
    (c.reply_text.ensures.unput memory)

pub returns-in-Err-clause-unput : goal.returns-in-Err-clause-unput
returns-in-Err-clause-unput g c = λ memory.
    let history = g.D.Device.history in
    unput_then (history c.args.device.now) (history c.read_task_files.new.device) (history c.report.new.device) c.in-Err.ensures.unput c.report.ensures.unput
