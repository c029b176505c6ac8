use Rattle.std.proofs.Common.{◌≡◌, ◌≢◌, ◌≤◌, ◌+◌, ◌++◌, ◌∷◌, [], ◌∙◌, ap, arith, append_assoc}
use Rattle.std.specs.Option.{option_map}
use Rattle.optplan_device.specs.Events.{HasRead}
use Rattle.optplan_explain.specs.Explanations.{IsExplained}
use Rattle.optplan_replies.specs.declared.status.Status.TheVariants.{DeviceFailed}
use Rattle.optplan_command.specs.Migrating.{files, IsMigrated, IsMigrationRefusal}
use Rattle.optplan_command.proofs.Translations.{text_replied, text_reply_failed}
use Rattle.optplan_command.proofs.Migrations.{migration_refusal_status}
use Rattle.optplan_replies.proofs.Unput.{unput_then}
use Rattle.optplan_command.proofs.run_migrate_cert.run_migration.Goals as goal

pub returns-in-Ok-clause-done : goal.returns-in-Ok-clause-done
returns-in-Ok-clause-done g c = λ h is same known.
    let t = c.in-Ok.text.items in
    let answer = c.migrated-answer.result in let status = c.reply_text.result in
    let old = g.D.Device.failure_count c.args.device.now in
    let mid = g.D.Device.failure_count c.read_file.new.device in
    let new = g.D.Device.failure_count c.reply_text.new.device in
    let read : mid ≡ old = c.in-Ok.ensures.same in
    let well : status ≢ DeviceFailed = λ device_failed.
    let failed : mid + 1 ≤ new = text_reply_failed (IsMigrationRefusal t) answer status mid new (migration_refusal_status t) c.migrated-answer.ensures.refused c.reply_text.ensures.counted (c.reply_text.ensures.refusal known) device_failed in
    omega (arith, failed, same, read) in
    let reading = HasRead c.args.cert.now t ∷ [] in
    let before = c.in-Ok.ensures.told ∙ ap (option_map (λ events. events ++ reading)) is in
    let told = h ++ reading in
    let after = text_replied (IsMigrated t) (IsMigrationRefusal t) (IsExplained c.args.explains (files c.args.cert.now t)) answer (g.D.Device.history c.read_file.new.device) (g.D.Device.history c.reply_text.new.device) told status
    before c.migrated-answer.ensures.text c.migrated-answer.ensures.refused c.migrated-answer.ensures.explained
    (c.reply_text.ensures.answered known well) (c.reply_text.ensures.status known well) (c.reply_text.ensures.refused told before) (c.reply_text.ensures.refusal known) in (
      told ++ after.0,
      after.1,
      record { cert_text = t; later = after.0; events = append_assoc h reading after.0; follows = after.2 },
    )

pub returns-in-Ok-clause-unput : goal.returns-in-Ok-clause-unput
returns-in-Ok-clause-unput g c = λ memory.
    let history = g.D.Device.history in
    unput_then (history c.args.device.now) (history c.read_file.new.device) (history c.reply_text.new.device) c.in-Ok.ensures.unput
    (c.reply_text.ensures.unput memory)

pub returns-in-Err-clause-unput : goal.returns-in-Err-clause-unput
returns-in-Err-clause-unput g c = λ memory.
    let history = g.D.Device.history in
    unput_then (history c.args.device.now) (history c.read_file.new.device) (history c.report.new.device) c.in-Err.ensures.unput c.report.ensures.unput
