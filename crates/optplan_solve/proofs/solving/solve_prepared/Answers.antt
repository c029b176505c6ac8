use Rattle.std.proofs.Common.{◌≡◌, ◌≢◌, ◌≤◌, ◌+◌, ◌++◌, arith}
use Rattle.optplan_pddl.specs.Answers.{IsPlanningAnswer}
use Rattle.optplan_replies.specs.declared.status.Status.TheVariants.{DeviceFailed, OutOfMemory}
use Rattle.optplan_replies.proofs.Unput.{unput_then}
use Rattle.optplan_solve.specs.Outputs.{files_of, creations}
use Rattle.optplan_solve.specs.Schedules.{EndsBy}
use Rattle.optplan_solve.specs.Solving.{IsSearchReport}
use Rattle.optplan_solve.proofs.Replying.{regrouped, replied, reply_failed}
use Rattle.optplan_solve.proofs.Refusals.{search_report_status}
use Rattle.optplan_solve.proofs.solving.solve_prepared.Goals as goal

pub returns-in-Ok-clause-done : goal.returns-in-Ok-clause-done
returns-in-Ok-clause-done g c = λ h domain problem prepared is same known.
    let choices = c.args.settings.now.options in let schedule = c.args.settings.now.schedule in let files = files_of c.args.settings.now in
    let answer = c.answer_of-answer.result in let status = c.reply_answer.result in
    let old = g.D.Device.failure_count c.args.device.now in
    let mid = g.D.Device.failure_count c.create_files.new.device in
    let new = g.D.Device.failure_count c.reply_answer.new.device in
    let created : mid ≡ old = c.in-Ok.ensures.same in
    let uncounted : new ≡ mid = omega (arith, same, created) in
    let well : status ≢ DeviceFailed = λ device_failed.
    let failed : mid + 1 ≤ new = reply_failed (IsSearchReport domain problem choices schedule) answer status mid new (search_report_status domain problem choices schedule)
    (c.answer_of-answer.ensures.refused domain problem prepared) c.reply_answer.ensures.counted (c.reply_answer.ensures.refusal known) device_failed in
    omega (arith, failed, uncounted) in
    let told = h ++ creations files in
    let before = c.in-Ok.ensures.told h is in
    let after = replied (IsPlanningAnswer choices.certificate domain problem (EndsBy choices schedule)) (IsSearchReport domain problem choices schedule) answer files
    (g.D.Device.history c.reply_answer.new.device) told status
    (c.answer_of-answer.ensures.answer domain problem prepared) (c.answer_of-answer.ensures.refused domain problem prepared)
    (c.reply_answer.ensures.answered told before uncounted known well) (c.reply_answer.ensures.status known well)
    (c.reply_answer.ensures.refused told before) (c.reply_answer.ensures.refusal known) in
    (after.0, regrouped (g.D.Device.history c.reply_answer.new.device) h (creations files) after.0 after.1, after.2)

pub returns-in-Ok-clause-device_failed : goal.returns-in-Ok-clause-device_failed
returns-in-Ok-clause-device_failed g c = λ device_failed.
    let choices = c.args.settings.now.options in let schedule = c.args.settings.now.schedule in
    let old = g.D.Device.failure_count c.args.device.now in
    let mid = g.D.Device.failure_count c.create_files.new.device in
    let new = g.D.Device.failure_count c.reply_answer.new.device in
    let domain = c.requires.0 in let problem = c.requires.1.0 in let prepared = c.requires.1.1 in
    let created : mid ≡ old = c.in-Ok.ensures.same in
    let known : c.reply_answer.result ≢ OutOfMemory = λ memory. cc in
    let failed : mid + 1 ≤ new = reply_failed (IsSearchReport domain problem choices schedule) c.answer_of-answer.result c.reply_answer.result mid new
    (search_report_status domain problem choices schedule) (c.answer_of-answer.ensures.refused domain problem prepared)
    c.reply_answer.ensures.counted (c.reply_answer.ensures.refusal known) device_failed in
    omega (arith, failed, created)

pub returns-in-Ok-clause-unput : goal.returns-in-Ok-clause-unput
returns-in-Ok-clause-unput g c = λ memory.
    let history = g.D.Device.history in
    unput_then (history c.args.device.now) (history c.create_files.new.device) (history c.reply_answer.new.device)
    c.in-Ok.ensures.unput (c.reply_answer.ensures.unput memory)

pub returns-in-Err-clause-unput : goal.returns-in-Err-clause-unput
returns-in-Err-clause-unput g c = λ memory.
    let history = g.D.Device.history in
    unput_then (history c.args.device.now) (history c.create_files.new.device) (history c.report.new.device) c.in-Err.ensures.unput c.report.ensures.unput
