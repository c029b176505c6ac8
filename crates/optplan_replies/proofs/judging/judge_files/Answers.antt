use Rattle.std.proofs.Common.{◌≡◌, ◌≢◌, ◌≤◌, ◌+◌, ◌++◌, arith, append_assoc}
use Rattle.optplan_replies.specs.declared.status.Status.TheVariants.{DeviceFailed}
use Rattle.optplan_replies.proofs.Replies.{answered_texts, known_answer, reply_failed}
use Rattle.optplan_replies.proofs.Unput.{unput_then}
use Rattle.optplan_replies.proofs.judging.judge_files.Goals as goal

pub returns-in-Ok-clause-done : goal.returns-in-Ok-clause-done
returns-in-Ok-clause-done g c = λ h is same known.
    let texts = c.in-Ok.texts in
    let Answers = g.J.Judge.is_answer texts in let Refuses = g.J.Judge.is_refusal texts in
    let Explains = g.J.Judge.is_explained c.args.command.now texts in
    let answer = c.answer-answered.result in let status = c.reply.result in
    let history = g.D.Device.history in let count = g.D.Device.failure_count in
    let mid = count c.read.new.device in let new = count c.reply.new.device in
    let answered = c.requires.answers texts answer c.answer-answered.ensures in
    let read : mid ≡ count c.args.device.now = c.in-Ok.ensures.same in
    let well : status ≢ DeviceFailed = λ device_failed.
    let failed : mid + 1 ≤ new = reply_failed Answers Refuses Explains answer status mid new answered c.reply.ensures.counted (c.reply.ensures.refusal known) device_failed in
    omega (arith, failed, same, read) in
    let reads = g.J.Judge.reads c.args.command.now texts in
    let told = h ++ reads in
    let before = c.in-Ok.ensures.told h is in
    let after = answered_texts Answers Refuses Explains answer (history c.read.new.device) (history c.reply.new.device) told status before answered
    (c.reply.ensures.answered known well) (c.reply.ensures.status known well) (c.reply.ensures.refused told before) (c.reply.ensures.refusal known) in (
      told ++ after.0,
      after.1,
      record { texts = texts; later = after.0; events = append_assoc h reads after.0; follows = after.2 },
    )

pub returns-in-Ok-clause-unput : goal.returns-in-Ok-clause-unput
returns-in-Ok-clause-unput g c = λ memory.
    let history = g.D.Device.history in
    let texts = c.in-Ok.texts in
    unput_then (history c.args.device.now) (history c.read.new.device) (history c.reply.new.device) c.in-Ok.ensures.unput
    (c.reply.ensures.unput memory (known_answer (g.J.Judge.is_answer texts) (g.J.Judge.is_refusal texts) (g.J.Judge.is_explained c.args.command.now texts) c.answer-answered.result (c.requires.answers texts c.answer-answered.result c.answer-answered.ensures)))

pub returns-in-Err-clause-unput : goal.returns-in-Err-clause-unput
returns-in-Err-clause-unput g c = λ memory.
    let history = g.D.Device.history in
    unput_then (history c.args.device.now) (history c.read.new.device) (history c.report.new.device) c.in-Err.ensures.unput c.report.ensures.unput
