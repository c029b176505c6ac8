use Rattle.std.proofs.Common.{◌≡◌, ◌++◌, sym, ◌∙◌, arith}
use Rattle.std.specs.Option.{option_map}
use Rattle.cert_text.specs.Spelling.{spelling}
use Rattle.optplan_replies.proofs.Unput.{unput_then}
use Rattle.optplan_solve.specs.Outputs.{files_of, length_report}
use Rattle.optplan_solve.proofs.Replying.{outputs_are}
use Rattle.optplan_solve.proofs.outputs.put_answer.Goals as goal

pub returns-in_default-report_length-clause-unput : goal.returns-in_default-report_length-clause-unput
returns-in_default-report_length-clause-unput g c = λ failed.
    let history = g.D.Device.history in
    unput_then (history c.args.device.now) (history c.report_length.new.device) (history c.report-in_default-report_length.new.device)
    c.report_length.ensures.unput c.report-in_default-report_length.ensures.unput

pub returns-in-Ok-write_all-clause-told : goal.returns-in-Ok-write_all-clause-told
returns-in-Ok-write_all-clause-told g c = λ h is same known well.
    let failure_count = g.D.Device.failure_count in
    let cert = option_map (λ t. t.items) c.in-Ok-certificate_text.cert in
    let plan = option_map (λ t. t.now) c.plan_text_of.result in
    let counted = c.report_length.ensures.counted in
    let written = c.in-Ok-write_all.ensures.same in
    let uncounted : failure_count c.report_length.new.device ≡ failure_count c.args.device.now = omega (arith, same, counted, written) in
    let reported = c.in-Ok-report_length.ensures.told h is uncounted in
    let cert_is : cert ≡ option_map spelling c.certificate_of.result.now = c.in-Ok-certificate_text.ensures in
    outputs_are (files_of c.args.settings.now) c.args.answer.now (g.D.Device.history c.write_all.new.device) h cert plan c.as_str.result.now
    (cc) c.plan_text_of.ensures (c.as_str.ensures.value ∙ c.in-Ok.ensures) (c.in-Ok-write_all.ensures.told (h ++ length_report cert) reported)

pub returns-clause-unput : goal.returns-clause-unput
returns-clause-unput g c = λ failed.
    let old = g.D.Device.history c.args.device.now in
    let reported = g.D.Device.history c.report_length.new.device in
    let written = g.D.Device.history c.write_all.new.device in
    let new = g.D.Device.history c.report-in-Err.new.device in
    unput_then old reported new c.report_length.ensures.unput
    (unput_then reported written new (c.in-Err.ensures.unput (sym c.status.ensures ∙ failed)) c.report-in-Err.ensures.unput)
