use Rattle.std.proofs.Common.{◌≡◌, ◌++◌, subst}
use Rattle.std.specs.Prelude.{Some, OnOk}
use Rattle.std.specs.Option.{option_map}
use Rattle.std.proofs.lemmas.Result.{on_ok_weaker}
use Rattle.optplan_device.specs.Events.{HasPut, Adds}
use Rattle.optplan_replies.specs.Runs.{IsUnput}
use Rattle.optplan_replies.specs.Faults.{fault_status}
use Rattle.optplan_replies.specs.declared.status.Status.TheVariants.{OutOfMemory}
use Rattle.optplan_replies.proofs.Unput.{unput_same, unput_then}
use Rattle.optplan_solve.specs.Outputs.{text_writes}
use Rattle.optplan_solve.proofs.Replying.{added_last, at_fault, after_fault}
use Rattle.optplan_solve.proofs.outputs.write_all.Goals as goal

pub returns-then-is_out_of_memory-2-clause-unput : goal.returns-then-is_out_of_memory-2-clause-unput
returns-then-is_out_of_memory-2-clause-unput g c =
    let old = g.D.Device.history c.args.device.now in
    let certified = g.D.Device.history c.write_certificate-cert_written.new.device in
    let planned = g.D.Device.history c.write_plan-plan_written.new.device in
    at_fault c.write_plan-plan_written.result (λ e. fault_status e ≡ OutOfMemory) (IsUnput old planned)
    (unput_then old certified planned c.write_certificate-cert_written.ensures.unput c.write_plan-plan_written.ensures.unput)

pub returns-clause-told : goal.returns-clause-told
returns-clause-told g c = λ h is.
    let cert = text_writes (option_map (λ n. n.now) c.args.settings.now.cert) (option_map (λ t. t.items) c.args.cert.now) in
    let plan = text_writes (option_map (λ n. n.now) c.args.settings.now.plan) (option_map (λ t. t.now) c.args.plan) in
    let certified = g.D.Device.history c.write_certificate-cert_written.new.device in
    let planned = g.D.Device.history c.write_plan-plan_written.new.device in
    let new = g.D.Device.history c.put-printed.new.device in
    let certified_is : certified ≡ Some (h ++ cert) = subst (λ r. OnOk r (certified ≡ Some (h ++ cert))) c.in_ok-cert_written-2.was (c.write_certificate-cert_written.ensures.told h is) in
    let planned_is : planned ≡ Some ((h ++ cert) ++ plan) =
    subst (λ r. OnOk r (planned ≡ Some ((h ++ cert) ++ plan))) c.in_ok-plan_written.was (c.write_plan-plan_written.ensures.told (h ++ cert) certified_is) in
    on_ok_weaker c.put-printed.result
    (λ adds. added_last planned new h cert plan (HasPut c.args.text.now) planned_is (subst (λ t. Adds planned new (HasPut t)) c.as_bytes.ensures.value adds))
    c.put-printed.ensures.told

pub returns-clause-unput : goal.returns-clause-unput
returns-clause-unput g c =
    let old = g.D.Device.history c.args.device.now in
    let certified = g.D.Device.history c.write_certificate-cert_written.new.device in
    let planned = g.D.Device.history c.write_plan-plan_written.new.device in
    let new = g.D.Device.history c.put-printed.new.device in
    after_fault c.put-printed.result (λ e. fault_status e ≡ OutOfMemory) (new ≡ planned) (IsUnput old new) c.put-printed.ensures.kept
    (λ same. unput_then old certified new c.write_certificate-cert_written.ensures.unput
    (unput_then certified planned new c.write_plan-plan_written.ensures.unput (unput_same planned new same)))
