use Rattle.std.proofs.Common.{[], ◌∷◌, ◌++◌, sym, ◌∙◌, append_assoc}
use Rattle.optplan_device.specs.Events.{HasRead}
use Rattle.optplan_replies.proofs.Unput.{unput_then}
use Rattle.optplan_solve.proofs.Replying.{added}
use Rattle.optplan_solve.proofs.sas_solving.run_solve_sas.Goals as goal

pub returns-in-Ok-clause-done : goal.returns-in-Ok-clause-done
returns-in-Ok-clause-done g c = λ h is same known.
    let read = HasRead c.args.sas.now c.in-Ok.text.items in
    let before = added (g.D.Device.history c.args.device.now) (g.D.Device.history c.read_file.new.device) h read is c.in-Ok.ensures.told in
    let after = c.solve_text.ensures.done (h ++ read ∷ []) before (same ∙ sym c.in-Ok.ensures.same) known in (
      (h ++ read ∷ []) ++ after.0,
      after.1,
      record {
        sas_text = c.in-Ok.text.items;
        later = after.0;
        events = append_assoc h (read ∷ []) after.0;
        follows = after.2;
      },
    )

pub returns-in-Ok-clause-unput : goal.returns-in-Ok-clause-unput
returns-in-Ok-clause-unput g c = λ memory.
    let history = g.D.Device.history in
    unput_then (history c.args.device.now) (history c.read_file.new.device) (history c.solve_text.new.device)
    c.in-Ok.ensures.unput (c.solve_text.ensures.unput memory)

pub returns-in-Err-clause-unput : goal.returns-in-Err-clause-unput
returns-in-Err-clause-unput g c = λ memory.
    let history = g.D.Device.history in
    unput_then (history c.args.device.now) (history c.read_file.new.device) (history c.report.new.device) c.in-Err.ensures.unput c.report.ensures.unput
