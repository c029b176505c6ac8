use Rattle.optplan_replies.proofs.Unput.{unput_then}
use Rattle.optplan_solve.proofs.outputs.create_files.Goals as goal

pub returns-clause-unput : goal.returns-clause-unput
returns-clause-unput g c =
    let history = g.D.Device.history in
    unput_then (history c.args.device.now) (history c.write_file.new.device) (history c.write_file-2.new.device) c.write_file.ensures.unput c.write_file-2.ensures.unput
