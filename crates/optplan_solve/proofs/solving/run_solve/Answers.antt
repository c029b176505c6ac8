use Rattle.std.proofs.Common.{◌++◌, sym, ◌∙◌, append_assoc}
use Rattle.optplan_replies.specs.Runs.{task_reads}
use Rattle.optplan_replies.proofs.Unput.{unput_then}
use Rattle.optplan_solve.proofs.solving.run_solve.Goals as goal

pub returns-in-Ok-clause-done : goal.returns-in-Ok-clause-done
returns-in-Ok-clause-done g c = λ h is same known.
    let d = c.in-Ok.domain_text.items in let p = c.in-Ok.problem_text.items in
    let reads = task_reads c.args.domain.now d c.args.problem.now p in
    let after = c.solve_texts.ensures.done (h ++ reads) (c.in-Ok.ensures.told h is) (same ∙ sym c.in-Ok.ensures.same) known in (
      (h ++ reads) ++ after.0,
      after.1,
      record {
        domain_text = d;
        problem_text = p;
        later = after.0;
        events = append_assoc h reads after.0;
        follows = after.2;
      },
    )

pub returns-in-Ok-clause-unput : goal.returns-in-Ok-clause-unput
returns-in-Ok-clause-unput g c = λ memory.
    let history = g.D.Device.history in
    unput_then (history c.args.device.now) (history c.read_task_files.new.device) (history c.solve_texts.new.device)
    c.in-Ok.ensures.unput (c.solve_texts.ensures.unput memory)

pub returns-in-Err-clause-unput : goal.returns-in-Err-clause-unput
returns-in-Err-clause-unput g c = λ memory.
    let history = g.D.Device.history in
    unput_then (history c.args.device.now) (history c.read_task_files.new.device) (history c.report.new.device) c.in-Err.ensures.unput c.report.ensures.unput
