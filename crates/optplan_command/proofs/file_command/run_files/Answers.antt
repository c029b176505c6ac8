use Rattle.optplan_command.proofs.file_command.run_files.Goals as goal

pub returns-in-Optimal-clause-done : goal.returns-in-Optimal-clause-done
returns-in-Optimal-clause-done g c = λ h is same known. rw c.in-Optimal.is (c.run_optimality.ensures.done h is same known)
