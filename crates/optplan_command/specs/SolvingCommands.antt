-- The commands that solve a task: their names, and what each does for its arguments.
use Rattle.std.specs.Prelude.{ℕ, List, Option, codes}
use Rattle.optplan_device.specs.Events.{Event}
use Rattle.optplan_replies.specs.declared.status.Status.{Status}
use Rattle.optplan_command.specs.SolveWords.{SolvesByWords, SolvesSasByWords}
use Rattle.optplan_command.specs.declared.solve_words.SolvingCommand.{SolvingCommand}
use Rattle.optplan_command.specs.declared.solve_words.SolvingCommand.TheVariants.{Solve, SolveSas}

abbrev pub name_of : SolvingCommand → List ℕ
name_of Solve = codes "solve"
name_of SolveSas = codes "solve-sas"

-- the task is solved as the arguments of the command request
abbrev pub Solved : SolvingCommand → (List ℕ → Option (List ℕ)) → List Event → List Event → Status → Type 0
Solved Solve value old new status = SolvesByWords value old new status
Solved SolveSas value old new status = SolvesSasByWords value old new status
