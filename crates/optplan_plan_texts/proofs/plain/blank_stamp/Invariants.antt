use Rattle.std.proofs.Common.{◌≡◌, ◌++◌, take, drop, length}
use Rattle.optplan_plan_texts.specs.Plain.{without_stamp}
use Rattle.optplan_plan_texts.proofs.plain.blank_stamp.Given as goal

abbrev pub invariant-loop-at : goal.invariant-loop-at
invariant-loop-at l = take l.at l.line ++ without_stamp (drop l.at l.line) ≡ without_stamp l.initial.line
