use Rattle.std.proofs.Common.{◌≡◌, ◌++◌, take, drop}
use Rattle.optplan_plan_texts.specs.Plain.{without_duration}
use Rattle.optplan_plan_texts.proofs.plain.blank_duration.Given as goal

abbrev pub invariant-loop-at : goal.invariant-loop-at
invariant-loop-at l = take l.at l.bytes ++ without_duration (drop l.at l.bytes) ≡ without_duration l.initial.bytes
