use Rattle.std.proofs.Common.{◌≡◌, ◌-◌, ◌++◌, take, drop, length, true}
use Rattle.optplan_plan_texts.specs.Passes.{text_if}
use Rattle.optplan_plan_texts.proofs.plain.blank_stamps.Given as goal

abbrev pub invariant-loop-at : goal.invariant-loop-at
invariant-loop-at l = take l.at l.text ++ text_if l.ascending (drop l.at l.text) ≡ text_if true l.initial.text

abbrev pub decreases-loop-at : goal.decreases-loop-at
decreases-loop-at l = length l.initial.text - l.at
