use Rattle.std.proofs.Common.{◌≡◌, ◌++◌, drop}
use Rattle.std.specs.String.{string_bytes}
use Rattle.std.specs.List.{flat_map}
use Rattle.validate.specs.Written.{step_line}
use Rattle.validate.proofs.writing.push_steps.Given as goal

abbrev pub invariant-loop-step : goal.invariant-loop-step
invariant-loop-step l = string_bytes l.text ++ flat_map step_line (drop l.step-index l.steps) ≡ string_bytes l.fn.text ++ flat_map step_line l.steps
