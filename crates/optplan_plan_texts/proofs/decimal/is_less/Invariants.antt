use Rattle.std.proofs.Common.{◌≡◌, ℕ, ◌<◌, get_or}
use Rattle.optplan_plan_texts.specs.Decimals.{read}
use Rattle.optplan_plan_texts.specs.Passes.{aligned}
use Rattle.optplan_plan_texts.proofs.decimal.is_less.Given as goal

abbrev pub invariant-loop-place : goal.invariant-loop-place
invariant-loop-place l = (k : ℕ) → k < l.place → get_or (aligned l.wholes (read l.a)) k 48 ≡ get_or (aligned l.wholes (read l.b)) k 48
