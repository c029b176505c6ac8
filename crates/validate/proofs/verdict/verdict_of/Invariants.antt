use Rattle.std.proofs.Common.{◌≡◌, ◌+◌, ◌*◌, ◌≤◌, drop}
use Rattle.validate.specs.States.{holds_in}
use Rattle.validate.specs.Validation.{verdict_from, verdict_of}
use Rattle.validate.proofs.verdict.verdict_of.Given as goal

abbrev pub invariant-loop-place : goal.invariant-loop-place
invariant-loop-place l = record {
  verdict : verdict_from l.task (drop l.place l.plan) (l.place + 1) (holds_in l.state) l.cost ≡ verdict_of l.task l.plan;
  cost : l.cost ≤ l.place * 2147483647;
}
