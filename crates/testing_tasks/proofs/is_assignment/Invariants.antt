use Rattle.std.proofs.Common.{◌≡◌, ℕ, ◌<◌, get_or, drop}
use Rattle.fdr.specs.declared.fact.Fact.{Fact}
use Rattle.fdr.specs.Tasks.{IsInRange, are_distinct}
use Rattle.testing_tasks.proofs.is_assignment.Given as goal

abbrev pub invariant-loop-place : goal.invariant-loop-place
invariant-loop-place l =
    record {
      in_range : (k : ℕ) (d : Fact) → k < l.place → IsInRange l.ranges (get_or l.facts k d);
      distinct : are_distinct (drop l.place l.facts) ≡ are_distinct l.facts;
    }
