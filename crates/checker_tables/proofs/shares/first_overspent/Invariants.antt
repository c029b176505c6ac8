use Rattle.std.proofs.Common.{◌≡◌, ℕ, ◌<◌, true, map}
use Rattle.cert_value.specs.Views as kept
use Rattle.checker_clauses.specs.Clauses.{is_within_cost}
use Rattle.checker_tables.proofs.shares.first_overspent.Given as goal

abbrev pub invariant-loop-operator : goal.invariant-loop-operator
invariant-loop-operator l = (o : ℕ) → o < l.operator → is_within_cost l.task (map kept.table_of l.column) o ≡ true
