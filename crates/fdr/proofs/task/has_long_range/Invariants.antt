use Rattle.std.proofs.Common.{◌≡◌, drop}
use Rattle.fdr.specs.Tasks as spec
use Rattle.fdr.proofs.task.has_long_range.Given as goal

abbrev pub invariant-loop-names : goal.invariant-loop-names
invariant-loop-names l =
    spec.has_long_range (spec.names_in (drop l.names-index l.value_names)) ≡ spec.has_long_range (spec.names_in l.value_names)
