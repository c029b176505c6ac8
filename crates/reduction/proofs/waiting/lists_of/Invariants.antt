use Rattle.std.proofs.Common.{◌≡◌, map}
use Rattle.std.specs.Prelude.{slice_index}
use Rattle.std.specs.List.{range_with_len}
use Rattle.fdr.specs.Tasks.{ranges}
use Rattle.keyed_lists.specs.Lists.{lists_by, items_with}
use Rattle.reduction.proofs.waiting.lists_of.Given as goal

abbrev pub invariant-loop-variable : goal.invariant-loop-variable
invariant-loop-variable l =
    l.lists.items ≡ map (λ v. lists_by (slice_index (ranges l.task) v) (items_with v l.entries)) (range_with_len 0 l.variable)
