use Rattle.std.proofs.Common.{◌≡◌, [], length, take, max}
use Rattle.std.specs.Prelude.{filter}
use Rattle.std.specs.List.{flat_map, fold}
use Rattle.mutex.specs.Candidates.{instances, is_proposal}
use Rattle.mutex.specs.Proposals.{with_group}
use Rattle.mutex.proofs.proposals.groups.Given as goal

abbrev pub invariant-loop-candidate : goal.invariant-loop-candidate
invariant-loop-candidate l =
    record {
      count : length l.lists.items ≡ max (length l.index.task.object_types) 1;
      groups : l.groups ≡ fold with_group [] (filter (is_proposal l.index) (flat_map (instances l.index) (take l.candidate-index l.candidate-items)));
    }
