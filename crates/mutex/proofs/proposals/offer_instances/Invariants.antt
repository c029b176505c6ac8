use Rattle.std.proofs.Common.{◌≡◌, map}
use Rattle.std.specs.Prelude.{filter}
use Rattle.std.specs.List.{fold, range_with_len}
use Rattle.mutex.specs.Candidates.{instance, is_proposal}
use Rattle.mutex.specs.Proposals.{with_group}
use Rattle.mutex.proofs.proposals.offer_instances.Given as goal

abbrev pub invariant-loop-object : goal.invariant-loop-object
invariant-loop-object l =
    l.groups ≡ fold with_group l.fn.groups (filter (is_proposal l.index) (map (instance l.index l.candidate) (range_with_len 0 l.object)))
