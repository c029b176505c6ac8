use Rattle.std.proofs.Common.{◌≡◌, length, map, None}
use Rattle.closed.specs.Tables.{fresh}
use Rattle.owner.specs.Owned.{space_of}
use Rattle.owner.specs.Successors.{AreKnown}
use Rattle.owner.proofs.successors.look_up.Given as goal

abbrev pub invariant-loop-place : goal.invariant-loop-place
invariant-loop-place g l =
    record {
      as_many : length l.known.items ≡ l.place;
      known : AreKnown (space_of g.S.Spread.owner l.holdings) l.holdings.worker l.next.index (fresh l.state l.next.rank None) l.holdings.nodes
          (map (λ s. s.operator) l.successors) l.known.items;
    }
