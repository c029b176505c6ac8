use Rattle.std.proofs.Common.{◌≡◌, length}
use Rattle.owner.specs.Successors.{AreOwnHints}
use Rattle.owner.proofs.successors.read_hints.Given as goal

abbrev pub invariant-loop-successor : goal.invariant-loop-successor
invariant-loop-successor g l =
    record {
      as_many : length l.hints.items ≡ l.successor-index;
      hints : AreOwnHints g.F.Hash.hash_input l.holdings.worker l.successors l.hints.items;
    }
