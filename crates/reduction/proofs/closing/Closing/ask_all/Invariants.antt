use Rattle.std.proofs.Common.{◌≡◌, take}
use Rattle.reduction.specs.Closing.{Asks}
use Rattle.reduction.proofs.closing.Closing.ask_all.Given as goal

abbrev pub invariant-loop-fact : goal.invariant-loop-fact
invariant-loop-fact l =
    record {
      asks : Asks l.fn.self.asked l.self.asked l.fn.self.pending.items l.self.pending.items (take l.fact-index l.facts);
      changing : l.self.changing.items ≡ l.fn.self.changing.items;
      visited : l.self.visited.items ≡ l.fn.self.visited.items;
    }
