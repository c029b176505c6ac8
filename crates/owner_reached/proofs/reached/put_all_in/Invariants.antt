use Rattle.std.proofs.Common.{ℕ, List, drop, All}
use Rattle.cost.specs.Distances.{Distance}
use Rattle.owner_theory.specs.Owners.{Node}
use Rattle.owner_space.specs.Keyed.{IsKeyed}
use Rattle.owner_reached.proofs.Adding.{AreAdding}
use Rattle.owner_reached.proofs.reached.put_all_in.Given as goal

abbrev pub invariant-loop-place : goal.invariant-loop-place
invariant-loop-place g l = record {
  room : g.L.OpenList.HasRoom l.list (drop l.place l.fs);
  stored : All (IsKeyed l.ties) (g.L.OpenList.entries l.fn.list) → All (IsKeyed l.ties) (g.L.OpenList.entries l.list);
  queued : (values : g.row.F.Denot → List ℕ) (h : List ℕ → Distance) (after : List Node)
      → AreAdding l.ties values h l.table.ever after l.messages l.fs l.outcomes (g.L.OpenList.entries l.fn.list)
      → AreAdding l.ties values h l.table.ever after (drop l.place l.messages) (drop l.place l.fs) (drop l.place l.outcomes) (g.L.OpenList.entries l.list);
}
