use Rattle.std.proofs.Common.{◌≡◌, ℕ, List, length, sym, ap, ◌∙◌, arith}
use Rattle.owner_theory.specs.Owners.{Node}
use Rattle.closed.specs.declared.small_entry.SmallEntry.{SmallEntry}
use Rattle.closed.specs.Entries.{taken_back}
use Rattle.closed.proofs.TakingBack.{taken_back-push, taken_back-none}
use Rattle.closed.proofs.table.ClosedTable.take_back.Goals as goal

pub loop-index-preserved : goal.loop-index-preserved
loop-index-preserved g c = record {
  nodes =
      ap (λ (ns : List Node). taken_back c.pop.new.self.items ns) c.put_back.ensures.nodes
      ∙ sym (taken_back-push c.pop.new.self.items (c.in-Some.index, c.in-Some.entry) c.loop-index.self.nodes)
      ∙ ap (λ (ps : List (ℕ × SmallEntry)). taken_back ps c.loop-index.self.nodes) (sym c.in-Some.ensures.items)
      ∙ c.loop-index.invariant.nodes;
  ever = c.put_back.ensures.ever ∙ c.loop-index.invariant.ever;
  ranges = c.put_back.ensures.ranges ∙ c.loop-index.invariant.ranges;
}

pub returns-clause-nodes : goal.returns-clause-nodes
returns-clause-nodes g c =
    let none : length c.loop-index.replaced.items ≡ 0 =
    omega (arith, c.in_default.ensures.cases.0, c.loop-index.replaced.ok.0) in
    sym (taken_back-none c.loop-index.replaced.items c.loop-index.self.nodes none)
    ∙ c.loop-index.invariant.nodes
    ∙ ap (λ (ns : List Node). taken_back c.args.replaced.items ns) c.truncate.ensures.nodes
