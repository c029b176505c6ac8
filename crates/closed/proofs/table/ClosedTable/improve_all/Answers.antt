use Rattle.std.proofs.Common.{ℕ, take, sym, ap, ◌∙◌}
use Rattle.closed.specs.Entries.{taken_back}
use Rattle.closed.proofs.table.ClosedTable.improve_all.Goals as goal

pub returns-in-Err-clause-unchanged : goal.returns-in-Err-clause-unchanged
returns-in-Err-clause-unchanged g c =
    let mid = c.reach_all.new.self in
    let replaced = c.reach_all.new.replaced.items in
    let ranges = c.take_back.ensures.ranges ∙ c.reach_all.ensures.ranges in
    let nodes = c.take_back.ensures.nodes
    ∙ (ap (λ (k : ℕ). taken_back replaced (take k mid.nodes)) c.len-len.ensures ∙ c.reach_all.ensures.taken_back) in
    let ever = c.take_back.ensures.ever
    ∙ (ap (λ (k : ℕ). take k mid.ever) (c.len-len.ensures ∙ sym c.recall.ensures.ever) ∙ c.reach_all.ensures.first) in
    λ j. record { ranges = ranges j; nodes = nodes j; ever = ever j }
