use Rattle.std.proofs.Common.{◌∙◌, ◌-◌, ◌^◌, ap, sym, subst, min, length, lit<}
use Rattle.owner_theory.specs.Families.{IsSearchSpace}
use Rattle.owner_theory.proofs.Worlds.{run_ok, count_zero}
use Rattle.netcore.proofs.Places.{at_here}
use Rattle.netcore.proofs.Expanding.{owner_space}
use Rattle.netcore.proofs.Counting.{count_of, no_more}
use Rattle.netcore.proofs.Remaining.{some_step}
use Rattle.netcore.proofs.world.World.count.Goals as goal

pub returns-clause-count : goal.returns-clause-count
returns-clause-count g c =
    rw (← c.self.view_is)
    (λ world shows. (rw (← c.self.view_is) at c.pending.ensures)
    ∙ ap (λ n. min n (2 ^ 128 - 1)) (sym (count_of g.S.Spread.owner _ world c.self.invariant
    (λ state. g.met.S.Spread.is_below c.self.inside.space.now.spread state (length c.self.inside.owners.items) c.self.invariant.some) shows)))

pub returns-clause-quiet : goal.returns-clause-quiet
returns-clause-quiet g c =
    let at = at_here c.self.inside.owners.items 0 c.index-first.result.now c.self.invariant.some c.index-first.ensures in
    let sp = subst IsSearchSpace (owner_space g.S.Spread.owner _ 0 c.index-first.result.now c.self.invariant at) c.recall.ensures.space in
    rw (← c.self.view_is)
    (λ zero asked after. count_zero _ _ sp (run_ok _ after.steps sp)
    (count_of g.S.Spread.owner _ _ c.self.invariant sp.owner after.shown
    ∙ no_more _ (2 ^ 128 - 1) (lit< tt) (sym (rw (← c.self.view_is) at c.pending.ensures) ∙ zero)))

pub returns-clause-possible : goal.returns-clause-possible
returns-clause-possible g c =
    rw (← c.self.view_is)
    (some_step g.S.Spread.owner _ c.self.invariant (2 ^ 128 - 1) c.pending.result (rw (← c.self.view_is) at c.pending.ensures))
