use Rattle.std.proofs.Common.{sym, subst}
use Rattle.owner_theory.specs.Families.{IsSearchSpace}
use Rattle.netcore.proofs.Places.{at_here}
use Rattle.netcore.proofs.Expanding.{owner_space}
use Rattle.fdr.specs.Tasks.{ranges}
use Rattle.netcore.proofs.Ending.{form_of, end_from, lawful_end, joined_same}
use Rattle.netcore.proofs.world.World.joined.Goals as goal

pub new-requires-clause-lawful : goal.new-requires-clause-lawful
new-requires-clause-lawful g c =
    let at = at_here c.self.inside.owners.items 0 c.index-first.result.now c.self.invariant.some c.index-first.ensures in
    let sp = subst IsSearchSpace (owner_space g.S.Spread.owner _ 0 c.index-first.result.now c.self.invariant at) c.recall.ensures.space in
    rw (← joined_same (g.F.StateForm.values (ranges c.self.inside.space.now.task)) c.self.inside.underway.items)
    (lawful_end g.S.Spread.owner _ c.self.invariant sp)

pub new-requires-clause-form : goal.new-requires-clause-form
new-requires-clause-form g c = rw (← joined_same (g.F.StateForm.values (ranges c.self.inside.space.now.task)) c.self.inside.underway.items) (form_of g.S.Spread.owner _ c.self.invariant)

pub returns-clause-shown : goal.returns-clause-shown
returns-clause-shown g c =
    let at = at_here c.self.inside.owners.items 0 c.index-first.result.now c.self.invariant.some c.index-first.ensures in
    let sp = subst IsSearchSpace (owner_space g.S.Spread.owner _ 0 c.index-first.result.now c.self.invariant at) c.recall.ensures.space in
    rw (c.new.ensures, ← c.self.view_is, ← joined_same (g.F.StateForm.values (ranges c.self.inside.space.now.task)) c.self.inside.underway.items)
    (λ asked after. end_from g.S.Spread.owner _ asked after c.self.invariant sp)

pub returns-clause-left : goal.returns-clause-left
returns-clause-left g c = rw (c.new.ensures, ← c.self.view_is) (sym (joined_same (g.F.StateForm.values (ranges c.self.inside.space.now.task)) c.self.inside.underway.items))
