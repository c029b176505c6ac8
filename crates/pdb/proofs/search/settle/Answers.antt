use Rattle.std.proofs.Common.{ℕ, ◌∷◌, arith}
use Rattle.std.proofs.lemmas.List.Sorted.{length_permutation}
use Rattle.pdb.specs.Classes.{share_by}
use Rattle.pdb.proofs.Expansion.{inside_taken, IsSearchBut-taken, IsSearch-skipped}
use Rattle.pdb.proofs.search.settle.Goals as goal

pub bounds-values-state : goal.bounds-values-state
bounds-values-state g c =
    let a = g.T.BackwardTransitions.abstraction c.args.transitions.now in
    let share : ℕ → ℕ = share_by (g.T.BackwardTransitions.classes c.args.transitions.now) c.args.least.now in
    let inv = c.loop-entry.invariant in
    let taken = rw c.in-Some.is at c.in_ok-entry.ensures.some in
    omega (arith, inside_taken a share c.loop-entry.values c.loop-entry.queue c.take.new.self c.in-Some.entry inv taken, inv.sound.as_long)

pub expand-requires-clause-search : goal.expand-requires-clause-search
expand-requires-clause-search g c =
    let a = g.T.BackwardTransitions.abstraction c.args.transitions.now in
    let share : ℕ → ℕ = share_by (g.T.BackwardTransitions.classes c.args.transitions.now) c.args.least.now in
    let taken = rw c.in-Some.is at c.in_ok-entry.ensures.some in
    IsSearchBut-taken a share c.loop-entry.values c.loop-entry.queue c.take.new.self c.in-Some.entry c.loop-entry.invariant taken (omega (arith, c.if-values-state.true))

pub loop-entry-smaller-in-Continue-branch-3 : goal.loop-entry-smaller-in-Continue-branch-3
loop-entry-smaller-in-Continue-branch-3 g c =
    let taken = rw c.in-Some.is at c.in_ok-entry.ensures.some in
    omega (arith, c.in_ok-expand.ensures.work, length_permutation c.loop-entry.queue (c.in-Some.entry ∷ c.take.new.self) taken)

pub loop-entry-smaller : goal.loop-entry-smaller
loop-entry-smaller g c =
    let taken = rw c.in-Some.is at c.in_ok-entry.ensures.some in
    omega (arith, length_permutation c.loop-entry.queue (c.in-Some.entry ∷ c.take.new.self) taken)

pub loop-entry-preserved : goal.loop-entry-preserved
loop-entry-preserved g c =
    let a = g.T.BackwardTransitions.abstraction c.args.transitions.now in
    let share : ℕ → ℕ = share_by (g.T.BackwardTransitions.classes c.args.transitions.now) c.args.least.now in
    let taken = rw c.in-Some.is at c.in_ok-entry.ensures.some in
    IsSearch-skipped a share c.loop-entry.values c.loop-entry.queue c.take.new.self c.in-Some.entry c.loop-entry.invariant taken (λ e. omega (arith, c.if-values-state.false))
