use Rattle.std.proofs.Common.{ℕ, ◌<◌, ◌≤◌, length}
use Rattle.pdb.specs.Numbers.{distance_in}
use Rattle.pdb.specs.Saturations.{AreFalls, AreFull, IsCoveredAt}
use Rattle.pdb.proofs.saturation.cover_all.Given as goal

abbrev pub invariant-loop-state : goal.invariant-loop-state
invariant-loop-state g l = record {
  within : l.first ≤ length l.greatest;
  full : AreFull l.first l.least l.greatest;
  reached : AreFalls (g.T.BackwardTransitions.abstraction l.transitions) (g.T.BackwardTransitions.classes l.transitions) (distance_in l.values) l.greatest;
  covered : (j : ℕ) → j < l.state → IsCoveredAt (g.T.BackwardTransitions.abstraction l.transitions) (g.T.BackwardTransitions.classes l.transitions) (distance_in l.values) j l.greatest;
}
