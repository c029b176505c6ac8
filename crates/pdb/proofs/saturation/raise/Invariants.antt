use Rattle.std.proofs.Common.{ℕ, ◌<◌, ◌≤◌, slice_index, get_or}
use Rattle.pdb_walks.specs.Walks.{fall}
use Rattle.pdb.specs.Numbers.{distance_in}
use Rattle.pdb.specs.Saturations.{AreFalls}
use Rattle.pdb.proofs.Expansion.{no_transition}
use Rattle.pdb.proofs.saturation.raise.Given as goal

abbrev pub invariant-loop-transition : goal.invariant-loop-transition
invariant-loop-transition g l = record {
  reached : AreFalls (g.T.BackwardTransitions.abstraction l.transitions) (g.T.BackwardTransitions.classes l.transitions) (distance_in l.values) l.greatest;
  kept : (c : ℕ) → slice_index l.initial.greatest c ≤ slice_index l.greatest c;
  covered : (k : ℕ) → k < l.transition-index → fall (distance_in l.values (get_or l.entering k no_transition).source) (distance_in l.values l.state) ≤ slice_index l.greatest (get_or l.entering k no_transition).class;
}
