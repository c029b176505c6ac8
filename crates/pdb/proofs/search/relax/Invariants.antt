use Rattle.std.proofs.Common.{◌≡◌, ℕ, ◌+◌, ◌<◌, ◌≤◌, slice_index, get_or}
use Rattle.pdb.specs.Classes.{share_by}
use Rattle.pdb.specs.Searches.{IsSearchBut, work}
use Rattle.pdb.proofs.Expansion.{no_transition}
use Rattle.pdb.proofs.search.relax.Given as goal

abbrev pub invariant-loop-transition : goal.invariant-loop-transition
invariant-loop-transition g l = record {
  shown : l.value ≡ slice_index l.values l.state;
  search : IsSearchBut (g.T.BackwardTransitions.abstraction l.transitions) (share_by (g.T.BackwardTransitions.classes l.transitions) l.least) l.values l.queue l.state;
  no_more : work l.values l.queue ≤ work l.initial.values l.initial.queue;
  lowered : (k : ℕ) → k < l.transition-index → slice_index l.values (get_or l.entering k no_transition).source ≤ l.value + slice_index l.least (get_or l.entering k no_transition).class;
}
