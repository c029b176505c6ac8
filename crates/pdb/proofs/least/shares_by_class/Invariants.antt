use Rattle.std.proofs.Common.{◌≡◌, ℕ, ◌<◌, length, slice_index}
use Rattle.pdb.specs.Classes.{share_below}
use Rattle.pdb.proofs.least.shares_by_class.Given as goal

abbrev pub invariant-loop-class : goal.invariant-loop-class
invariant-loop-class g l = record {
  len : length l.shares.items ≡ l.count;
  shares : (o : ℕ) → o < l.count → slice_index l.shares.items o ≡ share_below (g.T.BackwardTransitions.classes l.transitions) l.numbers l.class o;
}
