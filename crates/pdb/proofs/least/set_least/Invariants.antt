use Rattle.std.proofs.Common.{◌≡◌, ℕ, ◌<◌, ◌≤◌, length, slice_index}
use Rattle.pdb.proofs.Shares.{IsLeastAt}
use Rattle.pdb.proofs.least.set_least.Given as goal

abbrev pub invariant-loop-class : goal.invariant-loop-class
invariant-loop-class g l = record {
  len : length l.least.items ≡ l.class;
  small : (c : ℕ) → slice_index l.least.items c ≤ l.most;
  least : (c : ℕ) → c < l.class → IsLeastAt (g.T.BackwardTransitions.classes l.transitions) l.shares l.most c (slice_index l.least.items c);
}
