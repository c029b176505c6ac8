use Rattle.std.proofs.Common.{◌≡◌, true, false, take, length}
use Rattle.std.specs.Prelude.{slice_index_or, All}
use Rattle.pdb_refinement.proofs.choice.flags_at.Given as goal

abbrev pub invariant-loop-index : goal.invariant-loop-index
invariant-loop-index l = record {
  as_long : length l.flags.items ≡ l.count;
  are_set : All (λ i. slice_index_or l.flags.items i false ≡ true) (take l.index-index l.indices);
}
