use Rattle.std.proofs.Common.{arith}
use Rattle.std.specs.Prelude.{slice_index}
use Rattle.pdb_refinement.proofs.Ranges.{short_range}
use Rattle.pdb_refinement.proofs.Splits.{numbered_up}
use Rattle.pdb_refinement.proofs.mappings.whole_rows.Goals as goal

pub own_classes-requires : goal.own_classes-requires
own_classes-requires c =
    omega (arith, short_range c.args.task.now c.recall.ensures.limits (slice_index c.args.pattern.now c.loop-variable.variable-index), c.range.ensures)

pub numbered_row-requires : goal.numbered_row-requires
numbered_row-requires c = rw c.in_ok-classes.ensures (numbered_up 0 c.range.result)
