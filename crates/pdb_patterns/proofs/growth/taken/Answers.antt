use Rattle.std.proofs.Common.{◌<◌, length, arith}
use Rattle.std.proofs.lemmas.List.{length-map}
use Rattle.fdr.specs.Tasks.{ranges}
use Rattle.pdb_patterns.proofs.Longer.{kept_without, kept_with}
use Rattle.pdb_patterns.proofs.growth.taken.Goals as goal
use Rattle.pdb_patterns.proofs.growth.taken.Goals.{in-Some+in_ok-push, in_default}

pub loop-variable-preserved : goal.loop-variable-preserved
loop-variable-preserved c = elim c.match-larger_size.branch [
  | in-Some+in_ok-push w ↦
      let exists : c.loop-variable.variable < length (ranges c.args.task.now) =
      omega (arith, c.loop-variable-test.true, c.variable_count-variable-end.ensures, length-map c.args.task.now.value_names (λ names. length names)) in
      rw (w.pattern-is, w.size-is, w.in_ok-push.ensures.items) (kept_with _ _ _ _ _ _ c.loop-variable.invariant exists w.in-Some.ensures)
  | in_default w ↦ rw (w.pattern-is, w.size-is) (kept_without _ _ _ _ _ c.loop-variable.invariant)
]
