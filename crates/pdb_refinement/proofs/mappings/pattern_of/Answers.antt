use Rattle.std.proofs.Common.{◌<◌, length, arith}
use Rattle.std.specs.Prelude.{Contains}
use Rattle.std.proofs.lemmas.List.{length-map}
use Rattle.std.proofs.lemmas.List.Elements.{All-push}
use Rattle.fdr.specs.Tasks.{ranges}
use Rattle.abstraction_domain.specs.Domains.{variables}
use Rattle.pdb_patterns.proofs.Longer.{kept_without, kept_with}
use Rattle.pdb_refinement.proofs.WithRow.{first_among}
use Rattle.pdb_refinement.proofs.mappings.pattern_of.Goals.{in-Some-larger_size+in_ok-push, in_default-larger_size}
use Rattle.pdb_refinement.proofs.mappings.pattern_of.Goals as goal

pub loop-variable-preserved : goal.loop-variable-preserved
loop-variable-preserved c = elim c.match-larger_size.branch [
  | in-Some-larger_size+in_ok-push w ↦
      let v = c.loop-variable.variable in
      let exists : v < length (ranges c.args.task.now) =
      omega (arith, c.loop-variable-test.true, c.variable_count-variable-end.ensures, length-map c.args.task.now.value_names (λ names. length names)) in
      let among = first_among c.args.rows.now v c.in-Some.field-0 c.in-Some.ensures.first in
      rw (w.pattern-is, w.size-is, w.in_ok-push.ensures.items) (record {
        so_far = kept_with _ _ _ _ _ _ c.loop-variable.invariant.so_far exists (rw c.range.ensures at w.in-Some-larger_size.ensures);
        among = All-push (λ u. Contains (variables c.args.rows.now) u) c.loop-variable.pattern.items v c.loop-variable.invariant.among among;
      })
  | in_default-larger_size w ↦
      rw (w.pattern-is, w.size-is) (record {
        so_far = kept_without _ _ _ _ _ c.loop-variable.invariant.so_far;
        among = c.loop-variable.invariant.among;
      })
]
