use Rattle.std.proofs.Common.{◌≡◌, true, get_or, ap, subst, ◌∙◌, sym}
use Rattle.std.proofs.lemmas.List.{get_or_read}
use Rattle.fdr.specs.Tasks.{ranges}
use Rattle.abstraction_domain.specs.Rows.{Row, are_numbered}
use Rattle.abstraction_domain.specs.Domains.{IsFit, no_row}
use Rattle.pdb_refinement.proofs.WithRow.{first_among}
use Rattle.pdb_refinement.proofs.Ordered.{ordered_without, ordered_with}
use Rattle.pdb_refinement.proofs.mappings.domains_of.Goals.{in-Some-larger_size+in_ok-copied+in_ok-push, in_default-larger_size}
use Rattle.pdb_refinement.proofs.mappings.domains_of.Goals as goal

pub loop-variable-preserved : goal.loop-variable-preserved
loop-variable-preserved c = elim c.match-larger_size.branch [
  | in-Some-larger_size+in_ok-copied+in_ok-push w ↦
      let rows = c.args.rows.now in
      let v = c.loop-variable.variable in
      let k = c.in-Some.position in
      let first = c.in-Some.ensures.first in
      let row = c.index-rows-position.result in
      let is : row ≡ get_or rows k no_row = get_or_read rows k row first.within c.index-rows-position.is no_row in
      rw (w.ordered-is, w.size-is, w.in_ok-push.ensures.items, w.in_ok-copied.ensures)
      (ordered_with c.args.task.now c.args.limit rows v c.loop-variable.size w.in-Some-larger_size.larger c.loop-variable.ordered.items row c.loop-variable.invariant
      (ap (λ (r : Row). r.variable) is ∙ first.here)
      (subst (IsFit (ranges c.args.task.now)) (sym is) (c.requires.fit k no_row first.within))
      (subst (λ (r : Row). are_numbered r.classes ≡ true) (sym is) (c.requires.numbered k no_row first.within))
      (first_among rows v k first)
      (rw c.class_count.ensures at w.in-Some-larger_size.ensures))
  | in_default-larger_size w ↦ rw (w.ordered-is, w.size-is) (ordered_without c.args.task.now c.args.limit c.args.rows.now c.loop-variable.variable c.loop-variable.size c.loop-variable.ordered.items c.loop-variable.invariant)
]
