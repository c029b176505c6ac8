use Rattle.std.proofs.Common.{◌≡◌, List, ℕ, set, refl, subst}
use Rattle.pdb_refinement.specs.Refinements.{Refines}
use Rattle.pdb_refinement.proofs.Splits.{split_from}
use Rattle.pdb_refinement.proofs.rows.with_single.Goals as goal

pub returns : goal.returns
returns c =
    let same : c.deref.result.now ≡ set c.args.classes.now c.args.value c.args.fresh = rw (c.deref.ensures.value, c.in_ok-split.ensures.items) refl in
    split_from c.args.classes.now c.args.value c.args.fresh c.requires.value c.requires.fresh c.in_ok-numbered.numbered.items
    (subst (λ (xs : List ℕ). Refines xs c.in_ok-numbered.numbered.items) same c.in_ok-numbered.ensures.refines) c.in_ok-numbered.ensures.numbered
