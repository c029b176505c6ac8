use Rattle.std.proofs.Common.{List, ℕ, sym, subst}
use Rattle.pdb_refinement.specs.Classes.{IsSplitAt}
use Rattle.pdb_refinement.proofs.Splits.{split_own}
use Rattle.pdb_refinement.proofs.split.split_classes.Goals as goal

pub returns-in_ok-own-in-Pattern : goal.returns-in_ok-own-in-Pattern
returns-in_ok-own-in-Pattern c =
    subst (λ (new : List ℕ). IsSplitAt c.args.classes.now c.args.value new) (sym c.in_ok-own-in-Pattern.ensures) (split_own c.args.classes.now c.args.value c.requires.value)
