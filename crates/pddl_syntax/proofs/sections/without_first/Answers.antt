use Rattle.std.proofs.Common.{◌-◌, length, length-drop, ap, ◌∙◌, arith, drop}
use Rattle.std.proofs.lemmas.List.{take_all}
use Rattle.sexp.specs.Forms.{views}
use Rattle.pddl_syntax.proofs.HeadSteps.{views_behind}
use Rattle.pddl_syntax.proofs.sections.without_first.Goals as goal

pub returns-else-is_empty : goal.returns-else-is_empty
returns-else-is_empty c =
    let ts = c.args.items.now in
    ap views (take_all (length ts - 1) (drop 1 ts) (omega (arith, length-drop 1 ts))) ∙ views_behind ts
