use Rattle.std.proofs.Common.{◌<◌, ◌++◌, ◌∙◌, ℕ, None, Option, not, cond, [], ap, arith, length}
use Rattle.std.specs.Prelude.{position}
use Rattle.std.specs.List.{cons_option}
use Rattle.pddl_task.specs.Atoms.{Literal, same_atom}
use Rattle.mutex_index.proofs.PlaceLaws.{filter_more}
use Rattle.mutex_index.proofs.row.row_of_literals.Goals as goal

pub loop-literal-preserved : goal.loop-literal-preserved
loop-literal-preserved c =
    let within : c.loop-literal.literal-index < length c.args.literals.now = omega arith in
    let place = (λ (l : Literal). cond (cond l.positive c.args.sign (not c.args.sign)) (position (same_atom l.atom) c.args.atoms.now) None) in
    filter_more place c.args.literals.now c.loop-literal.literal-index c.literal-item.result c.loop-literal.row c.push_some.new.row within c.loop-literal.invariant
    (c.in_ok-push_some.ensures ∙ ap (λ (o : Option ℕ). c.loop-literal.row ++ cons_option o []) (c.place_of_literal.ensures ∙ ap place c.literal-item.is))
