use Rattle.std.proofs.Common.{◌<◌, ◌++◌, ◌∙◌, ℕ, Option, [], ap, arith, length}
use Rattle.std.specs.Prelude.{position}
use Rattle.std.specs.List.{cons_option}
use Rattle.pddl_task.specs.Atoms.{Atom, same_atom}
use Rattle.mutex_index.proofs.PlaceLaws.{filter_more}
use Rattle.mutex_index.proofs.row.row_of_atoms.Goals as goal

pub loop-atom-preserved : goal.loop-atom-preserved
loop-atom-preserved c =
    let within : c.loop-atom.atom-index < length c.args.more.now = omega arith in
    let place = (λ (p : Atom). position (same_atom p) c.args.atoms.now) in
    filter_more place c.args.more.now c.loop-atom.atom-index c.atom-item.result c.loop-atom.row c.push_some.new.row within c.loop-atom.invariant
    (c.in_ok-push_some.ensures ∙ ap (λ (o : Option ℕ). c.loop-atom.row ++ cons_option o []) (c.place_of.ensures ∙ ap place c.atom-item.is))
