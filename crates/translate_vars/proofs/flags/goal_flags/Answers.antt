use Rattle.std.proofs.Common.{refl, arith, ◌≡◌, map}
use Rattle.std.proofs.lemmas.Grind.{common_steps}
use Rattle.translate_vars.proofs.FlagLaws.{tell_map}
use Rattle.pddl_task.specs.Atoms.{wants}
use Rattle.translate_vars.proofs.flags.goal_flags.Goals as goal

pub returns : goal.returns
returns c =
    let is : c.loop-atom.flags.items ≡ map (wants c.args.goal.now) c.args.atoms.now = grind (arith, common_steps, c.as_slice-atom-items.ensures.atoms) in
    tell_map (wants c.args.goal.now) (wants c.args.goal.now) c.args.atoms.now _ is (λ p. refl)
