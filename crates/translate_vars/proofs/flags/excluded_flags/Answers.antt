use Rattle.std.proofs.Common.{rules, refl, arith, ◌≡◌, map}
use Rattle.std.proofs.lemmas.Grind.{common_steps}
use Rattle.mutex_index.specs.Groups.{is_excluded}
use Rattle.translate_vars.proofs.FlagLaws.{one_more_flag, tell_map}
use Rattle.translate_vars.proofs.flags.excluded_flags.Goals as goal

pub loop-place-preserved : goal.loop-place-preserved
loop-place-preserved c =
    one_more_flag (is_excluded c.args.index.now.task c.args.index.now.actions) c.args.index.now.atoms c.loop-place.place c.is_excluded.result _ _
    (search rules) c.loop-place.invariant (search rules) c.in_ok-push.ensures.items

pub returns : goal.returns
returns c =
    let is : c.loop-place.flags.items ≡ map (is_excluded c.args.index.now.task c.args.index.now.actions) c.args.index.now.atoms = grind (arith, common_steps) in
    tell_map (is_excluded c.args.index.now.task c.args.index.now.actions) (is_excluded c.args.index.now.task c.args.index.now.actions) c.args.index.now.atoms _ is (λ p. refl)
