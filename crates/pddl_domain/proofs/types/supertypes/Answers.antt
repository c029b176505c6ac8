use Rattle.std.proofs.Common.{ℕ, ◌++◌, ◌∷◌, [], ap, ◌∙◌}
use Rattle.std.specs.Prelude.{None}
use Rattle.pddl_domain.specs.Types.{first_parent}
use Rattle.pddl_domain.proofs.TypeSteps.{mapped_more}
use Rattle.pddl_domain.proofs.types.supertypes.Goals as goal

pub loop-first-preserved : goal.loop-first-preserved
loop-first-preserved c =
    let old = c.loop-first.supertypes.items in
    mapped_more first_parent c.args.firsts.now c.loop-first.first-index None old c.push.new.self.items c.loop-first-test.true c.loop-first.invariant
    (c.in_ok-push.ensures.items ∙ ap (λ (n : ℕ). old ++ n ∷ []) c.first_parent.ensures)
