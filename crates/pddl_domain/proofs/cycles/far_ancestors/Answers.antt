use Rattle.std.proofs.Common.{length, refl, ap, ◌∙◌, arith}
use Rattle.pddl_domain.specs.Cycles.{ancestor}
use Rattle.std.proofs.lemmas.List.FromFn.{fill_by_all, length-map-range_with_len}
use Rattle.pddl_domain.proofs.Ancestors.{doubled_ends, ends_within}
use Rattle.pddl_domain.proofs.cycles.far_ancestors.Goals as goal

pub loop-steps-init : goal.loop-steps-init
loop-steps-init c =
    let f = c.args.supertypes.now in
    record { some = omega arith; far = c.in_ok-ancestors.ensures.items ∙ fill_by_all (ancestor f 1) f (length f) 0 refl (λ k lt. refl) }

pub doubled-requires : goal.doubled-requires
doubled-requires c =
    let f = c.args.supertypes.now in
    ends_within f c.requires c.loop-steps.steps c.deref.result.now (length c.deref.result.now) (c.deref.ensures.value ∙ c.loop-steps.invariant.far)
    (ap length (c.deref.ensures.value ∙ c.loop-steps.invariant.far) ∙ length-map-range_with_len (ancestor f c.loop-steps.steps) 0 (length f))

pub loop-steps-preserved : goal.loop-steps-preserved
loop-steps-preserved c =
    let f = c.args.supertypes.now in
    record {
      some = omega (arith, c.loop-steps.invariant.some);
      far = c.in_ok-ancestors-2.ensures ∙ doubled_ends f c.requires c.deref.result.now c.loop-steps.steps (c.deref.ensures.value ∙ c.loop-steps.invariant.far);
    }
