use Rattle.std.proofs.Common.{◌≡◌, ◌∙◌, refl, sym, ap, subst, inr, [], length, add-one}
use Rattle.owner.specs.Spaces.{searched}
use Rattle.netcore.specs.declared.step.WorldStep.TheVariants.{Expand}
use Rattle.owner.specs.declared.fault.OwnerFault.TheVariants.{LimitReached}
use Rattle.netcore.specs.Worlds.{WorldOf, space_in, IsStepRefusal, IsRefusedStep}
use Rattle.netcore.proofs.Running.{ended, ended_kept, after_one, limited_at, too_large_at}
use Rattle.netcore.proofs.world.World.run.Goals as goal

pub loop-step-init : goal.loop-step-init
loop-step-init g c =
    let started = c.in_ok-world.ensures in
    (record { after = record { steps = []; run = tt; shown = started.started }; space = started.space; owners = started.owners }, started.limited)

pub loop-step-preserved : goal.loop-step-preserved
loop-step-preserved g c =
    let world = c.loop-step.invariant.0 in
    let same : space_in g.S.Spread.owner c.loop-step.world ≡ searched g.S.Spread.owner c.args.space.now c.args.owners =
    ap (λ s. searched g.S.Spread.owner s (length c.loop-step.world.owners)) world.space
    ∙ ap (λ n. searched g.S.Spread.owner c.args.space.now n) world.owners in (
      record {
        after = rw add-one (after_one g.S.Spread.owner _ c.args.steps.now c.loop-step.step-index _ (Expand 0) c.loop-step.world c.step.new.self same
            c.loop-step-test.true refl c.in-Ok.ensures.stepped world.after);
        space = c.step.ensures.space ∙ world.space;
        owners = c.step.ensures.owners ∙ world.owners;
      },
      c.in-Ok.ensures.limited ∙ c.loop-step.invariant.1,
    )

pub invariant_of-world : goal.invariant_of-world
invariant_of-world g c = ended_kept g.S.Spread.owner _ c.world.invariant

pub returns-in-Err-LimitReached-clause-run : goal.returns-in-Err-LimitReached-clause-run
returns-in-Err-LimitReached-clause-run g c =
    let why = subst (IsStepRefusal g.S.Spread.owner c.loop-step.world c.step.new.self _) c.in-Err-LimitReached.field-0-is c.in-Err-LimitReached.ensures.refused in
    let refused = limited_at g.S.Spread.owner c.args.space.now c.args.owners c.args.steps.now c.loop-step.step-index _ (Expand 0) c.loop-step.world c.step.new.self
    c.loop-step-test.true refl c.loop-step.invariant.0 why in (
      c.recall.ensures.filled,
      inr (
        subst (λ (w : WorldOf g.row.S.Denot). IsRefusedStep g.S.Spread.owner c.args.space.now c.args.owners c.args.steps.now (ended g.S.Spread.owner w) LimitReached)
            (sym c.world.view_is) refused,
        refl,
      ),
    )

pub returns-in-Err-TotalTooLarge-clause-refused : goal.returns-in-Err-TotalTooLarge-clause-refused
returns-in-Err-TotalTooLarge-clause-refused g c =
    too_large_at g.S.Spread.owner c.args.space.now c.args.owners c.args.steps.now c.loop-step.step-index _ (Expand 0) c.loop-step.world c.step.new.self
    c.loop-step-test.true refl c.loop-step.invariant.0 (subst (IsStepRefusal g.S.Spread.owner c.loop-step.world c.step.new.self _) c.in-Err-TotalTooLarge.field-0-is c.in-Err-TotalTooLarge.ensures.refused)
