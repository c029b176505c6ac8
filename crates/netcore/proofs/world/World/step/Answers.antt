use Rattle.std.proofs.Common.{IfErr, subst, sym}
use Rattle.netcore.specs.declared.step.WorldStep.{WorldStep}
use Rattle.netcore.specs.declared.step.WorldStep.TheVariants.{Expand}
use Rattle.netcore.specs.Worlds.{IsStepRefusal}
use Rattle.netcore.specs.Kept.{IsStepDone, IsStepRefused}
use Rattle.netcore.proofs.Results.{if_err}
use Rattle.netcore.proofs.world.World.step.Goals as goal

pub returns-in-Expand-clause-refused : goal.returns-in-Expand-clause-refused
returns-in-Expand-clause-refused g c =
    let owner = g.S.Spread.owner in let old = c.args.self.now in let new = c.expand.new.self in let asked = Expand c.in-Expand.worker in
    subst (λ (step : WorldStep). IfErr c.expand.result (IsStepRefusal owner old new step)) (sym c.in-Expand.is)
    (if_err c.expand.result (IsStepDone owner old new asked) (IsStepRefused owner old new asked) (IsStepRefusal owner old new asked) (λ e h. h.refused) c.expand.ensures)
