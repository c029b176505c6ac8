use Rattle.std.proofs.Common.{◌<◌, List, length, sym, subst}
use Rattle.fdr.specs.Tasks.{FiniteDomainTask, ranges}
use Rattle.packed.specs.declared.mask.WordMask.{WordMask}
use Rattle.packed.specs.Masks.{Write, effect_at}
use Rattle.packed.proofs.masks.TaskMasks.effect.Goals as goal

pub returns : goal.returns
returns c =
    let task = c.self.inside.task.now in
    let o = c.args.operator in
    subst (λ (t : FiniteDomainTask). Write (ranges t) (effect_at t o) c.get.result.now) c.self.view_is
    (subst (λ (ms : List WordMask). Write (ranges task) (effect_at task o) ms) (sym c.get.ensures)
    (c.self.invariant.written.each o (subst (λ (t : FiniteDomainTask). o < length t.operators) (sym c.self.view_is) c.requires)))
