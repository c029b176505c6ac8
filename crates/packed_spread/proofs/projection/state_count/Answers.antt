use Rattle.std.proofs.Common.{◌≡◌, ℕ, ◌*◌, ◌^◌, ◌-◌, ap, sym, ◌∙◌}
use Rattle.std.specs.Prelude.{slice_index, min}
use Rattle.fdr.specs.Tasks.{ranges}
use Rattle.packed_spread.proofs.Projecting.{fold_to}
use Rattle.packed_spread.proofs.projection.state_count.Goals as goal

pub loop-variable-preserved : goal.loop-variable-preserved
loop-variable-preserved c =
    let rs = ranges c.args.task.now in
    let v = c.loop-variable.variable in
    let step : ℕ → ℕ → ℕ = λ n variable. min (n * slice_index rs variable) (2 ^ 64 - 1) in
    let here : c.saturating_mul-classes.result ≡ step c.loop-variable.classes v = c.saturating_mul-classes.ensures ∙ ap (λ range. min (c.loop-variable.classes * range) (2 ^ 64 - 1)) c.range.ensures in
    here ∙ ap (λ n. step n v) c.loop-variable.invariant ∙ sym (fold_to step 1 v)
