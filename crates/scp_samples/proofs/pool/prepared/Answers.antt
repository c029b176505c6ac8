use Rattle.std.proofs.Common.{◌≡◌, ap, ◌∙◌}
use Rattle.std.specs.Prelude.{IfOk}
use Rattle.rayon.proofs.ListFacts.{AllZip-weaken}
use Rattle.rayon.proofs.ToStd.{slice-AllZip}
use Rattle.abstraction_mapping.specs.Views.{task_in}
use Rattle.scp_samples.specs.Tasks.{task_of}
use Rattle.scp_samples.proofs.Prepared.{all_prepared}
use Rattle.scp_samples.proofs.pool.prepared.Goals as goal

pub returns : goal.returns
returns g c =
    let slice = ap (λ it. it.base.slice.now) c.map_init.ensures.base ∙ ap (λ it. it.slice.now) c.with_min_len.ensures.base ∙ c.par_iter.ensures in
    let gave = c.in_ok-collect.ensures in
    let chain = gave.1 in
    let each = slice-AllZip chain.0 c.args.abstractions.now (chain.1 ∙ slice) (λ a r. IfOk r (λ e. task_of e.listed ≡ task_in a)) gave.0 (AllZip-weaken _ _ (λ a r made. made.2) chain.0 gave.0 chain.2) in
    all_prepared _ task_in (λ e. task_of e.listed) c.args.task.now c.args.abstractions.now gave.0 c.in_ok-collect.field-0 each c.requires.of_task gave.2
