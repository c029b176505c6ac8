use Rattle.std.proofs.Common.{◌≡◌, ◌≤◌, ap, ◌∙◌, subst, length, arith}
use Rattle.std.specs.Prelude.{All, IfOk}
use Rattle.rayon.proofs.ListFacts.{IfOk-then}
use Rattle.rayon.proofs.ToStd.{slice-AllZip}
use Rattle.scp_pool.specs.Pools.{IsResultWithin}
use Rattle.scp_pool.proofs.Collected.{collected}
use Rattle.scp_pool.proofs.batches.batch_of.Goals as goal

pub returns : goal.returns
returns g c =
    let slice = ap (λ it. it.base.slice.now) c.map.ensures.base ∙ ap (λ it. it.slice.now) c.with_min_len.ensures.base ∙ c.par_iter.ensures in
    let gave = c.in_ok-collect.ensures in
    let chain = gave.1 in
    -- what the closure has captured
    let campaign = c.map.result.f.1 in
    let limits = c.map.result.f.2 in
    let runs = c.in_ok-runs.runs.items in
    let each = slice-AllZip chain.0 runs (chain.1 ∙ slice) (λ run r. IfOk r (IsResultWithin campaign.now.task.now limits.now.states)) gave.0 chain.2 in
    let made = collected _ (IsResultWithin campaign.now.task.now limits.now.states) runs gave.0 c.in_ok-collect.field-0 each gave.2 in
    let of_campaign = subst (λ t. IfOk c.in_ok-collect.field-0 (λ v. All (IsResultWithin t.now.task.now limits.now.states) v.items × (length v.items ≡ length runs))) (ap (λ f. f.1) c.map.ensures.f) made in
    let from = subst (λ t. IfOk c.in_ok-collect.field-0 (λ v. All (IsResultWithin c.args.campaign.now.task.now t.now.states) v.items × (length v.items ≡ length runs))) (ap (λ f. f.2) c.map.ensures.f) of_campaign in
    record {
      within = IfOk-then c.in_ok-collect.field-0 _ _ from (λ v h. h.0);
      few = IfOk-then c.in_ok-collect.field-0 _ _ from (λ v h. omega (arith, h.1, c.in_ok-runs.ensures));
    }
