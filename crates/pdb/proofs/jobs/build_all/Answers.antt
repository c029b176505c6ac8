use Rattle.std.proofs.Common.{ap, ◌∙◌}
use Rattle.std.specs.Prelude.{IfOk}
use Rattle.rayon.proofs.ToStd.{slice-AllZip}
use Rattle.pdb.specs.Jobs.{IsTableOf}
use Rattle.pdb.proofs.Made.{all_made}
use Rattle.pdb.proofs.jobs.build_all.Goals as goal

pub returns : goal.returns
returns g c =
    let slice = ap (λ it. it.base.slice.now) c.map.ensures.base ∙ ap (λ it. it.slice.now) c.with_min_len.ensures.base ∙ c.par_iter.ensures in
    let gave = c.in_ok-collect.ensures in
    let chain = gave.1 in
    let each = slice-AllZip chain.0 c.args.jobs.now (chain.1 ∙ slice) (λ job r. IfOk r (IsTableOf (g.A.Abstraction.abstraction job.abstraction.now) job.shares.now)) gave.0 chain.2 in
    all_made _ (λ job values. IsTableOf (g.A.Abstraction.abstraction job.abstraction.now) job.shares.now values) c.args.jobs.now gave.0 c.in_ok-collect.field-0 each gave.2
