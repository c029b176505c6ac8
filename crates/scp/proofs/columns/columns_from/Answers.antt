use Rattle.std.proofs.Common.{ap, ◌∙◌, subst}
use Rattle.std.specs.Prelude.{IfOk}
use Rattle.std.specs.List.{AllZip}
use Rattle.rayon.proofs.ListFacts.{IfOk-then}
use Rattle.rayon.proofs.ToStd.{slice-AllZip}
use Rattle.scp.specs.Partitions.{IsColumnFrom}
use Rattle.scp.proofs.AllMade.{all_made}
use Rattle.scp.proofs.ColumnLists.{columns_made}
use Rattle.scp.proofs.columns.columns_from.Goals as goal

pub returns : goal.returns
returns g c =
    let slice = ap (λ it. it.base.slice.now) c.map.ensures.base ∙ ap (λ it. it.slice.now) c.with_min_len.ensures.base ∙ c.par_iter.ensures in
    let gave = c.in_ok-collect.ensures in
    let chain = gave.1 in
    -- the task that the closure has captured
    let task = c.map.result.f.1 in
    let each = slice-AllZip chain.0 c.args.orders.now (chain.1 ∙ slice) (λ order r. IfOk r (IsColumnFrom task.now order)) gave.0 chain.2 in
    let made = all_made _ (IsColumnFrom task.now) c.args.orders.now gave.0 c.in_ok-collect.field-0 each gave.2 in
    let from = subst (λ t. IfOk c.in_ok-collect.field-0 (λ columns. AllZip (IsColumnFrom t.now) c.args.orders.now columns.items)) (ap (λ f. f.1) c.map.ensures.f) made in
    IfOk-then c.in_ok-collect.field-0 _ _ from (λ columns each. columns_made c.args.task.now c.recall.ensures.task c.args.orders.now columns.items c.requires.few c.requires.none_empty each)
