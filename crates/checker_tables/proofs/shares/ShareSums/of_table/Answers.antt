use Rattle.std.proofs.Common.{fold, ap, ◌∙◌, length}
use Rattle.std.specs.Prelude.{slice_index}
use Rattle.checker_tables.specs.ShareSums.{Tally, counted}
use Rattle.checker_tables.proofs.TallyLaws.{table_sized, table_share}
use Rattle.checker_tables.proofs.shares.ShareSums.of_table.Goals as goal

pub returns-clause-len : goal.returns-clause-len
returns-clause-len c =
    ap (λ (t : Tally). length t.sums) c.count_all.ensures.value
    ∙ ap (λ (t : Tally). length (fold (counted 1) t c.args.shares.now).sums) c.in_ok-sums.ensures
    ∙ table_sized c.args.operators c.args.shares.now

pub returns-clause-shares : goal.returns-clause-shares
returns-clause-shares c = λ o l.
    ap (λ (t : Tally). slice_index t.sums o) c.count_all.ensures.value
    ∙ ap (λ (t : Tally). slice_index (fold (counted 1) t c.args.shares.now).sums o) c.in_ok-sums.ensures
    ∙ table_share o c.args.operators l c.args.shares.now c.count_all.ensures.amounts
