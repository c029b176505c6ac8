use Rattle.std.proofs.Common.{◌≡◌, ◌∙◌, ℕ, List, length, ap, sym, subst, arith}
use Rattle.scp_rows.specs.Moves.{StepsTo, first_rows}
use Rattle.scp_rows.specs.Rows.{MappingRows, block_value}
use Rattle.scp_rows.proofs.Blocks.{limited_block}
use Rattle.scp_rows.proofs.MoveLaws.{only_rows, only_value}
use Rattle.scp_rows.proofs.block.greatest_moved.Goals as goal

pub returns-in_ok-sums-in-len1 : goal.returns-in_ok-sums-in-len1
returns-in_ok-sums-in-len1 g c = λ next steps.
    let most = g.R.Row.most in
    let blocks = c.args.blocks.now in
    let first = c.first-item.result in
    let one : length blocks ≡ 1 = omega (arith, c.in-len1.len_at_least, c.in-len1.len_below) in
    let rows : first_rows blocks ≡ c.deref.result.now = only_rows blocks first one c.first-item.is ∙ sym c.deref.ensures.value in
    let led = subst (λ (ps : List MappingRows). StepsTo ps c.args.entered.now c.args.operator next) rows steps in
    c.greatest.ensures
    ∙ limited_block most next c.deref.result.now (g.R.Row.words c.in_ok-sums-in-len1.sums) (c.in_ok-sums-in-len1.ensures next led)
    ∙ ap (block_value most next) c.deref.ensures.value
    ∙ only_value blocks first one c.first-item.is most next
