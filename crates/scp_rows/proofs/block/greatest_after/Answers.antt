use Rattle.std.proofs.Common.{◌∙◌, ◌<◌, length, ap, arith}
use Rattle.std.proofs.lemmas.Grind.{common_steps}
use Rattle.cost.specs.Distances.{larger}
use Rattle.cost.proofs.DistanceLaws.{ord_max-is_larger}
use Rattle.scp_rows.specs.Rows.{block_value}
use Rattle.scp_rows.proofs.Blocks.{limited_block}
use Rattle.scp_rows.proofs.TouchLaws.{first_and_rest}
use Rattle.scp_rows.proofs.block.greatest_after.Goals as goal

pub returns : goal.returns
returns g c =
    let most = g.R.Row.most in
    let state = c.args.state.now in
    let some : 0 < length c.args.blocks.now = grind (arith, common_steps) in
    let here = c.greatest-first.ensures ∙ limited_block most state c.deref.result.now (g.R.Row.words c.sums_after.result) c.sums_after.ensures ∙ ap (block_value most state) c.deref.ensures.value in
    c.max.ensures ∙ ord_max-is_larger c.greatest-first.result c.greatest_value.result
    ∙ ap (λ d. larger d c.greatest_value.result) here
    ∙ ap (λ d. larger (block_value most state c.index-blocks-0.result.items) d) c.greatest_value.ensures
    ∙ first_and_rest most state c.args.blocks.now c.index-blocks-0.result some c.index-blocks-0.is
