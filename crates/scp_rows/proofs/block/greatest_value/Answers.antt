use Rattle.std.proofs.Common.{◌++◌, ◌∷◌, [], take, ◌∙◌, sym, ap}
use Rattle.std.proofs.lemmas.List.{take_more}
use Rattle.cost.specs.Distances.{larger}
use Rattle.cost.proofs.DistanceLaws.{ord_max-is_larger}
use Rattle.scp_rows.specs.Rows.{blocks_value, block_value}
use Rattle.scp_rows.proofs.Blocks.{blocks_more, limited_block}
use Rattle.scp_rows.proofs.block.greatest_value.Goals as goal

pub loop-block-preserved : goal.loop-block-preserved
loop-block-preserved g c =
    let most = g.R.Row.most in
    let state = c.args.state.now in
    let i = c.loop-block.block-index in
    let here = c.greatest.ensures ∙ limited_block most state c.deref.result.now (g.R.Row.words c.sums.result) c.sums.ensures ∙ ap (block_value most state) c.deref.ensures.value in
    c.max-greatest.ensures ∙ ord_max-is_larger c.loop-block.greatest c.greatest.result
    ∙ ap (λ d. larger c.loop-block.greatest d) here
    ∙ ap (λ d. larger d (block_value most state c.block-item.result.items)) c.loop-block.invariant
    ∙ sym (ap (blocks_value most state) (take_more c.args.blocks.now i c.block-item.result c.loop-block-test.true ∙ ap (λ b. take i c.args.blocks.now ++ b ∷ []) (sym c.block-item.is))
    ∙ blocks_more most state (take i c.args.blocks.now) c.block-item.result)
