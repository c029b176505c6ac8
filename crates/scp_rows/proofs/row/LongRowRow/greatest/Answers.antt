use Rattle.std.proofs.Common.{◌≡◌, ◌∙◌, sym, ap, arith}
use Rattle.std.proofs.lemmas.Grind.{common_steps}
use Rattle.scp_rows.specs.Rows.{distance_below}
use Rattle.scp_rows.proofs.RowWords.{no_top, top_more, top_is_greatest}
use Rattle.scp_rows.proofs.row.LongRowRow.greatest.Goals as goal

pub loop-lane-init : goal.loop-lane-init
loop-lane-init c = sym (no_top c.args.self.now.words)

pub loop-lane-preserved : goal.loop-lane-preserved
loop-lane-preserved c = rw (top_more c.args.self.now.words c.loop-lane.lane, ← c.loop-lane.invariant) (grind (arith, common_steps))

pub returns : goal.returns
returns c =
    let whole : c.loop-lane.lane ≡ 8 = omega arith in
    c.long_distance.ensures ∙ ap (distance_below 9223372036854775809) (rw whole at c.loop-lane.invariant) ∙ top_is_greatest 9223372036854775809 (omega arith) c.args.self.now.words
