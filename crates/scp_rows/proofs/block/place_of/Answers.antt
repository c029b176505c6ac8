use Rattle.scp_rows.proofs.Blocks.{found_mapping}
use Rattle.abstraction_mapping.specs.Views.{mapping_of}
use Rattle.scp_rows.proofs.block.place_of.Goals as goal

pub returns-then-is_of : goal.returns-then-is_of
returns-then-is_of g c =
    found_mapping c.args.rows.now c.loop-place.place c.index-rows-place.result c.loop-place-test.true c.index-rows-place.is (mapping_of c.args.mapping.now) (c.is_of.ensures.same c.if-is_of.true)
