use Rattle.std.proofs.Common.{◌<◌, refl, arith}
use Rattle.std.specs.Prelude.{slice_index}
use Rattle.abstraction_domain.proofs.Numbering.{known, fresh, first_misnumbered}
use Rattle.abstraction_domain.proofs.row.counted.Goals.{then-class-count-2, else-class-count-2}
use Rattle.abstraction_domain.proofs.row.counted.Goals as goal

pub returns-then-class-count-clause-misnumbered : goal.returns-then-class-count-clause-misnumbered
returns-then-class-count-clause-misnumbered c =
    first_misnumbered c.args.classes.now c.loop-place.place c.loop-place.count (slice_index c.args.classes.now c.loop-place.place) c.loop-place.invariant c.loop-place-test.true refl c.if-class-count.true

pub loop-place-preserved : goal.loop-place-preserved
loop-place-preserved c =
    let class = slice_index c.args.classes.now c.loop-place.place in
    elim c.if-class-count-2.branch [
      | then-class-count-2 w ↦
          rw w.count-is (fresh c.args.classes.now c.loop-place.place c.loop-place.count class c.loop-place.invariant c.loop-place-test.true refl w.if-class-count-2.true)
      | else-class-count-2 w ↦
          let below : slice_index c.args.classes.now c.loop-place.place < c.loop-place.count = omega (arith, c.if-class-count.false, w.if-class-count-2.false) in
          rw w.count-is (known c.args.classes.now c.loop-place.place c.loop-place.count class c.loop-place.invariant c.loop-place-test.true refl below)
    ]
