use Rattle.std.proofs.Common.{◌≡◌, ◌<◌, length, subst, arith}
use Rattle.std.specs.Prelude.{slice_index}
use Rattle.std.proofs.lemmas.List.{length-map, take_all}
use Rattle.std.proofs.lemmas.List.Elements.{All-more}
use Rattle.fdr.specs.Tasks.{ranges}
use Rattle.abstraction.specs.Projections.{AllExist}
use Rattle.abstraction.proofs.projection.first_unknown.Goals as goal

pub loop-place-preserved : goal.loop-place-preserved
loop-place-preserved c =
    let counted : length (ranges c.args.task.now) ≡ length c.args.task.now.value_names = length-map c.args.task.now.value_names length in
    let exists : slice_index c.args.pattern.now c.loop-place.place < length (ranges c.args.task.now) = omega (arith, counted, c.variable_count.ensures, c.if-pattern-place.false) in
    All-more (λ v. v < length (ranges c.args.task.now)) c.args.pattern.now c.loop-place.place 0 c.loop-place-test.true c.loop-place.invariant exists

pub returns-clause-exist : goal.returns-clause-exist
returns-clause-exist c =
    subst (AllExist (ranges c.args.task.now)) (take_all c.loop-place.place c.args.pattern.now c.loop-place-test.false) c.loop-place.invariant
