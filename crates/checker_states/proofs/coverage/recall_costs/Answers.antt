use Rattle.std.proofs.Common.{◌<◌, ◌^◌, [], length, subst, arith}
use Rattle.std.specs.Prelude.{All}
use Rattle.std.proofs.lemmas.List.{take_all}
use Rattle.std.proofs.lemmas.List.Elements.{All-more}
use Rattle.cert_value.specs.Certificates.{Entry}
use Rattle.checker_states.proofs.Saturation.{cost_read}
use Rattle.checker_states.proofs.coverage.recall_costs.Goals as goal

pub loop-place-preserved : goal.loop-place-preserved
loop-place-preserved c =
    let none : Entry = record { cost = 0; state = [] } in
    let within : c.loop-place.place < length c.args.closed.now = omega (arith, c.loop-place-test.true, c.len-place-end.ensures) in
    All-more (λ e. e.cost < 2 ^ 64) c.args.closed.now c.loop-place.place none within c.loop-place.invariant
    (cost_read c.args.closed.now c.loop-place.place c.cost.result none within c.cost.ensures c.cost.type_inv)

pub returns : goal.returns
returns c =
    subst (All (λ (e : Entry). e.cost < 2 ^ 64)) (take_all c.loop-place.place c.args.closed.now (omega (arith, c.loop-place-test.false, c.len-place-end.ensures))) c.loop-place.invariant
