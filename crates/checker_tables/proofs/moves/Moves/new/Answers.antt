use Rattle.std.proofs.Common.{◌≡◌, ◌-◌, ◌+◌, ◌<◌, length, refl, arith}
use Rattle.abstraction_mapping.specs.Mappings.{facts_by}
use Rattle.abstraction_mapping.specs.Views.{mapping_in, counts_in}
use Rattle.abstraction_mapping.specs.ClassLaws.{classes_assigned}
use Rattle.checker_tables.proofs.MappedMoves.{at_end, digit_within, digit_fits, value_below, starts_fit, one_place}
use Rattle.checker_tables.proofs.moves.Moves.new.Goals as goal

pub loop-place-init : goal.loop-place-init
loop-place-init c =
    at_end (counts_in c.args.abstraction.now) c.variables-variables.result.now
    (facts_by (mapping_in c.args.abstraction.now) c.args.precondition.now) (facts_by (mapping_in c.args.abstraction.now) c.args.effect.now)
    (record { source = 0; target = 0; free = c.new.result }) c.new.ensures.items refl refl

pub bounds-digits-place : goal.bounds-digits-place
bounds-digits-place c =
    let l : c.loop-place.place - 1 < length c.variables-variables.result.now = omega (arith, c.loop-place-test.true) in
    digit_within c.args.abstraction.now c.variables-variables.result.now c.digits-digits.result.now c.variables-variables.ensures c.digits-digits.ensures (c.loop-place.place - 1) l

pub add-requires-clause-digit : goal.add-requires-clause-digit
add-requires-clause-digit c =
    let l : c.loop-place.place - 1 < length c.variables-variables.result.now = omega (arith, c.loop-place-test.true) in
    digit_fits c.args.abstraction.now c.variables-variables.result.now c.digits-digits.result.now c.variables-variables.ensures c.digits-digits.ensures (c.loop-place.place - 1) l

pub add-requires-clause-condition : goal.add-requires-clause-condition
add-requires-clause-condition c =
    let l : c.loop-place.place - 1 < length c.variables-variables.result.now = omega (arith, c.loop-place-test.true) in
    value_below c.args.abstraction.now c.variables-variables.result.now c.digits-digits.result.now c.variables-variables.ensures c.digits-digits.ensures (c.loop-place.place - 1) l
    (facts_by (mapping_in c.args.abstraction.now) c.args.precondition.now) (classes_assigned c.args.abstraction.now c.args.precondition.now c.requires.precondition).in_range
    c.class_in-condition.result c.class_in-condition.ensures

pub add-requires-clause-effect : goal.add-requires-clause-effect
add-requires-clause-effect c =
    let l : c.loop-place.place - 1 < length c.variables-variables.result.now = omega (arith, c.loop-place-test.true) in
    value_below c.args.abstraction.now c.variables-variables.result.now c.digits-digits.result.now c.variables-variables.ensures c.digits-digits.ensures (c.loop-place.place - 1) l
    (facts_by (mapping_in c.args.abstraction.now) c.args.effect.now) (classes_assigned c.args.abstraction.now c.args.effect.now c.requires.effect).in_range
    c.class_in-value.result c.class_in-value.ensures

pub add-requires-clause-source : goal.add-requires-clause-source
add-requires-clause-source c =
    let l : c.loop-place.place - 1 < length c.variables-variables.result.now = omega (arith, c.loop-place-test.true) in
    let next : c.loop-place.place ≡ c.loop-place.place - 1 + 1 = omega (arith, c.loop-place-test.true) in
    (starts_fit c.args.abstraction.now c.variables-variables.result.now c.digits-digits.result.now c.variables-variables.ensures c.digits-digits.ensures (c.loop-place.place - 1) l
    (facts_by (mapping_in c.args.abstraction.now) c.args.precondition.now) (facts_by (mapping_in c.args.abstraction.now) c.args.effect.now)
    (classes_assigned c.args.abstraction.now c.args.precondition.now c.requires.precondition) (classes_assigned c.args.abstraction.now c.args.effect.now c.requires.effect) c.loop-place.place next c.loop-place.moves c.loop-place.invariant).0

pub add-requires-clause-target : goal.add-requires-clause-target
add-requires-clause-target c =
    let l : c.loop-place.place - 1 < length c.variables-variables.result.now = omega (arith, c.loop-place-test.true) in
    let next : c.loop-place.place ≡ c.loop-place.place - 1 + 1 = omega (arith, c.loop-place-test.true) in
    (starts_fit c.args.abstraction.now c.variables-variables.result.now c.digits-digits.result.now c.variables-variables.ensures c.digits-digits.ensures (c.loop-place.place - 1) l
    (facts_by (mapping_in c.args.abstraction.now) c.args.precondition.now) (facts_by (mapping_in c.args.abstraction.now) c.args.effect.now)
    (classes_assigned c.args.abstraction.now c.args.precondition.now c.requires.precondition) (classes_assigned c.args.abstraction.now c.args.effect.now c.requires.effect) c.loop-place.place next c.loop-place.moves c.loop-place.invariant).1

pub loop-place-preserved : goal.loop-place-preserved
loop-place-preserved c =
    let l : c.loop-place.place - 1 < length c.variables-variables.result.now = omega (arith, c.loop-place-test.true) in
    let next : c.loop-place.place ≡ c.loop-place.place - 1 + 1 = omega (arith, c.loop-place-test.true) in
    one_place c.args.abstraction.now c.variables-variables.result.now c.digits-digits.result.now c.variables-variables.ensures c.digits-digits.ensures (c.loop-place.place - 1) l
    (facts_by (mapping_in c.args.abstraction.now) c.args.precondition.now) (facts_by (mapping_in c.args.abstraction.now) c.args.effect.now)
    (classes_assigned c.args.abstraction.now c.args.precondition.now c.requires.precondition) (classes_assigned c.args.abstraction.now c.args.effect.now c.requires.effect) c.loop-place.place next c.loop-place.moves c.loop-place.invariant
    c.add.new.self c.class_in-condition.result c.class_in-value.result c.class_in-condition.ensures c.class_in-value.ensures c.in_ok-add.ensures.leads c.in_ok-add.ensures.positive
