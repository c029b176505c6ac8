use Rattle.std.proofs.Common.{◌≡◌, ◌<◌, length, get_or, arith, rules, sym, ap, ◌∙◌, below_more}
use Rattle.packed.specs.Fields as spec
use Rattle.packed.proofs.Placing.{field_of, value_at, length-fields, length-values_in}
use Rattle.packed.proofs.bits.Bits.has_values_in_range.Goals as goal
use Rattle.packed.proofs.bits.Bits.has_values_in_range.Goals.{After-range}

-- the value that is compared
value_is : (g : _) (c : After-range g) → get_or (spec.values_in c.args.self.now.words c.args.layout.now) c.loop-variable.variable 0 ≡ c.number_in.result
value_is g c =
    let at = field_of g.row.WORDS c.args.layout.now c.fields-field-items.result.now c.loop-variable.variable c.requires.fits c.fields-field-items.ensures.limits c.fields-field-items.ensures.fields c.loop-variable-test.true in
    value_at g.row.WORDS c.args.self.now.words c.args.layout.now c.loop-variable.variable _ at ∙ sym c.number_in.ensures

pub number_in-requires : goal.number_in-requires
number_in-requires g c = (
  search rules,
  (field_of g.row.WORDS c.args.layout.now _ c.loop-variable.variable c.requires.fits c.fields-field-items.ensures.limits c.fields-field-items.ensures.fields c.loop-variable-test.true).placed,
)

pub range-requires : goal.range-requires
range-requires g c = omega (arith, c.loop-variable-test.true, ap length c.fields-field-items.ensures.fields, length-fields c.args.layout.now)

pub loop-variable-preserved : goal.loop-variable-preserved
loop-variable-preserved g c =
    below_more _ _ c.loop-variable.invariant
    (omega (arith, c.if-number_in-range.false, value_is g (goal.at.loop-variable-preserved g c).After-range, c.range.ensures))

pub returns : goal.returns
returns g c = (
  (λ _.
      record {
        as_long = length-values_in c.args.self.now.words c.args.layout.now;
        in_range = λ v within.
            c.loop-variable.invariant v (omega (arith, within, c.loop-variable-test.false, ap length c.fields-field-items.ensures.fields, length-fields c.args.layout.now));
      }),
  λ _. search rules,
)

pub returns-then-number_in-range : goal.returns-then-number_in-range
returns-then-number_in-range g c =
    let within : c.loop-variable.variable < length c.args.layout.now =
    omega (arith, c.loop-variable-test.true, ap length c.fields-field-items.ensures.fields, length-fields c.args.layout.now) in (
      (λ no. search rules),
      λ state. absurd (omega (arith, state.in_range c.loop-variable.variable within, c.if-number_in-range.true, value_is g (goal.at.returns-then-number_in-range g c).After-range, c.range.ensures)),
    )
