use Rattle.std.proofs.Common.{◌≡◌, ◌<◌, length, get_or, arith, rules, sym, ap, ◌∙◌}
use Rattle.std.proofs.lemmas.List.{ext_get_or}
use Rattle.std.proofs.lemmas.List.Edits.{fill_by_more}
use Rattle.packed.specs.Fields as spec
use Rattle.packed.proofs.Placing.{field_of, value_at, length-fields, length-values_in}
use Rattle.packed.proofs.bits.BitsStateForm.unpack.Goals as goal
use Rattle.packed.proofs.bits.BitsStateForm.unpack.Goals.{After-number_in}

-- the value that is written
value_is : (g : _) (c : After-number_in g) → c.number_in.result ≡ get_or (spec.values_in c.args.self.now.words c.args.layout.now) c.loop-variable.variable 0
value_is g c =
    let at = field_of g.row.WORDS c.args.layout.now c.fields-field-items.result.now c.loop-variable.variable c.requires.fits c.fields-field-items.ensures.limits c.fields-field-items.ensures.fields c.loop-variable-test.true in
    c.number_in.ensures ∙ sym (value_at g.row.WORDS c.args.self.now.words c.args.layout.now c.loop-variable.variable _ at)

within : (g : _) (c : After-number_in g) → c.loop-variable.variable < length c.args.layout.now
within g c = omega (arith, c.loop-variable-test.true, ap length c.fields-field-items.ensures.fields, length-fields c.args.layout.now)

pub number_in-requires : goal.number_in-requires
number_in-requires g c = (
  search rules,
  (field_of g.row.WORDS c.args.layout.now _ c.loop-variable.variable c.requires.fits c.fields-field-items.ensures.limits c.fields-field-items.ensures.fields c.loop-variable-test.true).placed,
)

pub overflow_cast-state : goal.overflow_cast-state
overflow_cast-state g c =
    omega (
      arith,
      value_is g c,
      c.requires.values.in_range c.loop-variable.variable (within g c),
      c.fields-field-items.ensures.limits.values c.loop-variable.variable 0 (within g c),
    )

pub loop-variable-preserved : goal.loop-variable-preserved
loop-variable-preserved g c =
    rw (value_is g c)
    (fill_by_more (λ v. get_or (spec.values_in c.args.self.now.words c.args.layout.now) v 0) c.loop-variable.state c.loop-variable.variable 0
    (omega (arith, within g c, c.loop-variable.auto.state, c.requires.len)) c.loop-variable.invariant)

pub returns : goal.returns
returns g c =
    let long : length c.loop-variable.state ≡ length c.args.layout.now = c.loop-variable.auto.state ∙ c.requires.len in
    ext_get_or 0 c.loop-variable.state (spec.values_in c.args.self.now.words c.args.layout.now)
    (long ∙ sym (length-values_in c.args.self.now.words c.args.layout.now))
    (λ v here. c.loop-variable.invariant v
    (omega (arith, here, long, c.loop-variable-test.false, ap length c.fields-field-items.ensures.fields, length-fields c.args.layout.now)))
