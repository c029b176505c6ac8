use Rattle.std.proofs.Common.{length, get_or, arith, rules, sym, ap, ◌∙◌}
use Rattle.packed.specs.Fields as spec
use Rattle.packed.proofs.Placing.{field_of, value_at}
use Rattle.packed.proofs.Filling.{holds_all, IsNext, next_field}
use Rattle.packed.proofs.bits.Bits.without_other_bits.Goals as goal
use Rattle.packed.proofs.bits.Bits.without_other_bits.Goals.{After-wrapping_shl}

next : (g : _) (c : After-wrapping_shl g)
    → IsNext g.row.WORDS c.loop-field.words c.args.layout.now (spec.values_in c.args.self.now.words c.args.layout.now) c.loop-field.field-index (get_or c.fields-field-items.result.now c.loop-field.field-index (record { word = 0; shift = 0; width = 0 })) c.wrapping_shl.result
next g c =
    let at = field_of g.row.WORDS c.args.layout.now c.fields-field-items.result.now c.loop-field.field-index c.requires.fits c.fields-field-items.ensures.limits c.fields-field-items.ensures.fields c.loop-field-test.true in
    next_field g.row.WORDS c.loop-field.words c.args.layout.now (spec.values_in c.args.self.now.words c.args.layout.now) c.loop-field.field-index _ c.number_in.result c.wrapping_shl.result
    c.fields-field-items.ensures.limits c.requires.state at c.loop-field.invariant
    (c.number_in.ensures ∙ sym (value_at g.row.WORDS c.args.self.now.words c.args.layout.now c.loop-field.field-index _ at))
    c.wrapping_shl.ensures

pub number_in-requires : goal.number_in-requires
number_in-requires g c = (
  search rules,
  (field_of g.row.WORDS c.args.layout.now _ c.loop-field.field-index c.requires.fits c.fields-field-items.ensures.limits c.fields-field-items.ensures.fields c.loop-field-test.true).placed,
)

pub offset_bounds-words-field : goal.offset_bounds-words-field
offset_bounds-words-field g c =
    omega (arith, (field_of g.row.WORDS c.args.layout.now _ c.loop-field.field-index c.requires.fits c.fields-field-items.ensures.limits c.fields-field-items.ensures.fields c.loop-field-test.true).placed.near)

pub bounds-words-field : goal.bounds-words-field
bounds-words-field g c =
    (field_of g.row.WORDS c.args.layout.now _ c.loop-field.field-index c.requires.fits c.fields-field-items.ensures.limits c.fields-field-items.ensures.fields c.loop-field-test.true).placed.inside

pub bounds-words-field-in-loop-field : goal.bounds-words-field-in-loop-field
bounds-words-field-in-loop-field g c =
    (field_of g.row.WORDS c.args.layout.now _ c.loop-field.field-index c.requires.fits c.fields-field-items.ensures.limits c.fields-field-items.ensures.fields c.loop-field-test.true).placed.inside

pub overflow_add-words : goal.overflow_add-words
overflow_add-words g c = omega (arith, (next g (goal.at.overflow_add-words g c).After-wrapping_shl).fits)

pub loop-field-preserved : goal.loop-field-preserved
loop-field-preserved g c = (next g (goal.at.loop-field-preserved g c).After-wrapping_shl).holds

pub returns : goal.returns
returns g c =
    holds_all g.row.WORDS c.loop-field.words c.args.layout.now (spec.values_in c.args.self.now.words c.args.layout.now) c.loop-field.field-index c.loop-field.invariant
    (omega (arith, c.loop-field-test.false, ap length c.fields-field-items.ensures.fields))
