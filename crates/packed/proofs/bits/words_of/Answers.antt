use Rattle.std.proofs.Common.{length, get_or, arith, refl, ap}
use Rattle.packed.proofs.Placing.{length-fields, field_of}
use Rattle.packed.proofs.Filling.{holds_all, next_field, IsNext}
use Rattle.packed.proofs.bits.words_of.Goals as goal
use Rattle.packed.proofs.bits.words_of.Goals.{After-wrapping_shl}

next : (g : _) (c : After-wrapping_shl g)
    → IsNext g.row.WORDS c.loop-variable.words c.args.layout.now c.args.state.now c.loop-variable.variable (get_or c.fields-field-items.result.now c.loop-variable.variable (record { word = 0; shift = 0; width = 0 })) c.wrapping_shl.result
next g c =
    next_field g.row.WORDS c.loop-variable.words c.args.layout.now c.args.state.now c.loop-variable.variable _ (get_or c.args.state.now c.loop-variable.variable 0) c.wrapping_shl.result
    c.fields-field-items.ensures.limits c.requires.state
    (field_of g.row.WORDS c.args.layout.now _ c.loop-variable.variable c.requires.fits c.fields-field-items.ensures.limits c.fields-field-items.ensures.fields c.loop-variable-test.true)
    c.loop-variable.invariant refl c.wrapping_shl.ensures

pub offset_bounds-words-field : goal.offset_bounds-words-field
offset_bounds-words-field g c =
    omega (arith, (field_of g.row.WORDS c.args.layout.now _ c.loop-variable.variable c.requires.fits c.fields-field-items.ensures.limits c.fields-field-items.ensures.fields c.loop-variable-test.true).placed.near)

pub bounds-words-field : goal.bounds-words-field
bounds-words-field g c =
    (field_of g.row.WORDS c.args.layout.now _ c.loop-variable.variable c.requires.fits c.fields-field-items.ensures.limits c.fields-field-items.ensures.fields c.loop-variable-test.true).placed.inside

pub bounds-words-field-in-loop-variable : goal.bounds-words-field-in-loop-variable
bounds-words-field-in-loop-variable g c =
    (field_of g.row.WORDS c.args.layout.now _ c.loop-variable.variable c.requires.fits c.fields-field-items.ensures.limits c.fields-field-items.ensures.fields c.loop-variable-test.true).placed.inside

pub overflow_add-words : goal.overflow_add-words
overflow_add-words g c = omega (arith, (next g (goal.at.overflow_add-words g c).After-wrapping_shl).fits)

pub loop-variable-preserved : goal.loop-variable-preserved
loop-variable-preserved g c = (next g (goal.at.loop-variable-preserved g c).After-wrapping_shl).holds

pub bounds-state-variable : goal.bounds-state-variable
bounds-state-variable g c =
    omega (arith, c.loop-variable-test.true, ap length c.fields-field-items.ensures.fields, length-fields c.args.layout.now, c.requires.state.as_long)

pub returns : goal.returns
returns g c =
    holds_all g.row.WORDS c.loop-variable.words c.args.layout.now c.args.state.now c.loop-variable.variable c.loop-variable.invariant
    (omega (arith, c.loop-variable-test.false, ap length c.fields-field-items.ensures.fields))
