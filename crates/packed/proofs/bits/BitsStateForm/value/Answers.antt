use Rattle.std.proofs.Common.{◌≡◌, length, get_or, arith, rules, sym, ap, ◌∙◌}
use Rattle.packed.specs.Fields as spec
use Rattle.packed.proofs.Placing.{field_of, value_at, length-fields, IsFieldOf}
use Rattle.packed.proofs.bits.BitsStateForm.value.Goals as goal
use Rattle.packed.proofs.bits.BitsStateForm.value.Goals.{After-fields, After-number_in}

-- the field that is read is the variable's
own : (g : _) (c : After-fields g)
    → IsFieldOf g.row.WORDS c.args.layout.now c.args.variable (get_or c.fields.result.now c.args.variable (record { word = 0; shift = 0; width = 0 }))
own g c =
    field_of g.row.WORDS c.args.layout.now c.fields.result.now c.args.variable c.requires.fits c.fields.ensures.limits c.fields.ensures.fields
    (omega (arith, ap length c.fields.ensures.fields, length-fields c.args.layout.now, c.requires.variable))

-- the number that is read
value_is : (g : _) (c : After-number_in g) → c.number_in.result ≡ get_or (spec.values_in c.args.self.now.words c.args.layout.now) c.args.variable 0
value_is g c = c.number_in.ensures ∙ sym (value_at g.row.WORDS c.args.self.now.words c.args.layout.now c.args.variable _ (own g (goal.at.overflow_cast-result g c).After-fields))

pub number_in-requires : goal.number_in-requires
number_in-requires g c = (search rules, (own g (goal.at.number_in-requires g c).After-fields).placed)

pub overflow_cast-result : goal.overflow_cast-result
overflow_cast-result g c =
    omega (arith, value_is g c, c.requires.values.in_range c.args.variable c.requires.variable, c.fields.ensures.limits.values c.args.variable 0 c.requires.variable)

pub returns : goal.returns
returns g c = value_is g c
