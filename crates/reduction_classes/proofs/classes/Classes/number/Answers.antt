use Rattle.std.proofs.Common.{◌<◌, ℕ, List, Option, length, get_or, ap, ◌∙◌, arith}
use Rattle.std.proofs.lemmas.List.{length-map}
use Rattle.std.proofs.lemmas.List.FromFn.{get_or-map-range_with_len}
use Rattle.abstraction_domain.specs.Rows.{Row, classes_in}
use Rattle.reduction_classes.specs.Classes.{number_of}
use Rattle.reduction_classes.proofs.classes.Classes.number.Goals as goal

pub returns : goal.returns
returns c =
    let rows : List Row = c.self.inside.rows.items in
    let l : c.args.variable < length (classes_in rows) = rw (← c.self.view_is) at c.requires in
    let within : c.args.variable < length rows = omega (arith, l, length-map rows (λ (r : Row). r.classes)) in
    rw (← c.self.view_is)
    (c.index.ensures
    ∙ ap (λ (ns : List (Option ℕ)). get_or ns c.args.variable c.index.result.now) c.self.invariant.numbers
    ∙ get_or-map-range_with_len (number_of (classes_in rows)) 0 (length rows) c.args.variable c.args.variable c.index.result.now within (omega arith))
