use Rattle.std.proofs.Common.{arith}
use Rattle.std.proofs.lemmas.Result.{IfOk-weaker}
use Rattle.checker_states.proofs.Parts.{all_parts}
use Rattle.checker_states.proofs.index.parts_side_by_side.Goals as goal

pub returns : goal.returns
returns g c =
    IfOk-weaker c.all_made.result _ _
    (λ slots all. all_parts c.args.multipliers.now c.args.closed.now c.args.parts c.in_ok-made.made.items slots.items c.requires.some c.requires.few (omega (arith, c.in_ok-made.made.ok.0, c.in_ok-made.ensures.len))
    (λ i d l. (c.in_ok-made.ensures.each i d l).1.met) all) c.all_made.ensures
