use Rattle.std.proofs.Common.{◌≡◌, ◌∙◌, get_or}
use Rattle.pddl_problem.specs.Goals.{Placed}
use Rattle.pddl_problem.proofs.Opposites.{wanted_more, excluded_more, faults_more}
use Rattle.pddl_problem.proofs.goals.blame_opposites.Goals as goal

pub loop-placed-preserved : goal.loop-placed-preserved
loop-placed-preserved c =
    let ls = c.args.literals.now in let i = c.loop-placed.placed-index in let l : Placed = record { at = c.placed.inside.at; literal = c.placed.inside.literal } in
    let is : l ≡ get_or ls i l = rw c.placed.view_is c.placed-item.is in
    let old = c.loop-placed.known in let inv = c.loop-placed.invariant in
    record {
      wanted = wanted_more old c.add.new.self ls i l c.loop-placed-test.true is inv.wanted c.in_ok-add.ensures.wanted;
      excluded = excluded_more old c.add.new.self ls i l c.loop-placed-test.true is inv.excluded c.in_ok-add.ensures.excluded;
      faults = faults_more c.loop-placed.first c.blame_if.new.first old ls i l c.has_opposite.result c.loop-placed-test.true is inv.wanted inv.excluded
          c.has_opposite.ensures c.blame_if.ensures ∙ inv.faults;
    }
