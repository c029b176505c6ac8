use Rattle.std.proofs.Common.{◌<◌, ◌≤◌, ℕ, length, arith, sym, ap, ◌∙◌}
use Rattle.std.proofs.lemmas.Bool.Decides.{nat_tests}
use Rattle.std.specs.Prelude.{Option}
use Rattle.pddl_syntax.specs.declared.fault.LimitedTable.TheVariants.{Schemas}
use Rattle.pddl_syntax.specs.Faults.{first_of}
use Rattle.pddl_action.specs.Actions.{past_fault}
use Rattle.pddl_action.proofs.Schemas.{place_within, place_past}
use Rattle.pddl_action.proofs.action.blame_sections.Goals as goal

pub returns-in-Some : goal.returns-in-Some
unfolding first_of
returns-in-Some c =
    let ss = c.args.sections.now in
    let h : 512 < length ss = grind (arith, nat_tests, c.in-Some.ensures.lookup) in
    c.blame.ensures ∙ sym (ap (λ (o : Option ℕ). first_of c.args.first.now (past_fault Schemas o)) (place_within ss 512 c.in-Some.section.now h c.in-Some.ensures.lookup.1))

pub returns-in_default : goal.returns-in_default
unfolding first_of
returns-in_default c =
    let ss = c.args.sections.now in
    let h : length ss ≤ 512 = grind (arith, nat_tests, c.in_default.ensures.lookup) in
    sym (ap (λ (o : Option ℕ). first_of c.args.first.now (past_fault Schemas o)) (place_past ss 512 h))
