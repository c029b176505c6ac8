use Rattle.std.proofs.Common.{◌<◌, ◌≤◌, List, subst, ◌∙◌, arith}
use Rattle.abstraction_mapping.specs.Views.{abstraction_in}
use Rattle.checker_tables.specs.declared.moves.FreeDigit.{FreeDigit}
use Rattle.checker_tables.specs.Moves.{IsLeast}
use Rattle.checker_tables.specs.TableFaults.{is_fall_within}
use Rattle.checker_tables.proofs.OperatorFalls.{goal_found, goals_hold}
use Rattle.checker_tables.proofs.transitions.first_goal.Goals as goal

pub returns-then-least-len : goal.returns-then-least-len
returns-then-least-len c =
    let m = c.in_ok-goals.goals in
    let l : c.least-least.result < c.len.result = omega (arith, c.if-least-len.true, c.len-2.ensures, c.len.ensures) in
    goal_found (abstraction_in c.args.abstraction.now) c.args.values.now c.in_ok-zero.zero c.in_ok-zero.ensures m c.in_ok-goals.ensures
    c.len.result c.least-least.result (c.len.ensures ∙ c.requires)
    (subst (λ (ds : List FreeDigit). IsLeast (is_fall_within c.args.values.now c.in_ok-zero.zero 0) ds m.source m.target c.len.result c.least-least.result) c.deref.ensures.value c.least-least.ensures) l

pub returns : goal.returns
returns c =
    let m = c.in_ok-goals.goals in
    let l : c.len.result ≤ c.least-least.result = omega (arith, c.if-least-len.false, c.len-2.ensures, c.len.ensures) in
    goals_hold (abstraction_in c.args.abstraction.now) c.args.values.now c.in_ok-zero.zero c.in_ok-zero.ensures m c.in_ok-goals.ensures
    c.len.result c.least-least.result (c.len.ensures ∙ c.requires)
    (subst (λ (ds : List FreeDigit). IsLeast (is_fall_within c.args.values.now c.in_ok-zero.zero 0) ds m.source m.target c.len.result c.least-least.result) c.deref.ensures.value c.least-least.ensures) l
