use Rattle.std.proofs.Common.{◌≡◌, ℕ, ◌+◌, ◌<◌, ◌≤◌, ◌++◌, List, length, sym, ap, ◌∙◌, subst, arith}
use Rattle.keyed_lists.specs.declared.lists.Keyed.{Keyed}
use Rattle.fdr.specs.Tasks.{FiniteDomainTask}
use Rattle.fdr.specs.Limits.{max_operators}
use Rattle.abstraction.specs.declared.digit.Digit.{Digit}
use Rattle.abstraction_groups.specs.declared.backward.Transition.{Transition}
use Rattle.abstraction_groups.specs.declared.change.Change.{Change}
use Rattle.abstraction_groups.specs.Changes.{at_digits}
use Rattle.abstraction_groups.specs.Factors.{digits_of, group_changes}
use Rattle.abstraction_groups.specs.Pairs.{group_entries, IsRow}
use Rattle.abstraction_groups.proofs.GroupRows.{groups_few, group_row, group_long}
use Rattle.abstraction_groups.proofs.ListLaws.{AreMade, made_more, entries_told}
use Rattle.abstraction_groups.proofs.listed.entries_of.Goals as goal

pub overflow_cast-group : goal.overflow_cast-group
overflow_cast-group g c =
    let task = g.A.Abstraction.task c.args.groups.now in
    let a = g.A.Abstraction.abstraction c.args.groups.now in
    let f = g.A.FactoredAbstraction.factors c.args.groups.now in
    let is = g.met.A.FactoredAbstraction.factored c.args.groups.now in
    let n = c.loop-group.group in
    let same : c.task.result.now ≡ task = c.task.ensures ∙ ap g.A.Abstraction.task c.abstraction.ensures in
    let most : length task.operators ≤ max_operators = subst (λ (t : FiniteDomainTask). length t.operators ≤ max_operators) same c.recall.ensures.limits.operators in
    let few = groups_few task f in
    let inside : n < length (group_changes task f) = omega (arith, c.len-group-end.ensures) in
    omega arith

pub append_pairs-requires-clause-long : goal.append_pairs-requires-clause-long
append_pairs-requires-clause-long g c =
    let task = g.A.Abstraction.task c.args.groups.now in
    let a = g.A.Abstraction.abstraction c.args.groups.now in
    let f = g.A.FactoredAbstraction.factors c.args.groups.now in
    let is = g.met.A.FactoredAbstraction.factored c.args.groups.now in
    let n = c.loop-group.group in
    let inside : n < length (group_changes task f) = omega (arith, c.len-group-end.ensures) in
    let digits : c.digits-digits.result.now ≡ digits_of f = c.digits-digits.ensures ∙ ap (λ x. digits_of (g.A.FactoredAbstraction.factors x)) c.abstraction-2.ensures in
    ap length c.changes_of.ensures ∙ group_long task f a is n inside ∙ sym (ap length digits)

pub append_pairs-requires-clause-row : goal.append_pairs-requires-clause-row
append_pairs-requires-clause-row g c =
    let task = g.A.Abstraction.task c.args.groups.now in
    let a = g.A.Abstraction.abstraction c.args.groups.now in
    let f = g.A.FactoredAbstraction.factors c.args.groups.now in
    let is = g.met.A.FactoredAbstraction.factored c.args.groups.now in
    let n = c.loop-group.group in
    let inside : n < length (group_changes task f) = omega (arith, c.len-group-end.ensures) in
    let digits : c.digits-digits.result.now ≡ digits_of f = c.digits-digits.ensures ∙ ap (λ x. digits_of (g.A.FactoredAbstraction.factors x)) c.abstraction-2.ensures in
    subst (λ (ds : List Digit). IsRow (at_digits ds c.changes_of.result.now)) (sym digits)
    (subst (λ (cs : List Change). IsRow (at_digits (digits_of f) cs)) (sym c.changes_of.ensures) (group_row task f a is n inside))

pub loop-group-preserved : goal.loop-group-preserved
loop-group-preserved g c =
    let task = g.A.Abstraction.task c.args.groups.now in
    let a = g.A.Abstraction.abstraction c.args.groups.now in
    let f = g.A.FactoredAbstraction.factors c.args.groups.now in
    let is = g.met.A.FactoredAbstraction.factored c.args.groups.now in
    let n = c.loop-group.group in
    let inside : n < length (group_changes task f) = omega (arith, c.len-group-end.ensures) in
    let digits : c.digits-digits.result.now ≡ digits_of f = c.digits-digits.ensures ∙ ap (λ x. digits_of (g.A.FactoredAbstraction.factors x)) c.abstraction-2.ensures in
    let entries : List (Keyed Transition) = c.loop-group.entries.items in
    let made = c.in_ok-append_pairs.ensures ∙ ap (λ (ds : List Digit). entries ++ group_entries n (at_digits ds c.changes_of.result.now)) digits
    ∙ ap (λ (cs : List Change). entries ++ group_entries n (at_digits (digits_of f) cs)) c.changes_of.ensures in
    subst (λ (es : List (Keyed Transition)). AreMade (digits_of f) (group_changes task f) (n + 1) es) (sym made)
    (made_more (digits_of f) (group_changes task f) n entries c.loop-group.invariant)

pub returns : goal.returns
returns g c =
    let task = g.A.Abstraction.task c.args.groups.now in
    let a = g.A.Abstraction.abstraction c.args.groups.now in
    let f = g.A.FactoredAbstraction.factors c.args.groups.now in
    let is = g.met.A.FactoredAbstraction.factored c.args.groups.now in
    let n = c.loop-group.group in
    let end : n ≡ length (group_changes task f) = omega (arith, c.len-group-end.ensures) in
    entries_told task a f is c.loop-group.entries.items
    (subst (λ (m : ℕ). AreMade (digits_of f) (group_changes task f) m c.loop-group.entries.items) end c.loop-group.invariant)
