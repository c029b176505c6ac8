use Rattle.std.proofs.Common.{◌≡◌, ℕ, ◌<◌, ◌≤◌, List, length, Option, sym, ap, ◌∙◌, subst, arith}
use Rattle.std.specs.Prelude.{All, IfSome}
use Rattle.keyed_lists.specs.declared.lists.Keyed.{Keyed}
use Rattle.keyed_lists.specs.Lists.{lists_by}
use Rattle.fdr.specs.Tasks.{FiniteDomainTask}
use Rattle.abstraction_groups.specs.declared.change.Change.{Change}
use Rattle.abstraction_groups.specs.declared.groups.Collected.{Collected}
use Rattle.abstraction_groups.specs.Collected.{AreAffecting, AreMembers, AreGrouped, count_in}
use Rattle.abstraction_groups.specs.Factors.{Factors, digits_of, group_changes, transition_count}
use Rattle.abstraction_groups.proofs.MemberLaws.{rows_all, members_keys, members_grouped}
use Rattle.abstraction_groups.proofs.groups.Groups.within.Goals as goal
use Rattle.abstraction_groups.proofs.groups.Groups.within.Goals.{In-Some}

module _ (g : _) (c : In-Some g) where
  abbrev task : FiniteDomainTask
  task = g.A.Abstraction.task c.args.abstraction.now

  abbrev factors : Factors
  factors = g.A.FactoredAbstraction.factors c.args.abstraction.now

  abbrev collected : Collected
  collected = c.in-Some.collected

  affecting : AreAffecting task factors.variables c.deref.result.now
  affecting =
      subst (AreAffecting task factors.variables) (sym c.deref.ensures.value)
      (subst (λ (vs : List ℕ). AreAffecting task vs c.in_ok-operators.operators.items) c.variables.ensures
      (subst (λ (t : FiniteDomainTask). AreAffecting t c.variables.result.now c.in_ok-operators.operators.items) c.requires c.in_ok-operators.ensures))

  members : AreMembers task factors c.deref.result.now collected.table.rows collected.members.items
  members = subst (λ (r : Option Collected). IfSome r (λ x. AreMembers task factors c.deref.result.now x.table.rows x.members.items)) c.in-Some.is c.in_ok-collect.ensures.members

  rows : collected.table.rows ≡ group_changes task factors
  rows = rows_all task factors c.deref.result.now affecting collected.table.rows collected.members.items members

  keys : All (λ e. e.key < length collected.table.rows) collected.members.items
  keys = members_keys task factors c.deref.result.now affecting collected.table.rows collected.members.items members

  grouped : AreGrouped task factors (lists_by (length collected.table.rows) collected.members.items)
  grouped = members_grouped task factors c.deref.result.now affecting collected.table.rows collected.members.items members

  count : collected.transition_count ≡ transition_count task factors
  count =
      subst (λ (r : Option Collected). IfSome r (λ x. x.transition_count ≡ count_in (digits_of factors) x.table.rows)) c.in-Some.is c.in_ok-collect.ensures.count
      ∙ ap (count_in (digits_of factors)) rows

pub new-requires : goal.new-requires
new-requires g c =
    let rows : List (List Change) = c.in-Some.collected.table.rows in
    let long : c.len.result ≡ length rows = c.len.ensures ∙ ap length c.into_rows-changes.ensures in
    subst (λ (es : List (Keyed ℕ)). All (λ e. e.key < c.len.result) es) (sym c.deref-in-Some.ensures.value)
    (subst (λ (n : ℕ). All (λ e. e.key < n) c.in-Some.collected.members.items) (sym long) (keys g (goal.at.new-requires g c).In-Some))

pub invariant_of-result : goal.invariant_of-result
invariant_of-result g c =
    let before = (goal.at.invariant_of-result g c).In-Some in
    let long : c.len.result ≡ length c.in-Some.collected.table.rows = c.len.ensures ∙ ap length c.into_rows-changes.ensures in
    let lists : c.in_ok-operators-in-Some.operators ≡ lists_by (length c.in-Some.collected.table.rows) c.in-Some.collected.members.items =
    c.in_ok-operators-in-Some.ensures ∙ ap (λ (n : ℕ). lists_by n c.deref-in-Some.result.now) long
    ∙ ap (lists_by (length c.in-Some.collected.table.rows)) c.deref-in-Some.ensures.value in
    (c.into_rows-changes.ensures ∙ rows g before, subst (AreGrouped (task g before) (factors g before)) (sym lists) (grouped g before), count g before)

pub returns-clause-some : goal.returns-clause-some
returns-clause-some g c =
    let before = (goal.at.returns-clause-some g c).In-Some in
    let all = count g before in
    let most : c.in-Some.collected.transition_count ≤ c.args.limit = subst (λ (r : Option Collected). IfSome r (λ x. x.transition_count ≤ c.args.limit)) c.in-Some.is c.in_ok-collect.ensures.some in
    omega arith
