use Rattle.std.proofs.Common.{◌≡◌, ℕ, length, get_or, arith, ap, sym, ◌∙◌}
use Rattle.abstraction_mapping.specs.MappingLaws.{mapping_abstracts}
use Rattle.abstraction_mapping.specs.Views.{mapping_of}
use Rattle.scp_columns.specs.EarlierTables.{EarlierOf, IsMadeUnder}
use Rattle.scp_columns.proofs.EarlierTables.{as_many, at_place, within, found_at, serves}
use Rattle.scp_columns.proofs.earlier.EarlierColumn.table_for.Goals as goal

pub index-costs-requires : goal.index-costs-requires
index-costs-requires c =
    let inside = c.self.inside in
    omega (
      arith,
      within _ inside.tables.now c.in_ok-place.place c.in_ok-place.ensures,
      as_many (IsMadeUnder inside.task.now) inside.tables.now inside.costs.items c.self.invariant,
    )

pub are_at_most-requires : goal.are_at_most-requires
are_at_most-requires c =
    let inside = c.self.inside in
    let found = within _ inside.tables.now c.in_ok-place.place c.in_ok-place.ensures in
    let made = at_place (IsMadeUnder inside.task.now) inside.tables.now inside.costs.items c.in_ok-place.place c.index-self-place.result c.index-costs.result.now c.self.invariant found in
    let long = rw (sym c.index-costs.ensures) at made.as_long in
    ap length c.deref-then-are_left.ensures.value ∙ long ∙ ap (λ (e : EarlierOf). length e.task.operators) c.self.view_is ∙ sym c.requires.operators

pub returns-then-are_at_most-clause-task : goal.returns-then-are_at_most-clause-task
returns-then-are_at_most-clause-task c =
    let inside = c.self.inside in
    let found = within _ inside.tables.now c.in_ok-place.place c.in_ok-place.ensures in
    let made = at_place (IsMadeUnder inside.task.now) inside.tables.now inside.costs.items c.in_ok-place.place c.index-self-place.result c.index-costs.result.now c.self.invariant found in
    made.of_task ∙ ap (λ (e : EarlierOf). e.task) c.self.view_is

pub returns-then-are_at_most-clause-next : goal.returns-then-are_at_most-clause-next
returns-then-are_at_most-clause-next c =
    let inside = c.self.inside in
    let m = mapping_of c.args.mapping.now in
    let found = within _ inside.tables.now c.in_ok-place.place c.in_ok-place.ensures in
    let made = at_place (IsMadeUnder inside.task.now) inside.tables.now inside.costs.items c.in_ok-place.place c.index-self-place.result c.index-costs.result.now c.self.invariant found in
    let t = get_or inside.tables.now c.in_ok-place.place c.index-self-place.result in
    let of_task = ap (λ (e : EarlierOf). e.task) c.self.view_is in
    let under = rw (sym c.index-costs.ensures, of_task) at made in
    let abstracts = rw (c.requires.task, c.requires.mapping) at (mapping_abstracts c.args.abstraction.now) in
    let is : t.table.mapping ≡ m = found_at _ inside.tables.now c.in_ok-place.place c.index-self-place.result c.in_ok-place.ensures in
    let shares = c.deref.ensures.value ∙ ap (λ u. u.shares) c.table.ensures.table in
    let enough = λ (o : ℕ). rw shares at (c.are_left.ensures c.if-are_left.true o) in
    let no_more = λ (o : ℕ). rw (c.requires.task, c.requires.mapping, c.deref-then-are_left.ensures.value) at (c.are_at_most.ensures c.if-are_at_most.true o) in
    serves c.args.self.now.task m t c.index-costs.result.now c.args.left.now abstracts under is enough no_more
