use Rattle.std.proofs.Common.{sym, arith}
use Rattle.fdr.specs.Tasks.{ranges}
use Rattle.abstraction.proofs.DigitLaws.{no_digit}
use Rattle.abstraction_domain.specs.Domains.{variables, class_counts}
use Rattle.abstraction_domain.proofs.RowLaws.{digit_within, placed_digit, placed_below, placed_class, placed_within}
use Rattle.abstraction_domain.proofs.domain.DomainAbstraction.class_digit.Goals as goal

pub index-requires : goal.index-requires
index-requires c =
    let inside = c.self.inside in
    let found = rw c.deref.ensures.value at c.in-Some.ensures.found in
    let within = digit_within inside.task.now inside.is_task inside.rows.items inside.fit inside.increasing inside.variables.items c.self.invariant.0 inside.digits.items c.self.invariant.1 c.in-Some.place c.args.fact.variable found in
    omega (arith, within, inside.digits.ok.0)

pub returns-in-Some-clause-digit : goal.returns-in-Some-clause-digit
returns-in-Some-clause-digit c =
    let inside = c.self.inside in
    let found = rw c.deref.ensures.value at c.in-Some.ensures.found in
    rw (← c.self.view_is)
    (placed_digit inside.task.now inside.is_task inside.rows.items inside.fit inside.increasing inside.variables.items c.self.invariant.0 inside.digits.items c.self.invariant.1 c.in-Some.place c.args.fact.variable found c.index.result.now c.index.ensures)

pub returns-in-Some-clause-class : goal.returns-in-Some-clause-class
returns-in-Some-clause-class c =
    let inside = c.self.inside in
    let found = rw c.deref.ensures.value at c.in-Some.ensures.found in
    rw (c.class.ensures, ← c.self.view_is)
    (placed_class inside.task.now inside.is_task inside.rows.items inside.fit inside.increasing inside.variables.items c.self.invariant.0 inside.digits.items c.self.invariant.1 c.in-Some.place c.args.fact.variable found c.index-in-Some.result.now c.index-in-Some.ensures c.args.fact.value)

pub returns-in-Some-clause-within : goal.returns-in-Some-clause-within
returns-in-Some-clause-within c =
    let inside = c.self.inside in
    let found = rw c.deref.ensures.value at c.in-Some.ensures.found in
    let fits = rw (← c.self.view_is) at c.requires in
    rw c.class.ensures
    (placed_within inside.task.now inside.is_task inside.rows.items inside.fit inside.increasing inside.variables.items c.self.invariant.0 inside.digits.items c.self.invariant.1 c.in-Some.place c.args.fact.variable found c.index-in-Some.result.now c.index-in-Some.ensures c.index.result.now c.index.ensures c.args.fact.value fits.1)

pub returns-in-Some-clause-below : goal.returns-in-Some-clause-below
returns-in-Some-clause-below c =
    let inside = c.self.inside in
    let found = rw c.deref.ensures.value at c.in-Some.ensures.found in
    placed_below inside.task.now inside.is_task inside.rows.items inside.fit inside.increasing inside.variables.items c.self.invariant.0 inside.digits.items c.self.invariant.1 c.in-Some.place c.args.fact.variable found c.index.result.now c.index.ensures inside.small

pub returns-in-None-clause-digit : goal.returns-in-None-clause-digit
returns-in-None-clause-digit c =
    let inside = c.self.inside in
    let absent = rw (c.deref.ensures.value, c.self.invariant.0) at c.in-None.ensures.absent in
    rw (← c.self.view_is)
    (sym (no_digit (class_counts inside.rows.items (ranges inside.task.now)) (variables inside.rows.items) c.args.fact.variable absent))
