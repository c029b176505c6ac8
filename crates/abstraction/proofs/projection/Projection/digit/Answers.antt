use Rattle.std.proofs.Common.{◌≡◌, length, sym, arith}
use Rattle.fdr.specs.Tasks.{ranges}
use Rattle.abstraction.proofs.DigitLaws.{no_digit}
use Rattle.abstraction.proofs.PatternLaws.{length-digits_from, found_is, found_range, found_below, ranges_positive}
use Rattle.abstraction.proofs.projection.Projection.digit.Goals as goal

pub index-requires : goal.index-requires
index-requires c =
    let inside = c.self.inside in
    let found = rw c.deref.ensures.value at c.in-Some.ensures.found in
    let as_long : length inside.digits.items ≡ length inside.pattern.items = rw c.self.invariant.0 (length-digits_from (ranges inside.task.now) inside.pattern.items 1) in
    omega (arith, found.0, inside.digits.ok.0, as_long)

pub returns-in-Some-clause-digit : goal.returns-in-Some-clause-digit
returns-in-Some-clause-digit c =
    let inside = c.self.inside in
    let found = rw c.deref.ensures.value at c.in-Some.ensures.found in
    rw (← c.self.view_is)
    (found_is (ranges inside.task.now) inside.pattern.items inside.digits.items c.self.invariant.0 inside.increasing c.in-Some.place c.args.variable found.0 found.1 c.index.result.now c.index.ensures)

pub returns-in-Some-clause-range : goal.returns-in-Some-clause-range
returns-in-Some-clause-range c =
    let inside = c.self.inside in
    let found = rw c.deref.ensures.value at c.in-Some.ensures.found in
    rw (← c.self.view_is)
    (found_range (ranges inside.task.now) inside.pattern.items inside.digits.items c.self.invariant.0 inside.increasing c.in-Some.place c.args.variable found.0 found.1 c.index.result.now c.index.ensures)

pub returns-in-Some-clause-below : goal.returns-in-Some-clause-below
returns-in-Some-clause-below c =
    let inside = c.self.inside in
    let found = rw c.deref.ensures.value at c.in-Some.ensures.found in
    found_below (ranges inside.task.now) inside.pattern.items inside.digits.items c.self.invariant.0 inside.increasing c.in-Some.place c.args.variable found.0 found.1 c.index.result.now c.index.ensures
    (ranges_positive inside.task.now inside.pattern.items inside.is_task inside.exist) inside.small

pub returns-in-None-clause-digit : goal.returns-in-None-clause-digit
returns-in-None-clause-digit c =
    let inside = c.self.inside in
    rw (← c.self.view_is)
    (sym (no_digit (ranges inside.task.now) inside.pattern.items c.args.variable (rw c.deref.ensures.value at c.in-None.ensures.absent)))
