use Rattle.std.proofs.Common.{ℕ, ap, sym}
use Rattle.abstraction_domain.proofs.RowLaws.{class_of_others, placed_class}
use Rattle.abstraction_domain.proofs.domain.DomainAbstraction.class_fact.Goals as goal

pub returns-in-None : goal.returns-in-None
returns-in-None c =
    let inside = c.self.inside in
    let absent = rw (c.deref.ensures.value, c.self.invariant.0) at c.in-None.ensures.absent in
    rw (← c.self.view_is)
    (ap (λ (x : ℕ). record { variable = c.args.fact.variable; value = x }) (sym (class_of_others inside.rows.items c.args.fact.variable c.args.fact.value absent)))

pub returns-in-Some : goal.returns-in-Some
returns-in-Some c =
    let inside = c.self.inside in
    let found = rw c.deref.ensures.value at c.in-Some.ensures.found in
    rw (c.classes.ensures.value, ← c.self.view_is)
    (ap (λ (x : ℕ). record { variable = c.args.fact.variable; value = x })
    (placed_class inside.task.now inside.is_task inside.rows.items inside.fit inside.increasing inside.variables.items c.self.invariant.0 inside.digits.items c.self.invariant.1 c.in-Some.place c.args.fact.variable found c.index.result.now c.index.ensures c.args.fact.value))
