use Rattle.std.proofs.Common.{◌≡◌, List, ℕ, length, ap, ◌∙◌, sym, arith}
use Rattle.std.proofs.lemmas.List.{with_items_is}
use Rattle.std.specs.Vec.{with_items}
use Rattle.fdr.specs.Tasks.{FiniteDomainTask}
use Rattle.fdr_successors.specs.Applicable.{applicable_operators}
use Rattle.first_plan_search.proofs.Applying.{expanding}
use Rattle.first_plan_search.proofs.expander.Expander.enter.Goals as goal

pub invariant_of-self : goal.invariant_of-self
invariant_of-self g c =
    let inside = c.self.inside in
    let next = c.unpack.new.state in
    let same : (with_items inside.state next).items ≡ next = with_items_is inside.state next (omega (arith, c.unpack.ensures.len, ap length c.deref_mut.ensures.value)) in
    let long : length (with_items inside.state next).items ≡ length inside.problem.now.value_names =
    ap length same ∙ c.unpack.ensures.len ∙ ap length c.deref_mut.ensures.value ∙ c.self.invariant.as_long in
    let found = c.in_ok-applicable.ensures.found
    ∙ (λ j. applicable_operators (c.generator-generator.ensures j) ((c.deref-then-unpack.ensures.value ∙ sym c.deref.ensures.value) j)) in
    expanding inside.problem.now inside.places c.enter.new.self (with_items inside.state next).items c.applicable.new.found.items c.deref.result.now
    c.self.invariant.of_task c.enter.ensures long found
