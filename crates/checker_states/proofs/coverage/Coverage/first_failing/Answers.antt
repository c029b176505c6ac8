use Rattle.std.proofs.Common.{◌≡◌, length, sym, ap, ◌∙◌, subst}
use Rattle.std.specs.Prelude.{not}
use Rattle.std.specs.List.{find}
use Rattle.fdr.specs.Tasks.{FiniteDomainTask}
use Rattle.fdr_successors.specs.Applicable.{applicable_operators}
use Rattle.checker_states.specs.Coverings.{Covering}
use Rattle.checker_states.specs.Places.{passes_successor, IsFirstFailing}
use Rattle.checker_states.proofs.Successors.{its_length, first_of_all}
use Rattle.checker_states.proofs.coverage.Coverage.first_failing.Goals as goal

pub applicable-requires : goal.applicable-requires
applicable-requires c =
    let inside = c.self.inside in
    its_length inside.task.now inside.certificate.now c.args.place 0 c.copy_state.new.into (rw c.closed.ensures at c.copy_state.ensures.state)
    (rw (← c.self.view_is) at c.requires.state)
    ∙ ap (λ (t : FiniteDomainTask). length t.value_names) (sym c.self.invariant.generator)

pub returns-clause-found : goal.returns-clause-found
returns-clause-found c =
    let inside = c.self.inside in
    let are : c.deref.result.now ≡ applicable_operators inside.task.now c.copy_state.new.into =
    c.deref.ensures.value ∙ c.in_ok-applicable.ensures.found ∙ ap (λ (t : FiniteDomainTask). applicable_operators t c.copy_state.new.into) c.self.invariant.generator in
    let is : c.first_uncovered.result ≡ find (λ o. not (passes_successor inside.task.now inside.certificate.now c.args.place o)) c.deref.result.now =
    c.first_uncovered.ensures ∙ ap (λ (v : Covering). find (λ o. not (passes_successor v.task v.certificate c.args.place o)) c.deref.result.now) (sym c.self.view_is) in
    subst (λ (v : Covering). IsFirstFailing (passes_successor v.task v.certificate c.args.place) c.first_uncovered.result) c.self.view_is
    (first_of_all inside.task.now inside.certificate.now c.args.place c.copy_state.new.into (rw c.closed.ensures at c.copy_state.ensures.state) c.deref.result.now c.first_uncovered.result are is)
