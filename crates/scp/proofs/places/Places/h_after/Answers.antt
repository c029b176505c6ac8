use Rattle.std.proofs.Common.{◌≡◌, ◌∙◌, ◌^◌, ◌<◌, List, length, ℕ, Option, Some, true, ap, sym, subst, arith}
use Rattle.std.specs.Prelude.{Vec, get_or, IfSome}
use Rattle.std.specs.Global.{Global}
use Rattle.std.proofs.lemmas.List.{with_items_is}
use Rattle.fdr.specs.Tasks.{FiniteDomainTask, ranges, IsState, IsTask, applies_at, step}
use Rattle.cost.specs.Distances.{IsWithin}
use Rattle.checker_clauses.specs.Clauses.{heuristic_of}
use Rattle.scp_rows.specs.Flats.{most_in, blocks_in, words_in}
use Rattle.scp_rows.specs.declared.moves.Move.{Move}
use Rattle.scp_rows.specs.Moves.{AreMoved, AreMovesOf, AreTouched, IsEntered, StepsTo, first_rows}
use Rattle.scp.specs.Places.{PlacesOf, AreEntered}
use Rattle.scp.proofs.Applying.{applied_step}
use Rattle.scp.proofs.PlaceLaws.{first_of_task, all_states, all_step, moved, moved_all, next_state, operator_within}
use Rattle.scp.proofs.places.Places.h_after.Goals as goal

pub enter_once-sums-requires-clause-state : goal.enter_once-sums-requires-clause-state
enter_once-sums-requires-clause-state c =
    let p = c.self.inside in
    let task = p.columns.now.task in
    all_states task (first_rows (blocks_in p.flat.now)) (first_of_task task (blocks_in p.flat.now) p.flat_of_task) c.deref.result.now
    (subst (IsState (ranges task)) (sym c.deref.ensures.value) c.self.invariant.0.state_of_task)

pub enter_once-sums-requires-clause-entered : goal.enter_once-sums-requires-clause-entered
enter_once-sums-requires-clause-entered c =
    let p = c.self.inside in
    let Are = λ (state indices : List ℕ). IfSome p.sums (λ s. IsEntered (most_in p.flat.now) (first_rows (blocks_in p.flat.now)) state indices (words_in s)) in
    subst (λ state. Are state c.deref_mut.result.now) (sym c.deref.ensures.value) (subst (Are p.state.items) (sym c.deref_mut.ensures.value) c.self.invariant.0.each)

pub offset_bounds-touches-operator : goal.offset_bounds-touches-operator
offset_bounds-touches-operator c =
    let p = c.self.inside in
    let applies = subst (λ (v : PlacesOf). applies_at v.task c.args.operator v.state ≡ true) (sym c.self.view_is) c.requires in
    let led = applied_step p.columns.now.task p.state.items c.args.operator applies in
    omega (arith, operator_within p.columns.now.task p.state.items led.0 c.args.operator led.1, p.touches_are.as_many)

pub bounds-touches-operator : goal.bounds-touches-operator
bounds-touches-operator c =
    let p = c.self.inside in
    let applies = subst (λ (v : PlacesOf). applies_at v.task c.args.operator v.state ≡ true) (sym c.self.view_is) c.requires in
    let led = applied_step p.columns.now.task p.state.items c.args.operator applies in
    omega (arith, operator_within p.columns.now.task p.state.items led.0 c.args.operator led.1, p.touches_are.as_many)

pub offset_bounds-moves-operator : goal.offset_bounds-moves-operator
offset_bounds-moves-operator c =
    let p = c.self.inside in
    let applies = subst (λ (v : PlacesOf). applies_at v.task c.args.operator v.state ≡ true) (sym c.self.view_is) c.requires in
    let led = applied_step p.columns.now.task p.state.items c.args.operator applies in
    omega (arith, operator_within p.columns.now.task p.state.items led.0 c.args.operator led.1, p.touches_are.as_many, p.moves_are.as_many)

pub bounds-moves-operator : goal.bounds-moves-operator
bounds-moves-operator c =
    let p = c.self.inside in
    let applies = subst (λ (v : PlacesOf). applies_at v.task c.args.operator v.state ≡ true) (sym c.self.view_is) c.requires in
    let led = applied_step p.columns.now.task p.state.items c.args.operator applies in
    omega (arith, operator_within p.columns.now.task p.state.items led.0 c.args.operator led.1, p.touches_are.as_many, p.moves_are.as_many)

pub moved_value-value-requires-clause-leads : goal.moved_value-value-requires-clause-leads
moved_value-value-requires-clause-leads c =
    let p = c.self.inside in
    let task = p.columns.now.task in
    let applies = subst (λ (v : PlacesOf). applies_at v.task c.args.operator v.state ≡ true) (sym c.self.view_is) c.requires in
    let led = applied_step task p.state.items c.args.operator applies in
    let of = first_of_task task (blocks_in p.flat.now) p.flat_of_task in (
      led.0,
      all_step task (first_rows (blocks_in p.flat.now)) of c.deref-2.result.now led.0 c.args.operator
          (subst (λ (s : List ℕ). step task s c.args.operator ≡ Some led.0) (sym c.deref-2.ensures.value) led.1),
    )

pub moved_value-value-requires-clause-touched : goal.moved_value-value-requires-clause-touched
moved_value-value-requires-clause-touched c =
    let p = c.self.inside in
    let task = p.columns.now.task in
    let rows = first_rows (blocks_in p.flat.now) in
    let applies = subst (λ (v : PlacesOf). applies_at v.task c.args.operator v.state ≡ true) (sym c.self.view_is) c.requires in
    let led = applied_step task p.state.items c.args.operator applies in
    let low = operator_within task p.state.items led.0 c.args.operator led.1 in
    let Are = λ (touched : List ℕ). ∥ AreTouched rows c.args.operator (length rows) touched ∥₁ in
    let touched : Are c.deref-touched.result.now =
    subst Are (sym c.deref-touched.ensures.value)
    (subst (λ (v : Vec ℕ Global). Are v.items) (sym c.index-touches-operator.is) (p.touches_are.each c.args.operator c.index-touches-operator.result low)) in
    (moved task rows (first_of_task task (blocks_in p.flat.now) p.flat_of_task) p.state.items c.self.invariant.0.state_of_task c.args.operator led.0 led.1 c.deref-touched.result.now touched).within

pub moved_value-value-requires-clause-moves : goal.moved_value-value-requires-clause-moves
moved_value-value-requires-clause-moves c =
    let p = c.self.inside in
    let task = p.columns.now.task in
    let rows = first_rows (blocks_in p.flat.now) in
    let applies = subst (λ (v : PlacesOf). applies_at v.task c.args.operator v.state ≡ true) (sym c.self.view_is) c.requires in
    let led = applied_step task p.state.items c.args.operator applies in
    let low = operator_within task p.state.items led.0 c.args.operator led.1 in
    let are = p.moves_are.each c.args.operator c.index-touches-operator.result c.index-moves-operator.result (omega (arith, low, p.touches_are.as_many)) in
    subst (λ (touched : List ℕ). AreMovesOf rows c.args.operator touched c.index-moves-operator.result) (sym c.deref-touched.ensures.value)
    (subst (λ (v : Vec ℕ Global). AreMovesOf rows c.args.operator v.items c.index-moves-operator.result) (sym c.index-touches-operator.is)
    (subst (λ (m : Option (Vec Move Global)). AreMovesOf rows c.args.operator (get_or p.touches.now c.args.operator c.index-touches-operator.result).items m) (sym c.index-moves-operator.is) are))

pub moved_value-value-requires-clause-moved : goal.moved_value-value-requires-clause-moved
moved_value-value-requires-clause-moved c = λ next steps.
    let p = c.self.inside in
    let task = p.columns.now.task in
    let rows = first_rows (blocks_in p.flat.now) in
    let of = first_of_task task (blocks_in p.flat.now) p.flat_of_task in
    let applies = subst (λ (v : PlacesOf). applies_at v.task c.args.operator v.state ≡ true) (sym c.self.view_is) c.requires in
    let led = applied_step task p.state.items c.args.operator applies in
    let low = operator_within task p.state.items led.0 c.args.operator led.1 in
    let Are = λ (touched : List ℕ). ∥ AreTouched rows c.args.operator (length rows) touched ∥₁ in
    let touched : Are c.deref-touched.result.now =
    subst Are (sym c.deref-touched.ensures.value)
    (subst (λ (v : Vec ℕ Global). Are v.items) (sym c.index-touches-operator.is) (p.touches_are.each c.args.operator c.index-touches-operator.result low)) in
    subst (λ (s : List ℕ). AreMoved rows c.deref-touched.result.now s next) (sym c.deref-2.ensures.value)
    (moved_all task rows of p.state.items c.self.invariant.0.state_of_task c.args.operator led.0 led.1 c.deref-touched.result.now touched next
    (subst (λ (s : List ℕ). StepsTo rows s c.args.operator next) c.deref-2.ensures.value steps))

pub returns-in-Some-clause-value : goal.returns-in-Some-clause-value
returns-in-Some-clause-value c = λ next stepped.
    let p = c.self.inside in
    let task = p.columns.now.task in
    let of = first_of_task task (blocks_in p.flat.now) p.flat_of_task in
    let leads : step task p.state.items c.args.operator ≡ Some next = subst (λ (v : PlacesOf). step v.task v.state c.args.operator ≡ Some next) (sym c.self.view_is) stepped in
    let there = next_state task (subst IsTask c.task.ensures c.recall-2.ensures.task) p.state.items next c.args.operator c.self.invariant.0.state_of_task leads in
    c.in-Some.ensures next (all_step task (first_rows (blocks_in p.flat.now)) of c.deref-2.result.now next c.args.operator
    (subst (λ (s : List ℕ). step task s c.args.operator ≡ Some next) (sym c.deref-2.ensures.value) leads))
    ∙ p.flat_value next there
    ∙ ap (λ (v : PlacesOf). heuristic_of v.task v.columns next) c.self.view_is

pub returns-in-Some-clause-small : goal.returns-in-Some-clause-small
returns-in-Some-clause-small c =
    let p = c.self.inside in
    let task = p.columns.now.task in
    let of = first_of_task task (blocks_in p.flat.now) p.flat_of_task in
    let applies = subst (λ (v : PlacesOf). applies_at v.task c.args.operator v.state ≡ true) (sym c.self.view_is) c.requires in
    let led = applied_step task p.state.items c.args.operator applies in
    let there = next_state task (subst IsTask c.task.ensures c.recall-2.ensures.task) p.state.items led.0 c.args.operator c.self.invariant.0.state_of_task led.1 in
    let value = c.in-Some.ensures led.0 (all_step task (first_rows (blocks_in p.flat.now)) of c.deref-2.result.now led.0 c.args.operator
    (subst (λ (s : List ℕ). step task s c.args.operator ≡ Some led.0) (sym c.deref-2.ensures.value) led.1)) in
    subst (IsWithin (2 ^ 61)) (sym (value ∙ p.flat_value led.0 there)) (c.recall.ensures.small led.0 there)

pub flat_value_after-requires-clause-moved : goal.flat_value_after-requires-clause-moved
flat_value_after-requires-clause-moved c =
    let p = c.self.inside in
    let task = p.columns.now.task in
    let rows = first_rows (blocks_in p.flat.now) in
    let of = first_of_task task (blocks_in p.flat.now) p.flat_of_task in
    let new = c.write_successor.new.values in
    let same : c.task-2.result.now ≡ task = c.task-2.ensures in
    let leads : step task p.state.items c.args.operator ≡ Some new =
    subst (λ (s : List ℕ). step task s c.args.operator ≡ Some new) c.deref-4.ensures.value
    (subst (λ (t : FiniteDomainTask). step t c.deref-4.result.now c.args.operator ≡ Some new) same c.write_successor.ensures.step) in
    let low = operator_within task p.state.items new c.args.operator leads in
    let Are = λ (touched : List ℕ). ∥ AreTouched rows c.args.operator (length rows) touched ∥₁ in
    let touched : Are c.deref-touched.result.now =
    subst Are (sym c.deref-touched.ensures.value)
    (subst (λ (v : Vec ℕ Global). Are v.items) (sym c.index-touches-operator.is) (p.touches_are.each c.args.operator c.index-touches-operator.result low)) in
    let written : (Rattle.std.specs.Vec.with_items p.next new).items ≡ new = with_items_is p.next new (omega (arith, c.write_successor.auto.values, c.deref_mut-2.ensures.len)) in
    subst (λ (s : List ℕ). AreMoved rows c.deref-touched.result.now s c.deref-7.result.now) (sym c.deref-5.ensures.value)
    (subst (λ (s : List ℕ). AreMoved rows c.deref-touched.result.now p.state.items s) (sym (c.deref-7.ensures.value ∙ written))
    (moved task rows of p.state.items c.self.invariant.0.state_of_task c.args.operator new leads c.deref-touched.result.now touched))
