use Rattle.std.proofs.Common.{◌≡◌, ◌≤◌, ℕ, List, length, ap, ◌∙◌, sym, subst, arith, Some, ltb-false}
use Rattle.std.specs.Prelude.{slice_get}
use Rattle.std.proofs.lemmas.Option.{slice_get-get_or}
use Rattle.fdr.specs.declared.fact.Fact.{Fact}
use Rattle.fdr.specs.Tasks.{FiniteDomainTask, Operator}
use Rattle.abstraction.specs.Projections.{size_of}
use Rattle.abstraction_mapping.specs.Mappings.{variables_of, facts_by}
use Rattle.abstraction_mapping.specs.Views.{task_in, mapping_in, counts_in}
use Rattle.abstraction_mapping.specs.ClassLaws.{size_by}
use Rattle.checker_tables.specs.declared.moves.FreeDigit.{FreeDigit}
use Rattle.checker_tables.specs.Moves.{AreMoves, StaysBelow, IsLeast}
use Rattle.checker_tables.specs.TableFaults.{is_fall_within}
use Rattle.checker_tables.proofs.OperatorFalls.{moves_stay, effect_in_range, no_operator, operator_falls}
use Rattle.checker_tables.proofs.transitions.least_fall.Goals as goal

pub returns-in_default : goal.returns-in_default
returns-in_default c =
    let a = c.args.abstraction.now in
    let listed : c.operators.result.now ≡ (task_in a).operators = c.operators.ensures.value ∙ ap (λ (t : FiniteDomainTask). t.operators) c.task.ensures in
    let past : length (task_in a).operators ≤ c.args.spender.operator =
    omega (arith, ap length listed, ltb-false c.args.spender.operator (length c.operators.result.now) (sym c.in_default.ensures.lookup.0)) in
    no_operator a c.args.values.now c.args.spender.operator c.args.spender.share c.args.limit past

pub least-requires : goal.least-requires
least-requires c =
    let a = c.args.abstraction.now in
    let op = c.in-Some.operator.now in
    let o = c.args.spender.operator in
    let listed : c.operators.result.now ≡ (task_in a).operators = c.operators.ensures.value ∙ ap (λ (t : FiniteDomainTask). t.operators) c.task.ensures in
    let is : slice_get (task_in a).operators o ≡ Some op =
    ap (λ (os : List Operator). slice_get os o) (sym listed)
    ∙ slice_get-get_or c.operators.result.now o op c.in-Some.ensures.lookup.3.0 ∙ ap Some (sym (c.in-Some.ensures.lookup.3.1 op)) in
    let conditions : c.deref.result.now ≡ op.precondition = c.deref.ensures.value ∙ ap (λ (x : Operator). x.precondition) c.operator.view_is in
    let effects : c.deref-2.result.now ≡ op.effect = c.deref-2.ensures.value ∙ ap (λ (x : Operator). x.effect) c.operator.view_is in
    let by = facts_by (mapping_in a) in
    let made : AreMoves (counts_in a) (variables_of (mapping_in a)) 1 (by op.precondition) (by op.effect) c.in_ok-moves.moves =
    subst (λ (fs : List Fact). AreMoves (counts_in a) (variables_of (mapping_in a)) 1 (by op.precondition) (by fs) c.in_ok-moves.moves) effects
    (subst (λ (fs : List Fact). AreMoves (counts_in a) (variables_of (mapping_in a)) 1 (by fs) (by c.deref-2.result.now) c.in_ok-moves.moves) conditions c.in_ok-moves.ensures) in
    let m = c.in_ok-moves.moves in
    let size : size_of (counts_in a) (variables_of (mapping_in a)) ≡ length c.args.values.now = sym (c.requires.size ∙ size_by (task_in a) (mapping_in a)) in
    subst (λ (n : ℕ). StaysBelow c.deref-3.result.now m.source m.target n n) size
    (subst (λ (ds : List FreeDigit). StaysBelow ds m.source m.target (size_of (counts_in a) (variables_of (mapping_in a))) (size_of (counts_in a) (variables_of (mapping_in a)))) (sym c.deref-3.ensures.value)
    (moves_stay (counts_in a) (variables_of (mapping_in a)) (by op.precondition) (by op.effect) m (effect_in_range a o op is) made))

pub returns : goal.returns
returns c =
    let a = c.args.abstraction.now in
    let op = c.in-Some.operator.now in
    let o = c.args.spender.operator in
    let listed : c.operators.result.now ≡ (task_in a).operators = c.operators.ensures.value ∙ ap (λ (t : FiniteDomainTask). t.operators) c.task.ensures in
    let is : slice_get (task_in a).operators o ≡ Some op =
    ap (λ (os : List Operator). slice_get os o) (sym listed)
    ∙ slice_get-get_or c.operators.result.now o op c.in-Some.ensures.lookup.3.0 ∙ ap Some (sym (c.in-Some.ensures.lookup.3.1 op)) in
    let conditions : c.deref.result.now ≡ op.precondition = c.deref.ensures.value ∙ ap (λ (x : Operator). x.precondition) c.operator.view_is in
    let effects : c.deref-2.result.now ≡ op.effect = c.deref-2.ensures.value ∙ ap (λ (x : Operator). x.effect) c.operator.view_is in
    let by = facts_by (mapping_in a) in
    let made : AreMoves (counts_in a) (variables_of (mapping_in a)) 1 (by op.precondition) (by op.effect) c.in_ok-moves.moves =
    subst (λ (fs : List Fact). AreMoves (counts_in a) (variables_of (mapping_in a)) 1 (by op.precondition) (by fs) c.in_ok-moves.moves) effects
    (subst (λ (fs : List Fact). AreMoves (counts_in a) (variables_of (mapping_in a)) 1 (by fs) (by c.deref-2.result.now) c.in_ok-moves.moves) conditions c.in_ok-moves.ensures) in
    let m = c.in_ok-moves.moves in
    operator_falls (task_in a) (mapping_in a) c.args.values.now o c.args.spender.share c.args.limit (omega (arith, c.requires.limit, c.requires.size)) op is m made c.least.result
    (subst (λ (ds : List FreeDigit). IsLeast (is_fall_within c.args.values.now c.args.values.now c.args.spender.share) ds m.source m.target c.args.limit c.least.result) c.deref-3.ensures.value c.least.ensures)
