use Rattle.std.proofs.Common.{◌≡◌, ◌++◌, ◌∷◌, [], ℕ, List, length, get_or, take, drop, refl, sym, ap, ◌∙◌, subst, arith}
use Rattle.std.specs.Prelude.{All}
use Rattle.fdr.specs.declared.fact.Fact.{Fact}
use Rattle.fdr.specs.Tasks.{FiniteDomainTask, Operator, ranges, IsOperator, IsState, with_values}
use Rattle.packed.specs.Masks.{effect_at}
use Rattle.packed.proofs.Changing.{state_with_values}
use Rattle.packed.proofs.Masking.{effect_is, effect_in_range}
use Rattle.packed.proofs.plain.PlainStateForm.after.Goals as goal
use Rattle.packed.proofs.plain.PlainStateForm.after.Goals.{After-set_values}

-- all values are written
whole : (xs ys : List ℕ) → length xs ≡ length ys → take (length ys) (xs ++ drop (length xs) ys) ≡ xs
whole [] [] e = refl
whole [] (y ∷ ys) e = absurd (omega (arith, e))
whole (x ∷ xs) [] e = absurd (omega (arith, e))
whole (x ∷ xs) (y ∷ ys) e = let rest = whole xs ys (omega (arith, e)) in ap (λ (l : List ℕ). x ∷ l) rest

module _ (c : After-set_values) where
  abbrev new : List ℕ
  new = c.set_values.new.state

  all : take (length c.in_ok-changed.changed.values.items) (new ++ drop (length new) c.in_ok-changed.changed.values.items) ≡ new
  all = whole new c.in_ok-changed.changed.values.items (omega (arith, c.set_values.auto.state, ap length c.as_mut_slice.ensures.value))

  same : new ≡ with_values (effect_at c.args.masks.now c.args.operator) c.args.self.now.values.items
  same =
      let o = c.args.operator in
      let op = c.index-operators-operator.result in
      let operators_are = c.operators.ensures.value ∙ ap (λ (t : FiniteDomainTask). t.operators) c.task.ensures in
      let facts_are = c.deref-facts.ensures.value ∙ (ap (λ (x : Operator). x.effect) c.operator.view_is
      ∙ sym (effect_is c.args.masks.now o op c.requires.operator (subst (λ (ops : List Operator). op ≡ get_or ops o op) operators_are c.index-operators-operator.is))) in
      c.set_values.ensures
      ∙ (ap (λ (fs : List Fact). with_values fs c.as_mut_slice.result.now) facts_are
      ∙ ap (λ (s : List ℕ). with_values (effect_at c.args.masks.now o) s)
      (c.as_mut_slice.ensures.value ∙ c.in_ok-changed.ensures.values (ranges c.args.masks.now) c.requires.form))

  state : IsState (ranges c.args.masks.now) new
  state =
      let fine = subst (λ (t : FiniteDomainTask). All (IsOperator (ranges t)) t.operators) c.task.ensures
      (subst (λ (ops : List Operator). All (IsOperator (ranges c.task.result.now)) ops) c.operators.ensures.value c.operators.ensures.operators) in
      subst (λ (s : List ℕ). IsState (ranges c.args.masks.now) s) (sym same)
      (state_with_values (ranges c.args.masks.now) (effect_at c.args.masks.now c.args.operator) c.args.self.now.values.items c.requires.form
      (effect_in_range c.args.masks.now c.args.operator c.index-operators-operator.result fine c.requires.operator))

pub returns-clause-form : goal.returns-clause-form
returns-clause-form c =
    let at = (goal.at.returns-clause-form c).After-set_values in
    subst (λ (s : List ℕ). IsState (ranges c.args.masks.now) s) (sym (all at)) (state at)

pub returns-clause-values : goal.returns-clause-values
returns-clause-values c = let at = (goal.at.returns-clause-values c).After-set_values in all at ∙ same at
