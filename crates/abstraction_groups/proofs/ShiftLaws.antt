-- An operator without an effect alone changes the number of an abstract state by the same amount wherever it applies.
use Rattle.std.proofs.Common.{◌≡◌, ℕ, ◌+◌, ◌*◌, ◌/◌, ◌%◌, ◌<◌, Bool, true, false, List, [], ◌∷◌, length, Some, sym, ap, ◌∙◌, subst, arith}
use Rattle.std.specs.Prelude.{◌||◌, All, slice_get}
use Rattle.std.specs.List.{list_any}
use Rattle.std.proofs.lemmas.Bool.{or_parts, false≢true}
use Rattle.std.proofs.lemmas.List.{length-map}
use Rattle.std.proofs.lemmas.List.Elements.{All-head, All-tail}
use Rattle.std.proofs.lemmas.Nat.{div_below}
use Rattle.std.proofs.Math.Nat.{mod-add-div, div-div-eq-div-mul}
use Rattle.fdr.specs.Tasks.{FiniteDomainTask, Operator}
use Rattle.abstraction.specs.declared.digit.Digit.{Digit}
use Rattle.abstraction.specs.Digits.{value_of}
use Rattle.abstraction.specs.Abstractions.{Abstraction}
use Rattle.abstraction_groups.specs.declared.change.Change.{Change}
use Rattle.abstraction_groups.specs.declared.change.Change.TheVariants.{Kept, Required, Moved, Assigned}
use Rattle.abstraction_groups.specs.declared.change.DigitChange.{DigitChange}
use Rattle.abstraction_groups.specs.Changes.{LeadsAt, LeadsBy, IsFit, at_digits, is_assigned, least_before, least_after, size_by}
use Rattle.abstraction_groups.specs.Entrances.{LeadsTo}
use Rattle.abstraction_groups.specs.Factors.{Factors, IsFactored, changes_of, digits_of}
use Rattle.abstraction_groups.specs.GroupLaws.{steps_told}
use Rattle.abstraction_groups.specs.Pairs.{IsChain, least_source, least_target}
use Rattle.abstraction_groups.proofs.GroupRows.{operator_row, operator_size}
use Rattle.abstraction_groups.proofs.ReadLaws.{length-digits}

-- one change
step_at : (c : Change) (x y : ℕ) → is_assigned c ≡ false → LeadsAt c x y → y + least_before c ≡ x + least_after c
step_at Kept x y none h = omega (arith, h)
step_at (Required c) x y none h = omega (arith, h.0, h.1)
step_at (Moved from to) x y none h = omega (arith, h.0, h.1)
step_at (Assigned e) x y none h = absurd (false≢true (sym none))

-- whether one of the changes is an effect alone
abbrev has_assigned : List DigitChange → Bool
has_assigned cs = list_any (λ c. is_assigned c.change) cs

assigned_at : (ds : List Digit) (cs : List Change) → length cs ≡ length ds → list_any is_assigned cs ≡ false → has_assigned (at_digits ds cs) ≡ false
assigned_at [] [] long none = none
assigned_at [] (c ∷ cs) long none = absurd (omega arith)
assigned_at (d ∷ ds) [] long none = absurd (omega arith)
assigned_at (d ∷ ds) (c ∷ cs) long none =
    let parts = or_parts (is_assigned c) (list_any is_assigned cs) none in
    rw (parts.0) (assigned_at ds cs (omega arith) parts.1)

module _ (j : ℕ) where
  -- all changes, in units of `w`
  shift_by : (cs : List DigitChange) (w i : ℕ) → IsChain w cs → All IsFit cs → j / w < size_by cs → has_assigned cs ≡ false → LeadsBy cs i j →
      w * (j / w) + least_source cs ≡ w * i + least_target cs
  shift_by [] w i chain all l none h = let zero : j / w ≡ 0 = omega arith in rw (zero, h) (omega arith)
  shift_by (c ∷ cs) w i chain all l none h =
      let fit = All-head IsFit c cs all in
      let r = c.digit.range in
      let parts = or_parts (is_assigned c.change) (has_assigned cs) none in
      let above : j / w / r ≡ j / (w * r) = div-div-eq-div-mul j w r in
      let below : j / (w * r) < size_by cs = subst (λ (v : ℕ). v < size_by cs) above (div_below (j / w) r (size_by cs) fit.digit.range (omega arith)) in
      let rest = shift_by cs (w * r) (i / r) chain.1 (All-tail IsFit c cs all) below parts.1 h.1 in
      let here = step_at c.change (i % r) (value_of c.digit j) parts.0 h.0 in
      let digit : value_of c.digit j ≡ j / w % r = ap (λ (v : ℕ). j / v % r) chain.0 in
      let whole : j / w % r + r * (j / (w * r)) ≡ j / w = ap (λ (v : ℕ). j / w % r + r * v) (sym above) ∙ mod-add-div (j / w) r in
      let value : j / w % r + least_before c.change ≡ i % r + least_after c.change = rw (← digit) here in
      let weight = chain.0 in
      rw (weight, ← whole, ← mod-add-div i r) (
      let scaled = ap (λ (n : ℕ). w * n) value in
      omega (arith, scaled, rest))

-- an operator's transitions
pub shift_told : (task : FiniteDomainTask) (a : Abstraction) (f : Factors) → IsFactored task a f → (o : ℕ) (op : Operator) (i j : ℕ) → slice_get task.operators o ≡ Some op →
    list_any is_assigned (changes_of f op) ≡ false → j < a.size → LeadsTo a o i j →
    j + least_source (at_digits (digits_of f) (changes_of f op)) ≡ i + least_target (at_digits (digits_of f) (changes_of f op))
shift_told task a f is o op i j at none l h =
    let row = operator_row task f a is o op at in
    let size = operator_size task f a is o op at in
    let long : length (changes_of f op) ≡ length (digits_of f) = length-map f.variables _ ∙ sym (length-digits f) in
    let leads = (steps_told task a f is o op i j at l).0 h in
    let told = shift_by j (at_digits (digits_of f) (changes_of f op)) 1 i row.chain row.fit (omega arith) (assigned_at (digits_of f) (changes_of f op) long none) leads.1 in
    omega (arith, told)
