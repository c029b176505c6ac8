-- The changes of an operator at the digits of an abstract state determine its transitions.
use Rattle.std.proofs.Common.{◌≡◌, ℕ, ◌+◌, ◌*◌, ◌/◌, ◌%◌, ◌<◌, Bool, true, false, List, [], ◌∷◌, length, map, refl, sym, ap, ◌∙◌, arith, cond, eqb, Option, Some, None}
use Rattle.std.specs.Prelude.{◌↔◌, IfSome, slice_index, unwrap_or}
use Rattle.std.specs.List.{list_all}
use Rattle.std.proofs.Math.Nat.{mod-add-div, div-div-eq-div-mul}
use Rattle.std.proofs.lemmas.Nat.{mod_below, div_below}
use Rattle.std.proofs.lemmas.Bool.{eqb-true, or_parts}
use Rattle.fdr.specs.declared.fact.Fact.{Fact}
use Rattle.fdr.specs.Tasks.{Operator, IsAssignment, IsOperator}
use Rattle.abstraction.specs.Projections.{size_of, agrees, value_after, index_after, transition_of}
use Rattle.abstraction.specs.Digits.{digits_from}
use Rattle.abstraction.specs.ProjectionLaws.{quotient, remainder, positive}
use Rattle.abstraction.specs.Facts.{value_in}
use Rattle.abstraction.proofs.DigitLaws.{Rising}
use Rattle.abstraction.proofs.FactLaws.{value_fits, conditions_met, effect_gives, facts_told, agree_on_none}
use Rattle.abstraction_groups.specs.declared.change.Change.{Change}
use Rattle.abstraction_groups.specs.declared.change.Change.TheVariants.{Kept, Required, Moved, Assigned}
use Rattle.abstraction_groups.specs.Changes.{change_by, change_of, LeadsAt, LeadsBy, plain_at, plain, moves_at, moves, at_digits, FitsIn}

-- ---- one value

-- condition and effect on a variable are its change
change_leads : (condition effect : Option ℕ) (x y : ℕ) → (IfSome condition (λ c. x ≡ c) × (unwrap_or effect x ≡ y)) ↔ LeadsAt (change_by condition effect) x y
change_leads None None x y = (λ h. h.1, λ h. (tt, h))
change_leads (Some c) None x y = (λ h. (h.0, sym h.1 ∙ h.0), λ h. (h.0, h.0 ∙ sym h.1))
change_leads (Some c) (Some e) x y = (λ h. (h.0, sym h.1), λ h. (h.0, sym h.1))
change_leads None (Some e) x y = (λ h. sym h.1, λ h. (tt, sym h))

pub change_fits : (r : ℕ) (condition effect : Option ℕ) → IfSome condition (λ c. c < r) → IfSome effect (λ e. e < r) → FitsIn r (change_by condition effect)
change_fits r None None h k = tt
change_fits r (Some c) None h k = h
change_fits r (Some c) (Some e) h k = (h, k)
change_fits r None (Some e) h k = k

-- a plain change turns the same values into the same
moved_plain : (from to x y : ℕ) (b : Bool) → eqb from to ≡ b → LeadsAt (Moved from to) x y ↔ LeadsAt (cond b (Required from) (Moved from to)) x y
moved_plain from to x y true e = let same : from ≡ to = eqb-true from to e in (λ h. (h.0, h.1 ∙ sym same), λ h. (h.0, h.1 ∙ same))
moved_plain from to x y false e = (λ h. h, λ h. h)

plain_at_leads : (c : Change) (x y : ℕ) → LeadsAt c x y ↔ LeadsAt (plain_at c) x y
plain_at_leads Kept x y = (λ h. h, λ h. h)
plain_at_leads (Required c) x y = (λ h. h, λ h. h)
plain_at_leads (Moved from to) x y = moved_plain from to x y (eqb from to) refl
plain_at_leads (Assigned e) x y = (λ h. h, λ h. h)

single_leads : (r x y : ℕ) (c : Change) → r ≡ 1 → x < r → y < r → FitsIn r c → LeadsAt c x y
single_leads r x y Kept e l m fits = omega arith
single_leads r x y (Required c) e l m fits = (omega arith, omega arith)
single_leads r x y (Moved from to) e l m fits = (omega (arith, fits.0), omega (arith, fits.1))
single_leads r x y (Assigned a) e l m fits = omega arith

plain_leads : (r : ℕ) (c : Change) (x y : ℕ) → x < r → y < r → FitsIn r c → LeadsAt c x y ↔ LeadsAt (plain r c) x y
plain_leads r c x y l m fits = go (eqb r 1) refl
  where
    go : (b : Bool) → eqb r 1 ≡ b → LeadsAt c x y ↔ LeadsAt (cond b Kept (plain_at c)) x y
    go true e = let one : r ≡ 1 = eqb-true r 1 e in (λ h. omega arith, λ h. single_leads r x y c one l m fits)
    go false e = plain_at_leads c x y

moved_fits : (r from to : ℕ) (b : Bool) → FitsIn r (Moved from to) → FitsIn r (cond b (Required from) (Moved from to))
moved_fits r from to true fits = fits.0
moved_fits r from to false fits = fits

plain_at_fits : (r : ℕ) (c : Change) → FitsIn r c → FitsIn r (plain_at c)
plain_at_fits r Kept fits = tt
plain_at_fits r (Required c) fits = fits
plain_at_fits r (Moved from to) fits = moved_fits r from to (eqb from to) fits
plain_at_fits r (Assigned e) fits = fits

pub plain_fits : (r : ℕ) (c : Change) → FitsIn r c → FitsIn r (plain r c)
plain_fits r c fits = go (eqb r 1)
  where
    go : (b : Bool) → FitsIn r (cond b Kept (plain_at c))
    go true = tt
    go false = plain_at_fits r c fits

-- a change that moves nothing turns each value into itself
still_at : (c : Change) (x y : ℕ) → moves_at c ≡ false → LeadsAt c x y → x ≡ y
still_at Kept x y e h = h
still_at (Required c) x y e h = h.0 ∙ sym h.1
still_at (Moved from to) x y e h = absurd (cc)
still_at (Assigned a) x y e h = absurd (cc)

-- ---- the values at the digits

module _ (rs : List ℕ) where
  -- two numbers are equal if their lowest digits and what is above them are
  places_equal : (x r q j : ℕ) → x < r → (x + r * q ≡ j) ↔ ((x ≡ j % r) × (q ≡ j / r))
  places_equal x r q j l = (
    λ e. (sym (ap (λ (n : ℕ). n % r) (sym e) ∙ remainder x r q l), sym (ap (λ (n : ℕ). n / r) (sym e) ∙ quotient x r q l)),
    λ h. ap (λ (n : ℕ). n + r * q) h.0 ∙ ap (λ (n : ℕ). j % r + r * n) h.1 ∙ mod-add-div j r,
  )

  effect_fits : (p : ℕ) (effect : List Fact) (x : ℕ) → IsAssignment rs effect → x < slice_index rs p → value_after effect p x < slice_index rs p
  effect_fits p effect x is l = rw (effect_gives p x effect is.distinct) (go (value_in effect p) (value_fits rs p effect is.in_range))
    where
      go : (r : Option ℕ) → IfSome r (λ c. c < slice_index rs p) → unwrap_or r x < slice_index rs p
      go None h = l
      go (Some e) h = h

  module _ (op : Operator) (is : IsOperator rs op) where
    -- the plain changes of the operator at the variables
    abbrev pub changes_at : List ℕ → List Change
    changes_at ps = map (λ v. plain (slice_index rs v) (change_of op v)) ps

    pub change_of_fits : (p : ℕ) → FitsIn (slice_index rs p) (change_of op p)
    change_of_fits p = change_fits (slice_index rs p) (value_in op.precondition p) (value_in op.effect p) (value_fits rs p op.precondition is.precondition.in_range) (value_fits rs p op.effect is.effect.in_range)

    -- at a weight the changes describe the part of the abstract state from there on
    abbrev Told : List ℕ → ℕ → ℕ → ℕ → Type 0
    Told ps w i j =
        ((list_all (agrees rs ps i) op.precondition ≡ true) × (index_after rs ps i op.effect ≡ j / w)) ↔ LeadsBy (at_digits (digits_from rs w ps) (changes_at ps)) i j

    told_more : (p : ℕ) (ps : List ℕ) (w i j : ℕ) → Rising (p ∷ ps) → i % slice_index rs p < slice_index rs p → j / w % slice_index rs p < slice_index rs p →
        Told ps (w * slice_index rs p) (i / slice_index rs p) j → Told (p ∷ ps) w i j
    told_more p ps w i j rising low lower rest = (to, from)
      where
        split : j / w / slice_index rs p ≡ j / (w * slice_index rs p)
        split = div-div-eq-div-mul j w (slice_index rs p)

        here : (IfSome (value_in op.precondition p) (λ c. i % slice_index rs p ≡ c) × (unwrap_or (value_in op.effect p) (i % slice_index rs p) ≡ j / w % slice_index rs p))
            ↔ LeadsAt (change_of op p) (i % slice_index rs p) (j / w % slice_index rs p)
        here = change_leads (value_in op.precondition p) (value_in op.effect p) (i % slice_index rs p) (j / w % slice_index rs p)

        same : LeadsAt (change_of op p) (i % slice_index rs p) (j / w % slice_index rs p) ↔ LeadsAt (plain (slice_index rs p) (change_of op p)) (i % slice_index rs p) (j / w % slice_index rs p)
        same = plain_leads (slice_index rs p) (change_of op p) (i % slice_index rs p) (j / w % slice_index rs p) low lower (change_of_fits p)

        gives : value_after op.effect p (i % slice_index rs p) ≡ unwrap_or (value_in op.effect p) (i % slice_index rs p)
        gives = effect_gives p (i % slice_index rs p) op.effect is.effect.distinct

        equal : (value_after op.effect p (i % slice_index rs p) + slice_index rs p * index_after rs ps (i / slice_index rs p) op.effect ≡ j / w)
            ↔ ((value_after op.effect p (i % slice_index rs p) ≡ j / w % slice_index rs p) × (index_after rs ps (i / slice_index rs p) op.effect ≡ j / w / slice_index rs p))
        equal =
            places_equal (value_after op.effect p (i % slice_index rs p)) (slice_index rs p) (index_after rs ps (i / slice_index rs p) op.effect) (j / w)
            (effect_fits p op.effect (i % slice_index rs p) is.effect low)

        to : (list_all (agrees rs (p ∷ ps) i) op.precondition ≡ true) × (index_after rs (p ∷ ps) i op.effect ≡ j / w) → LeadsBy (at_digits (digits_from rs w (p ∷ ps)) (changes_at (p ∷ ps))) i j
        to h =
            let a = (facts_told rs p ps i op.precondition rising).0 h.0 in
            let b = equal.0 h.1 in (
              same.0 (here.0 ((conditions_met p (i % slice_index rs p) op.precondition is.precondition.distinct).0 a.0, sym gives ∙ b.0)),
              rest.0 (a.1, b.1 ∙ split),
            )

        from : LeadsBy (at_digits (digits_from rs w (p ∷ ps)) (changes_at (p ∷ ps))) i j → (list_all (agrees rs (p ∷ ps) i) op.precondition ≡ true) × (index_after rs (p ∷ ps) i op.effect ≡ j / w)
        from h =
            let a = here.1 (same.1 h.0) in
            let b = rest.1 h.1 in (
              (facts_told rs p ps i op.precondition rising).1 ((conditions_met p (i % slice_index rs p) op.precondition is.precondition.distinct).1 a.0, b.0),
              equal.1 (gives ∙ a.1, b.1 ∙ sym split),
            )

    leads_told : (ps : List ℕ) (w i j : ℕ) → Rising ps → i < size_of rs ps → j / w < size_of rs ps → Told ps w i j
    leads_told [] w i j rising l k = (λ h. omega arith, λ h. (agree_on_none rs i op.precondition, omega arith))
    leads_told (p ∷ ps) w i j rising l k =
        let some : 0 < slice_index rs p = positive i (slice_index rs p) (size_of rs ps) l in
        let split : j / w / slice_index rs p ≡ j / (w * slice_index rs p) = div-div-eq-div-mul j w (slice_index rs p) in
        let above : i / slice_index rs p < size_of rs ps = div_below i (slice_index rs p) (size_of rs ps) some (omega arith) in
        let behind : j / w / slice_index rs p < size_of rs ps = div_below (j / w) (slice_index rs p) (size_of rs ps) some (omega arith) in
        told_more p ps w i j rising (mod_below i (slice_index rs p) some) (mod_below (j / w) (slice_index rs p) some)
        (leads_told ps (w * slice_index rs p) (i / slice_index rs p) j rising.1 above (rw (← split) behind))

    -- the changes turn one abstract state into another if the operator does, and only then
    pub transition_told : (ps : List ℕ) (i j : ℕ) → Rising ps → i < size_of rs ps → j < size_of rs ps →
        (transition_of rs ps i op ≡ Some j) ↔ LeadsBy (at_digits (digits_from rs 1 ps) (changes_at ps)) i j
    transition_told ps i j rising l k = (to, from)
      where
        whole : j / 1 ≡ j
        whole = omega arith

        told : ((list_all (agrees rs ps i) op.precondition ≡ true) × (index_after rs ps i op.effect ≡ j / 1)) ↔ LeadsBy (at_digits (digits_from rs 1 ps) (changes_at ps)) i j
        told = leads_told ps 1 i j rising l (omega arith)

        open_cond : (b : Bool) (n : ℕ) → cond b (Some n) None ≡ Some j → (b ≡ true) × (n ≡ j)
        open_cond true n e = (refl, cc)
        open_cond false n e = absurd (cc)

        to : transition_of rs ps i op ≡ Some j → LeadsBy (at_digits (digits_from rs 1 ps) (changes_at ps)) i j
        to e =
            let parts = open_cond (list_all (agrees rs ps i) op.precondition) (index_after rs ps i op.effect) e in told.0 (parts.0, parts.1 ∙ sym whole)

        from : LeadsBy (at_digits (digits_from rs 1 ps) (changes_at ps)) i j → transition_of rs ps i op ≡ Some j
        from h = let a = told.1 h in rw (a.0) (ap Some (a.1 ∙ whole))

  -- changes that move nothing turn each abstract state into itself
  still_by : (ps : List ℕ) (cs : List Change) (w i j : ℕ) → length cs ≡ length ps → moves cs ≡ false → i < size_of rs ps → j / w < size_of rs ps →
      LeadsBy (at_digits (digits_from rs w ps) cs) i j → i ≡ j / w
  still_by [] cs w i j long e l k h = omega arith
  still_by (p ∷ ps) [] w i j long e l k h = absurd (omega arith)
  still_by (p ∷ ps) (c ∷ cs) w i j long e l k h =
      let parts = or_parts (moves_at c) (moves cs) e in
      let some : 0 < slice_index rs p = positive i (slice_index rs p) (size_of rs ps) l in
      let split : j / w / slice_index rs p ≡ j / (w * slice_index rs p) = div-div-eq-div-mul j w (slice_index rs p) in
      let above : i / slice_index rs p < size_of rs ps = div_below i (slice_index rs p) (size_of rs ps) some (omega arith) in
      let behind : j / w / slice_index rs p < size_of rs ps = div_below (j / w) (slice_index rs p) (size_of rs ps) some (omega arith) in
      let rest = still_by ps cs (w * slice_index rs p) (i / slice_index rs p) j (omega arith) parts.1 above (rw (← split) behind) h.1 in
      let here : i % slice_index rs p ≡ j / w % slice_index rs p = still_at c (i % slice_index rs p) (j / w % slice_index rs p) parts.0 h.0 in
      sym (mod-add-div i (slice_index rs p)) ∙ ap (λ (n : ℕ). n + slice_index rs p * (i / slice_index rs p)) here
      ∙ ap (λ (n : ℕ). j / w % slice_index rs p + slice_index rs p * n) (rest ∙ sym split) ∙ mod-add-div (j / w) (slice_index rs p)

  pub still : (ps : List ℕ) (cs : List Change) (i j : ℕ) → length cs ≡ length ps → moves cs ≡ false → i < size_of rs ps → j < size_of rs ps →
      LeadsBy (at_digits (digits_from rs 1 ps) cs) i j → i ≡ j
  still ps cs i j long e l k h = let whole : j / 1 ≡ j = omega arith in still_by ps cs 1 i j long e l (omega arith) h ∙ whole
