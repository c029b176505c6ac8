-- The moves of an abstraction by a mapping, made digit by digit from the last variable on.
use Rattle.std.proofs.Common.{◌≡◌, ℕ, zero, suc, ◌+◌, ◌*◌, ◌/◌, ◌%◌, ◌<◌, ◌≤◌, true, List, [], ◌∷◌, ◌^◌, length, take, drop, get_or, Option, refl, sym, ap, ◌∙◌, arith, subst, add-one}
use Rattle.std.specs.Prelude.{◌↔◌, All, IfSome, slice_index}
use Rattle.std.specs.List.{list_all}
use Rattle.std.proofs.Math.Nat.{mod-add-div}
use Rattle.std.proofs.lemmas.List.{get_or_default, at_drop_more}
use Rattle.std.proofs.lemmas.List.Elements.{All-nil, All-cons, All-take}
use Rattle.std.specs.List.Sorted.{IsStrictlyIncreasing}
use Rattle.std.proofs.lemmas.Nat.{mul-le, mul-add-lt, mod_below, div_below}
use Rattle.fdr.specs.declared.fact.Fact.{Fact}
use Rattle.fdr.specs.Tasks.{IsInRange, IsAssignment}
use Rattle.abstraction.specs.declared.digit.Digit.{Digit}
use Rattle.abstraction.specs.Digits.{digits_from, IsDigitBelow}
use Rattle.abstraction.specs.Projections.{size_of, agrees, value_after, index_after}
use Rattle.abstraction.specs.ProjectionLaws.{quotient, remainder, positive, index_after_below}
use Rattle.abstraction.specs.Facts.{value_in}
use Rattle.abstraction.proofs.DigitLaws.{Rising, rising_from, size_positive}
use Rattle.abstraction.proofs.PatternLaws.{size_more, length-digits_from, digit_from, found_below}
use Rattle.abstraction_mapping.specs.declared.table.TableAbstraction.{TableAbstraction}
use Rattle.abstraction_mapping.specs.Mappings.{variables_of}
use Rattle.abstraction_mapping.specs.Views.{task_in, mapping_in, abstraction_in, counts_in}
use Rattle.abstraction_mapping.specs.MappingLaws.{mapping_abstracts, mapping_is_small}
use Rattle.abstraction_mapping.specs.ClassLaws.{size_by, is_task_in, increasing_in}
use Rattle.checker_tables.specs.declared.moves.FreeDigit.{FreeDigit}
use Rattle.checker_tables.specs.declared.moves.Moves.{Moves}
use Rattle.checker_tables.specs.Moves.{Reaches, Leads, IsExtended, AreMoves}
use Rattle.checker_tables.proofs.ReachLaws.{start_reached}
use Rattle.abstraction.proofs.FactLaws.{value_fits, conditions_met, effect_gives, facts_told, agree_on_none}

module _ (ranges : List ℕ) (precondition effect : List Fact) where
  -- no digit: one transition, from 0 to 0
  pub no_digits : (w : ℕ) (m : Moves) → m.free.items ≡ [] → m.source ≡ 0 → m.target ≡ 0 → AreMoves ranges [] w precondition effect m
  no_digits w m e p q =
      record {
        to = λ i l h.
            let none : i ≡ 0 = omega arith in
            subst (λ (ds : List FreeDigit). Reaches ds m.source m.target (i * w) (0 * w)) (sym e)
            (ap (λ (x : ℕ). x * w) none ∙ zero_times w ∙ sym p, zero_times w ∙ sym q);
        from = λ a b h.
            let parts : (a ≡ m.source) × (b ≡ m.target) = subst (λ (ds : List FreeDigit). Reaches ds m.source m.target a b) e h in
            (0, omega arith, agree_on_none ranges 0 precondition, parts.0 ∙ p ∙ sym (zero_times w), parts.1 ∙ q ∙ sym (zero_times w));
        positive = subst (λ (ds : List FreeDigit). All (λ (d : FreeDigit). 0 < d.range) ds) (sym e) (λ i d l. absurd (omega arith));
      }
    where
      zero_times : (x : ℕ) → 0 * x ≡ 0
      zero_times x = omega arith

  module _ (conditions : IsAssignment ranges precondition) (effects : IsAssignment ranges effect) where
    -- one more digit
    pub one_digit : (p : ℕ) (ps : List ℕ) (d : Digit) (w high : ℕ) (old new : Moves) → Rising (p ∷ ps)
        → d ≡ record { weight = w; range = slice_index ranges p } → high ≡ w * slice_index ranges p
        → AreMoves ranges ps high precondition effect old
        → ((a b : ℕ) → Leads new a b ↔ IsExtended old d (value_in precondition p) (value_in effect p) a b)
        → All (λ d. 0 < d.range) new.free.items → AreMoves ranges (p ∷ ps) w precondition effect new
    one_digit p ps d w high old new rising is weight made extended some =
        record { to = to; from = from; positive = some }
      where
        split : (i x : ℕ) → (x + slice_index ranges p * i) * w ≡ i * high + x * w
        split i x = rw weight (omega arith)

        to : (i : ℕ) → i < slice_index ranges p * size_of ranges ps → list_all (agrees ranges (p ∷ ps) i) precondition ≡ true
            → Leads new (i * w) (index_after ranges (p ∷ ps) i effect * w)
        to i l h =
            let range : 0 < slice_index ranges p = positive i (slice_index ranges p) (size_of ranges ps) l in
            let told = (facts_told ranges p ps i precondition rising).0 h in
            let above : i / slice_index ranges p < size_of ranges ps = div_below i (slice_index ranges p) (size_of ranges ps) range (omega arith) in
            (extended (i * w) (index_after ranges (p ∷ ps) i effect * w)).1
            (record {
              before = i % slice_index ranges p;
              after = value_after effect p (i % slice_index ranges p);
              source = i / slice_index ranges p * high;
              target = index_after ranges ps (i / slice_index ranges p) effect * high;
              in_range = subst (λ (x : Digit). i % slice_index ranges p < x.range) (sym is) (mod_below i (slice_index ranges p) range);
              changes = ((conditions_met p (i % slice_index ranges p) precondition conditions.distinct).0 told.0, sym (effect_gives p (i % slice_index ranges p) effect effects.distinct));
              leads = made.to (i / slice_index ranges p) above told.1;
              from = ap (λ (x : ℕ). x * w) (sym (mod-add-div i (slice_index ranges p))) ∙ split (i / slice_index ranges p) (i % slice_index ranges p)
                  ∙ ap (λ (x : Digit). i / slice_index ranges p * high + i % slice_index ranges p * x.weight) (sym is);
              to = split (index_after ranges ps (i / slice_index ranges p) effect) (value_after effect p (i % slice_index ranges p))
                  ∙ ap (λ (x : Digit). index_after ranges ps (i / slice_index ranges p) effect * high + value_after effect p (i % slice_index ranges p) * x.weight) (sym is);
            })

        from : (a b : ℕ) → Leads new a b → (i : ℕ) × (i < slice_index ranges p * size_of ranges ps)
            × (list_all (agrees ranges (p ∷ ps) i) precondition ≡ true) × (a ≡ i * w) × (b ≡ index_after ranges (p ∷ ps) i effect * w)
        from a b h =
            let e = (extended a b).0 h in
            let low : e.before < slice_index ranges p = subst (λ (x : Digit). e.before < x.range) is e.in_range in
            let old_from = made.from e.source e.target e.leads in
            let n = e.before + slice_index ranges p * old_from.0 in
            let rem : n % slice_index ranges p ≡ e.before = remainder e.before (slice_index ranges p) old_from.0 low in
            let quo : n / slice_index ranges p ≡ old_from.0 = quotient e.before (slice_index ranges p) old_from.0 low in
            let value : value_after effect p e.before ≡ e.after = effect_gives p e.before effect effects.distinct ∙ e.changes.1 in
            let after : index_after ranges (p ∷ ps) n effect ≡ e.after + slice_index ranges p * index_after ranges ps old_from.0 effect =
            ap (λ (x : ℕ). value_after effect p x + slice_index ranges p * index_after ranges ps (n / slice_index ranges p) effect) rem
            ∙ ap (λ (x : ℕ). value_after effect p e.before + slice_index ranges p * index_after ranges ps x effect) quo
            ∙ ap (λ (x : ℕ). x + slice_index ranges p * index_after ranges ps old_from.0 effect) value in (
              n,
              omega (arith, mul-add-lt old_from.0 (slice_index ranges p) e.before (size_of ranges ps) old_from.1 low),
              (facts_told ranges p ps n precondition rising).1 (
                (conditions_met p (n % slice_index ranges p) precondition conditions.distinct).1
                    (subst (λ (x : ℕ). IfSome (value_in precondition p) (λ c. x ≡ c)) (sym rem) e.changes.0),
                subst (λ (x : ℕ). list_all (agrees ranges ps x) precondition ≡ true) (sym quo) old_from.2,
              ),
              e.from ∙ ap (λ (x : Digit). e.source + e.before * x.weight) is ∙ ap (λ (x : ℕ). x + e.before * w) old_from.3 ∙ sym (split old_from.0 e.before),
              e.to ∙ ap (λ (x : Digit). e.target + e.after * x.weight) is ∙ ap (λ (x : ℕ). x + e.after * w) old_from.4
                  ∙ sym (split (index_after ranges ps old_from.0 effect) e.after) ∙ ap (λ (x : ℕ). x * w) (sym after),
            )

    times_below : (i n w : ℕ) → i < n → 0 < w → i * w < n * w
    times_below i n w l some = omega (arith, mul-le (i + 1) w n w (omega arith) (omega arith))

    -- source and target lie within the abstract states
    pub starts_below : (ps : List ℕ) (w : ℕ) (m : Moves) → 0 < w → AreMoves ranges ps w precondition effect m
        → (m.source < size_of ranges ps * w) × (m.target < size_of ranges ps * w)
    starts_below ps w m some made =
        let start = made.from m.source m.target (start_reached m.free.items m.source m.target made.positive) in
        let s = times_below start.0 (size_of ranges ps) w start.1 some in
        let t = times_below (index_after ranges ps start.0 effect) (size_of ranges ps) w (index_after_below ranges ps start.0 effect effects.in_range start.1) some in
        (omega (arith, start.3, s), omega (arith, start.4, t))

  pub size_split : (ps : List ℕ) (k : ℕ) → size_of ranges (drop k ps) * size_of ranges (take k ps) ≡ size_of ranges ps
  size_split ps zero = omega arith
  size_split [] (suc k) = omega arith
  size_split (p ∷ ps) (suc k) = up (slice_index ranges p) (size_of ranges (drop k ps)) (size_of ranges (take k ps)) (size_of ranges ps) (size_split ps k)
    where
      up : (r m n x : ℕ) → m * n ≡ x → m * (r * n) ≡ r * x
      up r m n x e = rw (← e) (omega arith)

-- what is left of the variables rises as the whole does
pub rising_drop : (ps : List ℕ) (k : ℕ) → Rising ps → Rising (drop k ps)
rising_drop ps zero rising = rising
rising_drop [] (suc k) rising = tt
rising_drop (p ∷ ps) (suc k) rising = rising_drop ps k rising.1

drop_whole : (ps : List ℕ) → drop (length ps) ps ≡ []
drop_whole [] = refl
drop_whole (p ∷ ps) = drop_whole ps

-- a default where there is no digit
abbrev no_digit : Digit
no_digit = record { weight = 0; range = 0 }

-- at the end of the variables there is no digit yet
pub at_end : (rs ps : List ℕ) (precondition effect : List Fact) (m : Moves) → m.free.items ≡ [] → m.source ≡ 0 → m.target ≡ 0
    → AreMoves rs (drop (length ps) ps) (size_of rs (take (length ps) ps)) precondition effect m
at_end rs ps precondition effect m e p q =
    subst (λ (xs : List ℕ). AreMoves rs xs (size_of rs (take (length ps) ps)) precondition effect m) (sym (drop_whole ps))
    (no_digits rs precondition effect (size_of rs (take (length ps) ps)) m e p q)

-- a product of numbers that is not 0 has none that is 0
sizes_positive : (rs vs : List ℕ) → 0 < size_of rs vs → All (λ (v : ℕ). 0 < slice_index rs v) vs
sizes_positive rs [] l = All-nil (λ (v : ℕ). 0 < slice_index rs v)
sizes_positive rs (v ∷ vs) l =
    All-cons (λ (x : ℕ). 0 < slice_index rs x) v vs (positive 0 (slice_index rs v) (size_of rs vs) l)
    (sizes_positive rs vs (positive 0 (size_of rs vs) (slice_index rs v) (omega arith)))

-- the digit at a place of the variables of an abstraction
module _ (a : TableAbstraction) (vs : List ℕ) (ds : List Digit) (same : vs ≡ variables_of (mapping_in a)) (are : ds ≡ digits_from (counts_in a) 1 (variables_of (mapping_in a)))
    (k : ℕ) (l : k < length vs) where
  are_here : ds ≡ digits_from (counts_in a) 1 vs
  are_here = are ∙ ap (λ (xs : List ℕ). digits_from (counts_in a) 1 xs) (sym same)

  size_is : (abstraction_in a).size ≡ size_of (counts_in a) vs
  size_is = size_by (task_in a) (mapping_in a) ∙ ap (λ (xs : List ℕ). size_of (counts_in a) xs) (sym same)

  some_values : All (λ (v : ℕ). 0 < slice_index (counts_in a) v) vs
  some_values =
      let start = (mapping_abstracts a).indices (task_in a).initial (is_task_in a).initial in
      sizes_positive (counts_in a) vs (omega (arith, size_is, start))

  increasing : IsStrictlyIncreasing vs
  increasing = subst IsStrictlyIncreasing (sym same) (increasing_in a)

  small : size_of (counts_in a) vs ≤ 2 ^ 24
  small = omega (arith, size_is, mapping_is_small a)

  pub digit_within : k < length ds
  digit_within = omega (arith, ap length are_here, length-digits_from (counts_in a) vs 1, l)

  stands : get_or ds k no_digit ≡ get_or ds k (get_or ds k no_digit)
  stands = get_or_default ds k no_digit (get_or ds k no_digit) digit_within

  pub digit_is : get_or ds k no_digit ≡ record { weight = size_of (counts_in a) (take k vs); range = slice_index (counts_in a) (get_or vs k 0) }
  digit_is =
      let once : 1 * size_of (counts_in a) (take k vs) ≡ size_of (counts_in a) (take k vs) = omega arith in
      ap (λ (xs : List Digit). get_or xs k no_digit) are_here ∙ digit_from (counts_in a) vs 1 k no_digit l
      ∙ ap (λ (w : ℕ). record { weight = w; range = slice_index (counts_in a) (get_or vs k 0) }) once

  pub digit_fits : IsDigitBelow (2 ^ 24) (get_or ds k no_digit)
  digit_fits = found_below (counts_in a) vs ds are_here increasing k (get_or vs k 0) l refl (get_or ds k no_digit) stands some_values small

  pub value_below : (fs : List Fact) → All (IsInRange (counts_in a)) fs → (r : Option ℕ) → r ≡ value_in fs (get_or vs k 0) → IfSome r (λ v. v < (get_or ds k no_digit).range)
  value_below fs all r e =
      subst (λ (x : Option ℕ). IfSome x (λ v. v < (get_or ds k no_digit).range)) (sym e)
      (subst (λ (d : Digit). IfSome (value_in fs (get_or vs k 0)) (λ v. v < d.range)) (sym digit_is) (value_fits (counts_in a) (get_or vs k 0) fs all))

  module _ (precondition effect : List Fact) (conditions : IsAssignment (counts_in a) precondition) (effects : IsAssignment (counts_in a) effect)
      (n : ℕ) (next : n ≡ k + 1) (m : Moves)
      (made : AreMoves (counts_in a) (drop n vs) (size_of (counts_in a) (take n vs)) precondition effect m) where
    pub starts_fit : (m.source < 2 ^ 24) × (m.target < 2 ^ 24)
    starts_fit =
        let below = starts_below (counts_in a) precondition effect conditions effects (drop n vs) (size_of (counts_in a) (take n vs)) m
        (size_positive (counts_in a) (take n vs) (All-take (λ (v : ℕ). 0 < slice_index (counts_in a) v) n vs some_values)) made in
        let whole = size_split (counts_in a) precondition effect vs n in
        (omega (arith, below.0, whole, small), omega (arith, below.1, whole, small))

    pub one_place : (new : Moves) (condition value : Option ℕ) → condition ≡ value_in precondition (get_or vs k 0) → value ≡ value_in effect (get_or vs k 0)
        → ((a b : ℕ) → Leads new a b ↔ IsExtended m (get_or ds k no_digit) condition value a b)
        → (All (λ d. 0 < d.range) m.free.items → All (λ d. 0 < d.range) new.free.items)
        → AreMoves (counts_in a) (drop k vs) (size_of (counts_in a) (take k vs)) precondition effect new
    one_place new condition value c e leads some =
        subst (λ (xs : List ℕ). AreMoves (counts_in a) xs (size_of (counts_in a) (take k vs)) precondition effect new) (sym (at_drop_more (λ (xs : List ℕ). xs) vs k 0 l))
        (one_digit (counts_in a) precondition effect conditions effects (get_or vs k 0) (drop (k + 1) vs) (get_or ds k no_digit) (size_of (counts_in a) (take k vs))
        (size_of (counts_in a) (take (k + 1) vs)) m new rising digit_is weight_more
        (subst (λ (j : ℕ). AreMoves (counts_in a) (drop j vs) (size_of (counts_in a) (take j vs)) precondition effect m) next made)
        (subst (λ (x : Option ℕ). (a b : ℕ) → Leads new a b ↔ IsExtended m (get_or ds k no_digit) x (value_in effect (get_or vs k 0)) a b) c
        (subst (λ (x : Option ℕ). (a b : ℕ) → Leads new a b ↔ IsExtended m (get_or ds k no_digit) condition x a b) e leads))
        (some made.positive))
      where
        weight_more : size_of (counts_in a) (take (k + 1) vs) ≡ size_of (counts_in a) (take k vs) * slice_index (counts_in a) (get_or vs k 0)
        weight_more = rw add-one (size_more (counts_in a) vs k l)

        rising : Rising (get_or vs k 0 ∷ drop (k + 1) vs)
        rising = subst Rising (at_drop_more (λ (xs : List ℕ). xs) vs k 0 l) (rising_drop vs k (rising_from vs increasing))
