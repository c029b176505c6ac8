-- The rules of the groups of a projection's operators, and the transitions by them.
use Rattle.std.proofs.Common.{◌≡◌, ℕ, zero, suc, ◌+◌, ◌<◌, true, List, [], ◌∷◌, ◌++◌, length, map, take, get_or, refl, sym, ap, ◌∙◌, arith, Option, Some, None, subst}
use Rattle.std.specs.Prelude.{◌↔◌, Contains, All, IsSomeAnd, slice_get, slice_index, option_map}
use Rattle.std.proofs.lemmas.List.{get_or_default, length-map, take_more}
use Rattle.std.proofs.lemmas.List.Elements.{All-nil, All-head, All-tail, All-map, All-weaker}
use Rattle.std.proofs.lemmas.Option.{slice_get_past, slice_get_within, slice_get-map, get_or_from_slice_get}
use Rattle.fdr.specs.Tasks.{ranges}
use Rattle.abstraction.specs.Projections.{Projection, size_of, projection}
use Rattle.abstraction.specs.declared.digit.Digit.{Digit}
use Rattle.abstraction.specs.Digits.{digits_from, value_of}
use Rattle.abstraction_groups.specs.declared.backward.Transition.{Transition}
use Rattle.abstraction_groups.specs.declared.change.Change.{Change}
use Rattle.abstraction_groups.specs.declared.change.DigitChange.{DigitChange}
use Rattle.abstraction_groups.specs.Changes.{at_digits, LeadsBy, size_by}
use Rattle.abstraction_groups.specs.Entrances.{LeadsTo, AreEntering}
use Rattle.abstraction_groups.specs.FactorLaws.{projection_factors, projection_factored}
use Rattle.abstraction_groups.specs.Factors.{changes_of, group_changes, group_of, groups_of}
use Rattle.abstraction_groups.specs.GroupLaws.{steps_told, member_told}
use Rattle.abstraction_groups.proofs.GroupRows.{group_operator, group_long, operator_row, operator_size}
use Rattle.abstraction_groups.proofs.RowSums.{placed, at_place, length-at_digits}
use Rattle.pdb_regression.specs.declared.place.Position.{Position}
use Rattle.pdb_regression.specs.Words.{word_from, word_by}
use Rattle.pdb_regression.specs.Tables.{rows_of, enters, LeadsIn, IsAlong, Place, IsPositionIn, positions_of, IsReadAt, IsListed, AreIndexed}
use Rattle.pdb_regression.proofs.Bounds.{leads_below}
use Rattle.pdb_regression.proofs.RowLaws.{along_size}
use Rattle.pdb_regression.proofs.TableLaws.{all_enter, enters_is}
use Rattle.pdb_regression.proofs.WordLaws.{word_whole}

along_at : (ds : List Digit) (cs : List Change) → length cs ≡ length ds → IsAlong ds (at_digits ds cs)
along_at [] cs e = refl
along_at (d ∷ ds) [] e = absurd (omega arith)
along_at (d ∷ ds) (c ∷ cs) e = ap (λ (xs : List Digit). d ∷ xs) (along_at ds cs (omega arith))

-- one change more at its digit
pub row_more : (ds : List Digit) (cs : List Change) (k : ℕ) (d : Digit) (c : Change) (old new : List DigitChange) → length cs ≡ length ds → k < length cs → old ≡ take k (at_digits ds cs) →
    new ≡ old ++ placed (get_or ds k d) (get_or cs k c) ∷ [] → new ≡ take (k + 1) (at_digits ds cs)
row_more ds cs k d c old new long l is made =
    let row : List DigitChange = at_digits ds cs in
    let within : k < length row = omega (arith, length-at_digits ds cs long) in
    made ∙ ap (λ (xs : List DigitChange). xs ++ placed (get_or ds k d) (get_or cs k c) ∷ []) is
    ∙ ap (λ (x : DigitChange). take k row ++ x ∷ []) (sym (at_place ds cs k d c long l)) ∙ sym (take_more row k (placed d c) within)

-- ---- the transitions of a projection by its rules

module _ (p : Projection) where
  abbrev all : List (List Change)
  all = group_changes p.task (projection_factors p)

  abbrev digits : List Digit
  digits = digits_from (ranges p.task) 1 p.pattern

  abbrev whole : ℕ
  whole = size_of (ranges p.task) p.pattern

  pub row_long : (g : ℕ) → g < length all → length (get_or all g []) ≡ length digits
  row_long g l = group_long p.task (projection_factors p) (projection p.task p.pattern) (projection_factored p) g l

  pub rows_along : All (IsAlong digits) (rows_of p)
  rows_along =
      All-map (IsAlong digits) (at_digits digits) all
      (λ k d l. along_at digits (get_or all k d) (ap length (get_or_default all k d [] l) ∙ row_long k l))

  rule_at : (c : ℕ) (r : Option (List Change)) → slice_get all c ≡ r → slice_get (rows_of p) c ≡ option_map (at_digits digits) r
  rule_at c r e = slice_get-map (at_digits digits) all c ∙ ap (option_map (at_digits digits)) e

  leads_to : (c i j : ℕ) → j < whole → LeadsIn (rows_of p) c i j → (o : ℕ) × (group_of p.task (projection_factors p) o ≡ Some c) × LeadsTo (projection p.task p.pattern) o i j
  leads_to c i j l h = go (slice_get all c) refl
    where
      go : (r : Option (List Change)) → slice_get all c ≡ r → (o : ℕ) × (group_of p.task (projection_factors p) o ≡ Some c) × LeadsTo (projection p.task p.pattern) o i j
      go None e = absurd (subst (λ (r : Option (List DigitChange)). IsSomeAnd r (λ cs. LeadsBy cs i j)) (rule_at c None e) h)
      go (Some cs) e =
          let from = group_operator p.task (projection_factors p) c (slice_get_within all c cs e) in
          let op = from.1 in
          let same : cs ≡ changes_of (projection_factors p) op = sym (get_or_from_slice_get all c cs [] e) ∙ from.3 in
          let leads : LeadsBy (at_digits digits cs) i j = subst (λ (r : Option (List DigitChange)). IsSomeAnd r (λ cs. LeadsBy cs i j)) (rule_at c (Some cs) e) h in
          let by : LeadsBy (at_digits digits (changes_of (projection_factors p) op)) i j = subst (λ (xs : List Change). LeadsBy (at_digits digits xs) i j) same leads in
          let row = operator_row p.task (projection_factors p) (projection p.task p.pattern) (projection_factored p) from.0 op from.2 in
          let size : size_by (at_digits digits (changes_of (projection_factors p) op)) ≡ whole =
          operator_size p.task (projection_factors p) (projection p.task p.pattern) (projection_factored p) from.0 op from.2 in
          let below : i < whole = subst (λ (n : ℕ). i < n) size (leads_below (at_digits digits (changes_of (projection_factors p) op)) i j row.fit by) in
          (from.0, from.4, (steps_told p.task (projection p.task p.pattern) (projection_factors p) (projection_factored p) from.0 op i j from.2 l).1 (below, by))

  leads_in : (o c i j : ℕ) → j < whole → group_of p.task (projection_factors p) o ≡ Some c → LeadsTo (projection p.task p.pattern) o i j → LeadsIn (rows_of p) c i j
  leads_in o c i j l e step =
      let told = member_told p.task (projection p.task p.pattern) (projection_factors p) (projection_factored p) o c e in
      let leads = ((steps_told p.task (projection p.task p.pattern) (projection_factors p) (projection_factored p) o told.0 i j told.1 l).0 step).1 in
      subst (λ (r : Option (List DigitChange)). IsSomeAnd r (λ cs. LeadsBy cs i j)) (sym (rule_at c (Some (changes_of (projection_factors p) told.0)) told.2)) leads

  pub entering_told : (rest : List ℕ) (places : List Place) (j : ℕ) (ts : List Transition) → AreIndexed rest places (rows_of p) (length (rows_of p)) → j < whole →
      ((u : Transition) → Contains ts u ↔ (IsListed rest places j u.class × LeadsIn (rows_of p) u.class u.source j)) →
      AreEntering (projection p.task p.pattern) (groups_of p.task (projection_factors p)) j ts
  entering_told rest places j ts indexed l known u = (to, from)
    where
      at_some : (r : Option (List DigitChange)) → slice_get (rows_of p) u.class ≡ r → IsSomeAnd r (λ cs. LeadsBy cs u.source j) →
          (u.class < length (rows_of p)) × (enters (rows_of p) j u.class ≡ true)
      at_some None e h = absurd h
      at_some (Some row) e h = (slice_get_within (rows_of p) u.class row e, enters_is (rows_of p) u.class j row e ∙ all_enter row u.source j h)

      to : Contains ts u → (o : ℕ) × (group_of p.task (projection_factors p) o ≡ Some u.class) × LeadsTo (projection p.task p.pattern) o u.source j
      to h = leads_to u.class u.source j l ((known u).0 h).1

      from : (o : ℕ) × (group_of p.task (projection_factors p) o ≡ Some u.class) × LeadsTo (projection p.task p.pattern) o u.source j → Contains ts u
      from w =
          let leads = leads_in w.0 u.class u.source j l w.1 w.2 in
          let inside = at_some (slice_get (rows_of p) u.class) refl leads in
          (known u).1 (indexed u.class j inside.0 inside.1, leads)

-- ---- what holds of all rules

pub all_at : {X : Type 0} (P : X → Type 0) (xs : List X) (n : ℕ) (x : X) → All P xs → slice_get xs n ≡ Some x → P x
all_at {X = X} P [] n x all e = let none = slice_get_past {X = X} [] n (omega arith) in absurd (cc)
all_at P (z ∷ xs) zero x all e = let same : z ≡ x = cc in subst P same (All-head P z xs all)
all_at P (z ∷ xs) (suc n) x all e = all_at P xs n x (All-tail P z xs all) e

pub read_none : (j : ℕ) (values : List ℕ) (places : List Place) → places ≡ [] → All (IsReadAt values j) (positions_of places)
read_none j values places e = subst (λ (ps : List Place). All (IsReadAt values j) (positions_of ps)) (sym e) (All-nil (IsReadAt values j))

-- the list has the value at the digit of each place
pub read_at : (j : ℕ) (ds : List Digit) (values : List ℕ) (places : List Place) → All (IsPositionIn ds) (positions_of places) → values ≡ map (λ d. value_of d j) ds → All (IsReadAt values j) (positions_of places)
read_at j ds values places all e = All-weaker (IsPositionIn ds) (IsReadAt values j) at (positions_of places) all
  where
    at : (p : Position) → IsPositionIn ds p → IsReadAt values j p
    at p is = let l = slice_get_within ds p.number p.digit is in record {
      within = let long = ap length e in omega (arith, length-map ds (λ (d : Digit). value_of d j));
      value = ap (λ (xs : List ℕ). slice_index xs p.number) e ∙ value_at ds p.number p.digit is;
    }
      where
        value_at : (ds : List Digit) (n : ℕ) (d : Digit) → slice_get ds n ≡ Some d → slice_index (map (λ d. value_of d j) ds) n ≡ value_of d j
        value_at [] n d e = let none = slice_get_past {X = Digit} [] n (omega arith) in absurd (cc)
        value_at (x ∷ ds) zero d e = let same : x ≡ d = cc in ap (λ (y : Digit). value_of y j) same
        value_at (x ∷ ds) (suc n) d e = value_at ds n d e

module _ (p : Projection) (rules : List (List DigitChange)) (along : All (IsAlong (digits_from (ranges p.task) 1 p.pattern)) rules) (j : ℕ) where
  pub rules_states : j < size_of (ranges p.task) p.pattern → All (λ cs. j < size_by cs) rules
  rules_states l = All-weaker (IsAlong (digits_from (ranges p.task) 1 p.pattern)) (λ (cs : List DigitChange). j < size_by cs)
      (λ cs e. omega (arith, along_size (ranges p.task) 1 p.pattern cs e)) rules along

  pub rules_words : (word : ℕ) → word ≡ word_from j (digits_from (ranges p.task) 1 p.pattern) → All (λ cs. word ≡ word_by j cs) rules
  rules_words word is = All-weaker (IsAlong (digits_from (ranges p.task) 1 p.pattern)) (λ (cs : List DigitChange). word ≡ word_by j cs)
      (λ cs e. is ∙ word_whole p j cs e) rules along
