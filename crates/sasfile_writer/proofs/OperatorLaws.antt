-- The lines of an operator spell it, with its precondition in the text's order.
use Rattle.std.proofs.Common.{◌≡◌, ℕ, ◌^◌, ◌<◌, ◌≤◌, List, [], ◌∷◌, ◌++◌, length, map, get_or, refl, sym, ap, subst, ◌∙◌, append_assoc, arith, Option, Some, None}
use Rattle.std.specs.Prelude.{codes, decimal, not, option_map}
use Rattle.std.specs.List.{cons_option, AllByRecursion}
use Rattle.std.specs.Option.{option_map_or}
use Rattle.std.proofs.lemmas.List.{length-map, length-append}
use Rattle.std.proofs.lemmas.List.Elements.{recursion_from_All, All-filter}
use Rattle.std.proofs.lemmas.List.Filters.{length-filter_both}
use Rattle.fdr.specs.declared.fact.Fact.{Fact}
use Rattle.fdr.specs.Tasks.{Operator, IsInRange, IsOperator, names_variable, are_distinct}
use Rattle.sasfile_reader.specs.declared.number.Number.TheVariants.{Natural}
use Rattle.sasfile_reader.specs.declared.effects.Change.{Change}
use Rattle.sasfile_reader.specs.Lines.{words, digits_after, number}
use Rattle.sasfile_reader.specs.SasTexts.{SpellsCount, SpellsLines, SpellsChange, SpellsOperator, before_number, IsBefore, condition_before, conditions_of, after_of}
use Rattle.sasfile_writer.specs.Written.{fact_lines, value_of, effect_line, operator_lines}
use Rattle.sasfile_writer.specs.TextOrder.{IsName, reordered}
use Rattle.sasfile_writer.proofs.FactLaws.{at, conditions, others, value_holds, distinct_both}
use Rattle.sasfile_writer.proofs.LineLaws.{IsLine, IsWord, plain_line, longer_line, decimal_word, decimal_line, name_line, number_again, more_spelled, count_spelled}
use Rattle.sasfile_writer.proofs.PartLaws.{IsSmall, all_append, all_map, each_spelled, facts_spelled, facts_are_lines, assigned_few}

-- ---- effects

-- the effect with the value that its variable must have before it
abbrev change : List Fact → Fact → Change
change all f = record { before = value_of all f.variable; after = f }

-- what the third number of an effect line spells
before_text : Option ℕ → List ℕ
before_text o = option_map_or decimal o (codes "-1")

before_again : (o : Option ℕ) → IsBefore 65536 o → number (before_text o) ≡ Some (before_number o)
unfolding before_text number digits_after
before_again None ok = refl
before_again (Some x) ok = number_again x (omega arith)

before_word : (o : Option ℕ) → IsBefore 65536 o → IsWord (before_text o)
unfolding before_text
before_word None ok = record { plain = refl; some = omega arith }
before_word (Some x) ok = decimal_word x (omega arith)

effect_is : (all : List Fact) (f : Fact) → effect_line all f ≡ codes "0" ++ 32 ∷ (decimal f.variable ++ 32 ∷ (before_text (value_of all f.variable) ++ 32 ∷ decimal f.value))
unfolding before_text
effect_is all f = simp append_assoc

zero_word : IsWord (codes "0")
zero_word = record { plain = refl; some = omega arith }

zero_number : number (codes "0") ≡ Some (Natural 0)
unfolding number digits_after
zero_number = refl

before_below : (ranges : List ℕ) (all : List Fact) (v : ℕ) → AllByRecursion (IsInRange ranges) all → (o : Option ℕ) → value_of all v ≡ o → IsBefore (get_or ranges v 0) o
before_below ranges all v ok None e = tt
before_below ranges all v ok (Some x) e = (value_holds (IsInRange ranges) all v x ok e).1

before_small : (range : ℕ) (o : Option ℕ) → range ≤ 65536 → IsBefore range o → IsBefore 65536 o
before_small range None le ok = tt
before_small range (Some x) le ok = omega arith

-- conditions in range, and an effect in range
record Fits (ranges : List ℕ) (all : List Fact) (f : Fact) : Type 0 where
  conditions_ok : AllByRecursion (IsInRange ranges) all
  effect_ok : IsInRange ranges f

fits_before : (ranges : List ℕ) → IsSmall ranges → (all : List Fact) (f : Fact) → Fits ranges all f → IsBefore 65536 (value_of all f.variable)
fits_before ranges small all f ok =
    before_small (get_or ranges f.variable 0) (value_of all f.variable) (small.low f.variable) (before_below ranges all f.variable ok.conditions_ok (value_of all f.variable) refl)

change_spelled : (ranges : List ℕ) → IsSmall ranges → (all : List Fact) (f : Fact) → Fits ranges all f → SpellsChange ranges (effect_line all f) (change all f)
change_spelled ranges small all f ok =
    let v = f.variable in let o = value_of all v in
    let low : v < 2 ^ 64 = omega (arith, small.few, ok.effect_ok.0) in
    let high : f.value < 2 ^ 64 = omega (arith, small.low v, ok.effect_ok.1) in
    let before = fits_before ranges small all f ok in
    record {
      numbers =
          ap (λ (l : List ℕ). map number (words l)) (effect_is all f)
          ∙ more_spelled (codes "0") (decimal v ++ 32 ∷ (before_text o ++ 32 ∷ decimal f.value)) (Natural 0) (Natural v ∷ before_number o ∷ Natural f.value ∷ []) zero_word zero_number
          (more_spelled (decimal v) (before_text o ++ 32 ∷ decimal f.value) (Natural v) (before_number o ∷ Natural f.value ∷ []) (decimal_word v low) (number_again v low)
          (more_spelled (before_text o) (decimal f.value) (before_number o) (Natural f.value ∷ []) (before_word o before) (before_again o before) (count_spelled f.value high)));
      after = ok.effect_ok;
      before = before_below ranges all v ok.conditions_ok o refl;
    }

some_more : (w l : List ℕ) → 0 < length (w ++ 32 ∷ l)
some_more w l = omega (arith, length-append w (32 ∷ l))

effect_is_line : (ranges : List ℕ) → IsSmall ranges → (all : List Fact) (f : Fact) → Fits ranges all f → IsLine (effect_line all f)
effect_is_line ranges small all f ok =
    let v = f.variable in let o = value_of all v in
    let low : v < 2 ^ 64 = omega (arith, small.few, ok.effect_ok.0) in
    let high : f.value < 2 ^ 64 = omega (arith, small.low v, ok.effect_ok.1) in
    let last = longer_line (before_text o) (decimal f.value) (before_word o (fits_before ranges small all f ok)) (decimal_word f.value high).some (decimal_line f.value high) in
    let second = longer_line (decimal v) (before_text o ++ 32 ∷ decimal f.value) (decimal_word v low) (some_more (before_text o) (decimal f.value)) last in
    subst IsLine (sym (effect_is all f)) (longer_line (codes "0") (decimal v ++ 32 ∷ (before_text o ++ 32 ∷ decimal f.value)) zero_word (some_more (decimal v) (before_text o ++ 32 ∷ decimal f.value)) second)

-- ---- operators

others_few : (all effects : List Fact) → length (others all effects) ≤ length all
others_few all effects =
    omega (arith, length-filter_both (λ (f : Fact). not (names_variable effects f.variable)) (λ f. not (not (names_variable effects f.variable))) (λ f. refl) all)

after_all : (all effects : List Fact) → map after_of (map (change all) effects) ≡ effects
after_all all [] = refl
after_all all (f ∷ fs) = ap (λ gs. f ∷ gs) (after_all all fs)

condition_same : (v : ℕ) (o : Option ℕ) (fs gs : List Fact) → fs ≡ gs → cons_option (option_map (at v) o) fs ≡ condition_before v o gs
condition_same v None fs gs e = e
condition_same v (Some x) fs gs e = ap (λ hs. at v x ∷ hs) e

conditions_same : (all effects : List Fact) → conditions all effects ≡ conditions_of (map (change all) effects)
conditions_same all [] = refl
conditions_same all (f ∷ fs) = condition_same f.variable (value_of all f.variable) (conditions all fs) (conditions_of (map (change all) fs)) (conditions_same all fs)

all_fit : (ranges : List ℕ) (all fs : List Fact) → AllByRecursion (IsInRange ranges) all → AllByRecursion (IsInRange ranges) fs → AllByRecursion (Fits ranges all) fs
all_fit ranges all [] ok each = tt
all_fit ranges all (f ∷ fs) ok each = (record { conditions_ok = ok; effect_ok = each.0 }, all_fit ranges all fs ok each.1)

-- an operator that can stand in a text
pub record IsWritable (ranges : List ℕ) (op : Operator) : Type 0 where
  pub parts : IsOperator ranges op
  pub name : IsName op.name
  pub cheap : op.cost ≤ 2147483647

others_ok : (ranges : List ℕ) (op : Operator) → IsOperator ranges op → AllByRecursion (IsInRange ranges) (others op.precondition op.effect)
others_ok ranges op ok =
    recursion_from_All (IsInRange ranges) (others op.precondition op.effect)
    (All-filter (λ (f : Fact). not (names_variable op.effect f.variable)) (IsInRange ranges) op.precondition ok.precondition.in_range)

others_small : (ranges : List ℕ) → IsSmall ranges → (op : Operator) → IsOperator ranges op → length (others op.precondition op.effect) < 2 ^ 64
others_small ranges small op ok = omega (arith, others_few op.precondition op.effect, assigned_few ranges small op.precondition ok.precondition)

effects_fit : (ranges : List ℕ) (op : Operator) → IsOperator ranges op → AllByRecursion (Fits ranges op.precondition) op.effect
effects_fit ranges op ok =
    all_fit ranges op.precondition op.effect (recursion_from_All (IsInRange ranges) op.precondition ok.precondition.in_range) (recursion_from_All (IsInRange ranges) op.effect ok.effect.in_range)

effects_spelled : (ranges : List ℕ) → IsSmall ranges → (op : Operator) → IsOperator ranges op
    → SpellsLines (SpellsChange ranges) (decimal (length op.effect) ∷ map (effect_line op.precondition) op.effect) (map (change op.precondition) op.effect)
effects_spelled ranges small op ok =
    record {
      count = decimal (length op.effect);
      others = map (effect_line op.precondition) op.effect;
      lines_are = refl;
      count_is = subst (SpellsCount (decimal (length op.effect))) (sym (length-map op.effect (change op.precondition))) (count_spelled (length op.effect) (assigned_few ranges small op.effect ok.effect));
      items = each_spelled (SpellsChange ranges) (Fits ranges op.precondition) (effect_line op.precondition) (change op.precondition) (change_spelled ranges small op.precondition) op.effect (effects_fit ranges op ok);
    }

pub operator_spelled : (ranges : List ℕ) → IsSmall ranges → (op : Operator) → IsWritable ranges op → SpellsOperator ranges (operator_lines op) (reordered op)
operator_spelled ranges small op ok =
    let all = op.precondition in let effects = op.effect in
    let effect_lines = decimal (length effects) ∷ map (effect_line all) effects in
    record {
      prevail = others all effects;
      changes = map (change all) effects;
      prevail_lines = fact_lines (others all effects);
      change_lines = effect_lines;
      cost = decimal op.cost;
      lines_are = ap (λ ls. codes "begin_operator" ∷ op.name ∷ ls) (append_assoc (fact_lines (others all effects)) effect_lines (decimal op.cost ∷ codes "end_operator" ∷ []));
      name_is = ok.name.printed;
      prevail_are = facts_spelled ranges small (others all effects) (others_small ranges small op ok.parts) (others_ok ranges op ok.parts);
      changes_are = effects_spelled ranges small op ok.parts;
      cost_is = count_spelled op.cost (omega (arith, ok.cheap));
      cheap = ok.cheap;
      distinct = ap (λ fs. are_distinct (others all effects ++ fs)) (after_all all effects) ∙ distinct_both all effects ok.parts.precondition.distinct ok.parts.effect.distinct;
      precondition_is = ap (λ fs. others all effects ++ fs) (conditions_same all effects);
      effect_is = sym (after_all all effects);
    }

pub operator_are_lines : (ranges : List ℕ) → IsSmall ranges → (op : Operator) → IsWritable ranges op → AllByRecursion IsLine (operator_lines op)
operator_are_lines ranges small op ok =
    let all = op.precondition in let effects = op.effect in
    let prevail = facts_are_lines ranges small (others all effects) (others_small ranges small op ok.parts) (others_ok ranges op ok.parts) in
    let count = decimal_line (length effects) (assigned_few ranges small effects ok.parts.effect) in
    let each = all_map IsLine (Fits ranges all) (effect_line all) (effect_is_line ranges small all) effects (effects_fit ranges op ok.parts) in
    let parts = all_append IsLine (fact_lines (others all effects)) (decimal (length effects) ∷ map (effect_line all) effects) prevail (count, each) in
    let cost = decimal_line op.cost (omega (arith, ok.cheap)) in
    let end = plain_line (codes "end_operator") refl in
    (plain_line (codes "begin_operator") refl, (name_line op.name ok.name, all_append IsLine (fact_lines (others all effects) ++ decimal (length effects) ∷ map (effect_line all) effects) (decimal op.cost ∷ codes "end_operator" ∷ []) parts (cost, (end, tt))))
