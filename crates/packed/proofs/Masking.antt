-- Masks that write facts, and tests that ask for them: one fact, several, and two masks or tests of one word that become one.
use Rattle.std.proofs.Common.{◌≡◌, ◌≢◌, ℕ, ◌+◌, ◌*◌, ◌/◌, ◌^◌, ◌<◌, ◌≤◌, Bool, ◌&&◌, true, false, eqb, eq-eqb, ne_eqb, List, [], ◌∷◌, ◌++◌, length, take, get_or, set, refl, sym, ap, subst, ◌∙◌, arith, get_or-set_same}
use Rattle.std.specs.Prelude.{slice_index, slice_set, Option, All}
use Rattle.std.specs.List.{list_all}
use Rattle.std.specs.Option.{option_map_or}
use Rattle.std.proofs.Math.Logic.{⊎_elim}
use Rattle.std.proofs.lemmas.Bool.{cases_eq, cases_lt}
use Rattle.std.proofs.lemmas.Nat.{shl-shr}
use Rattle.std.proofs.lemmas.Nat.Bits.{and_high}
use Rattle.std.proofs.lemmas.List.{set-set, set_past, take_more, length_push}
use Rattle.std.proofs.lemmas.List.Sums.{fold-append}
use Rattle.std.proofs.lemmas.List.Folds.{list_all-append}
use Rattle.std.proofs.lemmas.List.Elements.{All-nil, All-cons, All-head, All-tail, All-append}
use Rattle.std.proofs.lemmas.Option.{slice_get-get_or}
use Rattle.std.proofs.Math.ListN.{get_or-append}
use Rattle.std.proofs.Math.Seq.{get_or-append_seam}
use Rattle.fdr.specs.declared.fact.Fact.{Fact}
use Rattle.fdr.specs.Tasks.{FiniteDomainTask, Operator, ranges, IsInRange, IsOperator, holds, with_values}
use Rattle.packed.specs.declared.field.Field.{Field}
use Rattle.packed.specs.declared.mask.WordMask.{WordMask}
use Rattle.packed.specs.declared.mask.WordTest.{WordTest}
use Rattle.packed.specs.Fields.{fields, word_count, value_in, values_in, AreWithinLimits, IsPlaced, ArePacked}
use Rattle.packed.specs.Masks.{mask_of, test_of, masked_word, masked, word_passes, pass_all, IsWordOf, Write, AskFor, DoAs, AskAs, effect_at, WriteEffects}
use Rattle.packed.proofs.Placing.{IsFieldOf, field_of, length-fields, narrow_value, field_among, value_at}
use Rattle.packed.proofs.Changing.{word_low, written}
use Rattle.packed.proofs.MaskBits.{field_written}

-- ---- one fact

module _ (rs : List ℕ) (fact : Fact) (field : Field) (limits : AreWithinLimits rs) (ok : IsInRange rs fact)
    (at : IsFieldOf (word_count rs) rs fact.variable field) where
  among : (count : ℕ) (words : List ℕ) → ArePacked count rs words → IsFieldOf count rs fact.variable field
  among count words packed = field_among (word_count rs) count rs fact.variable field packed.fits at

  narrow : fact.value < 2 ^ field.width
  narrow = narrow_value (word_count rs) rs fact.variable fact.value field ok.0 ok.1 at

  after : (count : ℕ) (words : List ℕ) (packed : ArePacked count rs words)
      → masked_word (mask_of field fact.value) (get_or words field.word 0) + value_in words field * 2 ^ field.shift
      ≡ get_or words field.word 0 + fact.value * 2 ^ field.shift
  after count words packed =
      field_written (get_or words field.word 0) field.shift field.width fact.value
      (word_low count words rs fact field packed limits ok (among count words packed)) at.placed.in_one_word narrow

  pub write_fact : Write rs (fact ∷ []) (mask_of field fact.value ∷ [])
  write_fact =
      record {
        words = All-cons (λ (m : WordMask). IsWordOf (word_count rs) m.word) (mask_of field fact.value) [] (at.placed.inside, at.placed.near)
            (All-nil (λ (m : WordMask). IsWordOf (word_count rs) m.word));
        form = λ count words packed.
            (written count words rs fact field packed limits ok (among count words packed)
            (masked_word (mask_of field fact.value) (get_or words field.word 0)) (after count words packed)).form;
        values = λ count words packed.
            (written count words rs fact field packed limits ok (among count words packed)
            (masked_word (mask_of field fact.value) (get_or words field.word 0)) (after count words packed)).values;
      }

  -- two numbers are equal if they are shifted
  shifted_same : (x y : ℕ) → eqb (x * 2 ^ field.shift) (y * 2 ^ field.shift) ≡ eqb x y
  shifted_same x y =
      ⊎_elim
      (λ (e : x ≡ y). eq-eqb (x * 2 ^ field.shift) (y * 2 ^ field.shift) (ap (λ n. n * 2 ^ field.shift) e) ∙ sym (eq-eqb x y e))
      (λ (ne : x ≢ y).
      ne_eqb (x * 2 ^ field.shift) (y * 2 ^ field.shift)
      (λ e. ne (sym (shl-shr x field.shift) ∙ ap (λ n. n / 2 ^ field.shift) e ∙ shl-shr y field.shift))
      ∙ sym (ne_eqb x y ne))
      (cases_eq x y)

  passes : (count : ℕ) (words : List ℕ) → ArePacked count rs words
      → word_passes (test_of field fact.value) (slice_index words field.word) ≡ holds (values_in words rs) fact
  passes count words packed =
      ap (λ n. eqb n (fact.value * 2 ^ field.shift)) (and_high (slice_index words field.word) field.width field.shift)
      ∙ shifted_same (value_in words field) fact.value
      ∙ ap (λ n. eqb n fact.value) (sym (value_at count words rs fact.variable field (among count words packed)))

  pub ask_fact : AskFor rs (fact ∷ []) (test_of field fact.value ∷ [])
  ask_fact =
      record {
        words = All-cons (λ (t : WordTest). IsWordOf (word_count rs) t.word) (test_of field fact.value) [] (at.placed.inside, at.placed.near)
            (All-nil (λ (t : WordTest). IsWordOf (word_count rs) t.word));
        same = λ count words packed. ap (λ (b : Bool). b && true) (passes count words packed);
      }

-- ---- several facts

masked-append : (masks others : List WordMask) (words : List ℕ) → masked (masks ++ others) words ≡ masked others (masked masks words)
masked-append masks others words =
    fold-append (λ (ws : List ℕ) (m : WordMask). slice_set ws m.word (masked_word m (slice_index ws m.word))) words masks others

with_values-append : (facts others : List Fact) (state : List ℕ) → with_values (facts ++ others) state ≡ with_values others (with_values facts state)
with_values-append facts others state = fold-append (λ (s : List ℕ) (f : Fact). slice_set s f.variable f.value) state facts others

pub write_no_facts : (rs : List ℕ) → Write rs [] []
write_no_facts rs =
    record { words = All-nil (λ (m : WordMask). IsWordOf (word_count rs) m.word); form = λ count words packed. packed; values = λ count words packed. refl }

pub write_more : (rs : List ℕ) (facts others : List Fact) (masks more : List WordMask) → Write rs facts masks → Write rs others more
    → Write rs (facts ++ others) (masks ++ more)
write_more rs facts others masks more w w' =
    record {
      words = All-append (λ (m : WordMask). IsWordOf (word_count rs) m.word) masks more w.words w'.words;
      form = λ count words packed.
          subst (λ (ws : List ℕ). ArePacked count rs ws) (sym (masked-append masks more words))
          (w'.form count (masked masks words) (w.form count words packed));
      values = λ count words packed.
          ap (λ (ws : List ℕ). values_in ws rs) (masked-append masks more words)
          ∙ w'.values count (masked masks words) (w.form count words packed)
          ∙ ap (with_values others) (w.values count words packed)
          ∙ sym (with_values-append facts others (values_in words rs));
    }

pub write_as : (rs : List ℕ) (facts : List Fact) (others masks : List WordMask) → Write rs facts others → DoAs others masks → Write rs facts masks
write_as rs facts others masks w as_others =
    record {
      words = as_others.words (word_count rs) w.words;
      form = λ count words packed.
          subst (λ (ws : List ℕ). ArePacked count rs ws) (sym (as_others.same words)) (w.form count words packed);
      values = λ count words packed.
          ap (λ (ws : List ℕ). values_in ws rs) (as_others.same words) ∙ w.values count words packed;
    }

pub ask_no_facts : (rs : List ℕ) → AskFor rs [] []
ask_no_facts rs = record { words = All-nil (λ (t : WordTest). IsWordOf (word_count rs) t.word); same = λ count words packed. refl }

pub ask_more : (rs : List ℕ) (facts others : List Fact) (tests more : List WordTest) → AskFor rs facts tests → AskFor rs others more
    → AskFor rs (facts ++ others) (tests ++ more)
ask_more rs facts others tests more a a' =
    record {
      words = All-append (λ (t : WordTest). IsWordOf (word_count rs) t.word) tests more a.words a'.words;
      same = λ count words packed.
          list_all-append (λ (t : WordTest). word_passes t (slice_index words t.word)) tests more
          ∙ ap (λ (b : Bool). b && pass_all more words) (a.same count words packed)
          ∙ ap (λ (b : Bool). list_all (holds (values_in words rs)) facts && b) (a'.same count words packed)
          ∙ sym (list_all-append (holds (values_in words rs)) facts others);
    }

pub ask_as : (rs : List ℕ) (facts : List Fact) (others tests : List WordTest) → AskFor rs facts others → AskAs others tests → AskFor rs facts tests
ask_as rs facts others tests a as_others =
    record {
      words = as_others.words (word_count rs) a.words;
      same = λ count words packed. as_others.same words ∙ a.same count words packed;
    }

-- ---- two of one word that become one

join_all : {X : Type 0} (P : X → Type 0) (xs : List X) (a b c : X) → (P a → P c) → All P ((xs ++ a ∷ []) ++ b ∷ []) → All P (xs ++ c ∷ [])
join_all P [] a b c then all = All-cons P c [] (then (All-head P a (b ∷ []) all)) (All-nil P)
join_all P (x ∷ xs) a b c then all =
    All-cons P x (xs ++ c ∷ []) (All-head P x ((xs ++ a ∷ []) ++ b ∷ []) all)
    (join_all P xs a b c then (All-tail P x ((xs ++ a ∷ []) ++ b ∷ []) all))

-- two writes to one word
twice : (k : ℕ) (words : List ℕ) (last next both : WordMask) → ((word : ℕ) → masked_word both word ≡ masked_word next (masked_word last word))
    → slice_set words k (masked_word both (slice_index words k))
    ≡ slice_set (slice_set words k (masked_word last (slice_index words k))) k (masked_word next (slice_index (slice_set words k (masked_word last (slice_index words k))) k))
twice k words last next both same =
    ⊎_elim
    (λ (inside : k < length words).
    ap (λ n. set words k n) (same (get_or words k 0) ∙ ap (masked_word next) (sym (get_or-set_same words k (masked_word last (get_or words k 0)) 0 inside)))
    ∙ sym (set-set words k (masked_word last (get_or words k 0)) (masked_word next (get_or (set words k (masked_word last (get_or words k 0))) k 0))))
    (λ (past : length words ≤ k).
    let first = set_past words k (masked_word last (get_or words k 0)) past in
    set_past words k (masked_word both (get_or words k 0)) past
    ∙ sym (set_past words k (masked_word next (get_or words k 0)) past)
    ∙ ap (λ (ws : List ℕ). set ws k (masked_word next (get_or ws k 0))) (sym first))
    (cases_lt k (length words))

pub join_masks : (rest : List WordMask) (last next both : WordMask) → last.word ≡ next.word → both.word ≡ last.word
    → ((word : ℕ) → masked_word both word ≡ masked_word next (masked_word last word))
    → DoAs ((rest ++ last ∷ []) ++ next ∷ []) (rest ++ both ∷ [])
join_masks rest last next both of_last of_both same =
    record {
      words = λ count all.
          join_all (λ (m : WordMask). IsWordOf count m.word) rest last next both (λ p. subst (λ k. IsWordOf count k) (sym of_both) p) all;
      same = λ words.
          masked-append rest (both ∷ []) words
          ∙ ap (λ k. slice_set (masked rest words) k (masked_word both (slice_index (masked rest words) k))) of_both
          ∙ twice last.word (masked rest words) last next both same
          ∙ ap (λ k. slice_set (masked (last ∷ []) (masked rest words)) k (masked_word next (slice_index (masked (last ∷ []) (masked rest words)) k))) of_last
          ∙ sym (masked-append (rest ++ last ∷ []) (next ∷ []) words ∙ ap (masked (next ∷ [])) (masked-append rest (last ∷ []) words));
    }

regroup : (a b c : Bool) → (a && (b && c && true)) ≡ ((a && (b && true)) && (c && true))
regroup false b c = refl
regroup true false c = refl
regroup true true c = refl

pub join_tests : (rest : List WordTest) (last next both : WordTest) → both.word ≡ last.word → both.word ≡ next.word
    → ((word : ℕ) → word_passes both word ≡ (word_passes last word && word_passes next word))
    → AskAs ((rest ++ last ∷ []) ++ next ∷ []) (rest ++ both ∷ [])
join_tests rest last next both of_last of_next same =
    record {
      words = λ count all.
          join_all (λ (t : WordTest). IsWordOf count t.word) rest last next both (λ p. subst (λ k. IsWordOf count k) (sym of_last) p) all;
      same = λ words.
          let p = λ (t : WordTest). word_passes t (slice_index words t.word) in
          let one : p both ≡ (p last && p next) =
          same (slice_index words both.word)
          ∙ ap (λ k. word_passes last (slice_index words k) && word_passes next (slice_index words both.word)) of_last
          ∙ ap (λ k. p last && word_passes next (slice_index words k)) of_next in
          list_all-append p rest (both ∷ [])
          ∙ ap (λ (b : Bool). list_all p rest && (b && true)) one
          ∙ regroup (list_all p rest) (p last) (p next)
          ∙ ap (λ (b : Bool). b && (p next && true)) (sym (list_all-append p rest (last ∷ [])))
          ∙ sym (list_all-append p (rest ++ last ∷ []) (next ∷ []));
    }

-- ---- the next fact of a list

module _ (rs : List ℕ) (facts : List Fact) (i : ℕ) (found : List Field) (ok : All (IsInRange rs) facts) (more : i < length facts)
    (limits : AreWithinLimits rs) (is : found ≡ fields rs) where
  abbrev fact : Fact
  fact = get_or facts i (record { variable = 0; value = 0 })

  abbrev field : Field
  field = get_or found fact.variable (record { word = 0; shift = 0; width = 0 })

  in_range : IsInRange rs fact
  in_range = ok i (record { variable = 0; value = 0 }) more

  pub there : fact.variable < length found
  there = omega (arith, ap length is, length-fields rs, in_range.0)

  at : IsFieldOf (word_count rs) rs fact.variable field
  at = field_of (word_count rs) rs found fact.variable (omega arith) limits is there

  pub placed_alone : IsPlaced (field.word + 1) field
  placed_alone =
      record {
        inside = omega arith;
        near = at.placed.near;
        in_one_word = at.placed.in_one_word;
        narrow = at.placed.narrow;
      }

  pub narrow_fact : fact.value < 2 ^ field.width
  narrow_fact = narrow_value (word_count rs) rs fact.variable fact.value field in_range.0 in_range.1 at

  pub write_next : (masks later : List WordMask) (mask : WordMask) → mask ≡ mask_of field fact.value → Write rs (take i facts) masks
      → DoAs (masks ++ mask ∷ []) later → Write rs (take (i + 1) facts) later
  write_next masks later mask mask_is before as_both =
      subst (λ (fs : List Fact). Write rs fs later) (sym (take_more facts i (record { variable = 0; value = 0 }) more))
      (write_as rs (take i facts ++ fact ∷ []) (masks ++ mask ∷ []) later
      (write_more rs (take i facts) (fact ∷ []) masks (mask ∷ []) before
      (subst (λ (m : WordMask). Write rs (fact ∷ []) (m ∷ [])) (sym mask_is) (write_fact rs fact field limits in_range at)))
      as_both)

  pub ask_next : (tests later : List WordTest) (test : WordTest) → test ≡ test_of field fact.value → AskFor rs (take i facts) tests
      → AskAs (tests ++ test ∷ []) later → AskFor rs (take (i + 1) facts) later
  ask_next tests later test test_is before as_both =
      subst (λ (fs : List Fact). AskFor rs fs later) (sym (take_more facts i (record { variable = 0; value = 0 }) more))
      (ask_as rs (take i facts ++ fact ∷ []) (tests ++ test ∷ []) later
      (ask_more rs (take i facts) (fact ∷ []) tests (test ∷ []) before
      (subst (λ (t : WordTest). AskFor rs (fact ∷ []) (t ∷ [])) (sym test_is) (ask_fact rs fact field limits in_range at)))
      as_both)

-- ---- the operators of a task, one after the other

effect_at_is : (task : FiniteDomainTask) (o : ℕ) (d : Operator) → o < length task.operators → effect_at task o ≡ (get_or task.operators o d).effect
effect_at_is task o d within =
    ap (λ (found : Option Operator). option_map_or (λ (x : Operator). x.effect) found []) (slice_get-get_or task.operators o d within)

pub effect_is : (task : FiniteDomainTask) (o : ℕ) (op : Operator) → o < length task.operators → op ≡ get_or task.operators o op → effect_at task o ≡ op.effect
effect_is task o op within is = effect_at_is task o op within ∙ ap (λ (x : Operator). x.effect) (sym is)

pub effect_in_range : (task : FiniteDomainTask) (o : ℕ) (d : Operator) → All (IsOperator (ranges task)) task.operators → o < length task.operators
    → All (IsInRange (ranges task)) (effect_at task o)
effect_in_range task o d all within =
    subst (λ (fs : List Fact). All (IsInRange (ranges task)) fs) (sym (effect_at_is task o d within)) (all o d within).effect.in_range

pub write_no_effects : (task : FiniteDomainTask) → WriteEffects task 0 []
write_no_effects task = record { as_many = refl; each = λ o within. absurd (omega arith) }

pub write_more_effects : (task : FiniteDomainTask) (o : ℕ) (op : Operator) (effects : List (List WordMask)) (masks : List WordMask)
    → o < length task.operators → op ≡ get_or task.operators o op → WriteEffects task o effects → Write (ranges task) op.effect masks
    → WriteEffects task (o + 1) (effects ++ masks ∷ [])
write_more_effects task o op effects masks within is before w =
    record {
      as_many = length_push effects masks ∙ ap (λ n. n + 1) before.as_many;
      each = λ k below.
          ⊎_elim
          (λ (early : k < o).
          subst (λ (ms : List WordMask). Write (ranges task) (effect_at task k) ms) (sym (get_or-append effects (masks ∷ []) [] k (omega (arith, before.as_many))))
          (before.each k early))
          (λ (late : o ≤ k).
          let here : length effects ≡ k = omega (arith, before.as_many) in
          let now : o ≡ k = omega arith in
          subst (λ (ms : List WordMask). Write (ranges task) (effect_at task k) ms)
          (sym (get_or-append_seam effects masks [] []) ∙ ap (λ n. get_or (effects ++ masks ∷ []) n []) here)
          (subst (λ (fs : List Fact). Write (ranges task) fs masks) (sym (effect_is task o op within is) ∙ ap (λ n. effect_at task n) now) w))
          (cases_lt k o);
    }
