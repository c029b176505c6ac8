-- Words of a state in which values are changed.
use Rattle.std.proofs.Common.{◌≡◌, ◌≢◌, ℕ, zero, suc, ◌+◌, ◌*◌, ◌^◌, ◌<◌, ◌≤◌, List, [], ◌∷◌, length, get_or, set, refl, sym, ap, ◌∙◌, subst, arith, length-set, get_or-set_same, get_or-set_other}
use Rattle.std.specs.Prelude.{slice_index, slice_set, All}
use Rattle.std.proofs.Math.Logic.{⊎_elim}
use Rattle.std.proofs.lemmas.Bool.{cases_eq}
use Rattle.std.proofs.lemmas.List.FromFn.{fill_by_all, length-map-range_with_len}
use Rattle.std.proofs.lemmas.List.Elements.{All-head, All-tail, All-weaker}
use Rattle.fdr.specs.declared.fact.Fact.{Fact}
use Rattle.fdr.specs.Tasks.{IsState, IsInRange, with_values}
use Rattle.packed.specs.declared.field.Field.{Field}
use Rattle.packed.specs.Fields.{fields, word_at, words_of, values_in, value_in, AreWithinLimits, ArePacked}
use Rattle.packed.proofs.Placing.{own_field, other_field, word_of, words_fit, packed_back, words_are_packed, value_at, IsFieldOf}

-- ---- states

pub state_with_value : (ranges s : List ℕ) (f : Fact) → IsState ranges s → IsInRange ranges f → IsState ranges (slice_set s f.variable f.value)
state_with_value ranges s f ok fits =
    record {
      as_long = rw length-set ok.as_long;
      in_range = λ v l. ⊎_elim (changed v l) (kept v l) (cases_eq v f.variable);
    }
  where
    changed : (v : ℕ) → v < length ranges → v ≡ f.variable → slice_index (slice_set s f.variable f.value) v < slice_index ranges v
    changed v l e = let short : f.variable < length s = omega (arith, ok.as_long, fits.0) in rw (e, get_or-set_same) fits.1

    kept : (v : ℕ) → v < length ranges → (v ≡ f.variable → ⊥) → slice_index (slice_set s f.variable f.value) v < slice_index ranges v
    kept v l ne = rw get_or-set_other (ok.in_range v l)

pub state_with_values : (ranges : List ℕ) (facts : List Fact) (s : List ℕ) → IsState ranges s → All (IsInRange ranges) facts → IsState ranges (with_values facts s)
state_with_values ranges [] s ok all = ok
state_with_values ranges (f ∷ fs) s ok all =
    state_with_values ranges fs (slice_set s f.variable f.value)
    (state_with_value ranges s f ok (All-head (IsInRange ranges) f fs all))
    (All-tail (IsInRange ranges) f fs all)

-- ---- one word, where one value is changed

word_changed : (k : ℕ) (fs : List Field) (vs : List ℕ) (v x : ℕ) (field : Field) → v < length fs → v < length vs → field ≡ get_or fs v field
    → field.word ≡ k → word_at k fs (slice_set vs v x) + get_or vs v 0 * 2 ^ field.shift ≡ word_at k fs vs + x * 2 ^ field.shift
word_changed k [] vs v x field more more' is own = absurd (omega arith)
word_changed k (f ∷ fs) [] v x field more more' is own = absurd (omega arith)
word_changed k (f ∷ fs) (a ∷ vs) zero x field more more' is own =
    subst (λ (h : Field). word_at k (f ∷ fs) (x ∷ vs) + a * 2 ^ h.shift ≡ word_at k (f ∷ fs) (a ∷ vs) + x * 2 ^ h.shift) (sym is)
    (let own' : f.word ≡ k = ap (λ (h : Field). h.word) (sym is) ∙ own in
    omega (arith, own_field k f fs a vs own', own_field k f fs x vs own'))
word_changed k (f ∷ fs) (a ∷ vs) (suc v) x field more more' is own =
    let rest = word_changed k fs vs v x field (omega arith) (omega arith) is own in
    omega (arith, rest)

word_kept : (k : ℕ) (fs : List Field) (vs : List ℕ) (v x : ℕ) (field : Field) → v < length fs → v < length vs → field ≡ get_or fs v field
    → field.word ≢ k → word_at k fs (slice_set vs v x) ≡ word_at k fs vs
word_kept k [] vs v x field more more' is other = absurd (omega arith)
word_kept k (f ∷ fs) [] v x field more more' is other = absurd (omega arith)
word_kept k (f ∷ fs) (a ∷ vs) zero x field more more' is other =
    let other' : f.word ≢ k = λ e. other (ap (λ (h : Field). h.word) is ∙ e) in
    other_field k f fs x vs other' ∙ sym (other_field k f fs a vs other')
word_kept k (f ∷ fs) (a ∷ vs) (suc v) x field more more' is other =
    let rest = word_kept k fs vs v x field (omega arith) (omega arith) is other in
    omega (arith, rest)

-- ---- the words, where the value of a fact is written into its field

with_part : (after here part new later : ℕ) → after + part ≡ here + new → later + part ≡ here + new → after ≡ later
with_part after here part new later e e' = omega arith

-- with this word in place of the fact's, the words are those of the changed state
pub record IsWritten (count : ℕ) (words ranges : List ℕ) (fact : Fact) (field : Field) (after : ℕ) : Type 0 where
  pub form : ArePacked count ranges (set words field.word after)
  pub values : values_in (set words field.word after) ranges ≡ slice_set (values_in words ranges) fact.variable fact.value

module _ (count : ℕ) (words ranges : List ℕ) (fact : Fact) (field : Field) (packed : ArePacked count ranges words) (limits : AreWithinLimits ranges)
    (ok : IsInRange ranges fact) (at : IsFieldOf count ranges fact.variable field) where
  abbrev vs : List ℕ
  vs = values_in words ranges

  abbrev vs' : List ℕ
  vs' = slice_set vs fact.variable fact.value

  state' : IsState ranges vs'
  state' = state_with_value ranges vs fact packed.state ok

  there : fact.variable < length vs
  there = omega (arith, ok.0, packed.state.as_long)

  long : length words ≡ count
  long = ap length packed.no_other_bits ∙ length-map-range_with_len (λ k. word_at k (fields ranges) vs) 0 count

  word_is : (k : ℕ) → k < count → get_or words k 0 ≡ word_at k (fields ranges) vs
  word_is k inside = ap (λ (ws : List ℕ). get_or ws k 0) packed.no_other_bits ∙ word_of count ranges vs k inside

  changes : word_at field.word (fields ranges) vs' + value_in words field * 2 ^ field.shift ≡ word_at field.word (fields ranges) vs + fact.value * 2 ^ field.shift
  changes =
      ap (λ n. word_at field.word (fields ranges) vs' + n * 2 ^ field.shift) (sym (value_at count words ranges fact.variable field at))
      ∙ word_changed field.word (fields ranges) vs fact.variable fact.value field at.exists there at.is refl

  -- a word is below 2 ^ 64
  pub word_low : get_or words field.word 0 < 2 ^ 64
  word_low =
      rw (word_is field.word at.placed.inside)
      (words_fit field.word ranges vs
      (All-weaker (λ range. range ≤ 65536) (λ range. range ≤ 2 ^ 64) (λ range short. omega arith) ranges limits.values) packed.state)

  pub written : (after : ℕ) → after + value_in words field * 2 ^ field.shift ≡ get_or words field.word 0 + fact.value * 2 ^ field.shift
      → IsWritten count words ranges fact field after
  written after after_is =
      record {
        form = subst (λ (ws : List ℕ). ArePacked count ranges ws) (sym are) (words_are_packed count ranges vs' packed.fits state');
        values = ap (λ (ws : List ℕ). values_in ws ranges) are ∙ packed_back count ranges vs' packed.fits state';
      }
    where
      same : after ≡ word_at field.word (fields ranges) vs'
      same =
          with_part after (get_or words field.word 0) (value_in words field * 2 ^ field.shift) (fact.value * 2 ^ field.shift) (word_at field.word (fields ranges) vs') after_is
          (changes ∙ ap (λ n. n + fact.value * 2 ^ field.shift) (sym (word_is field.word at.placed.inside)))

      are : set words field.word after ≡ words_of count ranges vs'
      are =
          fill_by_all (λ k. word_at k (fields ranges) vs') (set words field.word after) count 0 (length-set words field.word after ∙ long)
          (λ k within.
          ⊎_elim
          (λ (own : field.word ≡ k).
          let set_here : get_or (set words field.word after) k 0 ≡ after = rw (← own) (get_or-set_same words field.word after 0 (omega (arith, long, at.placed.inside))) in
          set_here ∙ same ∙ ap (λ j. word_at j (fields ranges) vs') own)
          (λ other.
          get_or-set_other words field.word k after 0 (λ e. other (sym e)) ∙ word_is k within
          ∙ sym (word_kept k (fields ranges) vs fact.variable fact.value field at.exists there at.is other))
          (cases_eq field.word k))
