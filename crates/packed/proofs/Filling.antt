-- A loop that adds the values of a state to words, field by field.
use Rattle.std.proofs.Common.{◌≡◌, ℕ, suc, ◌+◌, ◌*◌, ◌%◌, ◌^◌, ◌<◌, ◌≤◌, List, ◌∷◌, length, get_or, set, drop, refl, sym, ap, ◌∙◌, arith, drop-cons, add-one, length-set, get_or-set_same, get_or-set_other}
use Rattle.std.proofs.Math.Logic.{⊎_elim}
use Rattle.std.proofs.lemmas.Bool.{cases_eq}
use Rattle.std.proofs.lemmas.List.{drop_all}
use Rattle.std.proofs.lemmas.List.FromFn.{fill_by_all}
use Rattle.std.proofs.lemmas.List.Elements.{All-weaker}
use Rattle.fdr.specs.Tasks.{IsState}
use Rattle.packed.specs.declared.field.Field.{Field}
use Rattle.packed.specs.Fields.{fields, word_at, words_of, AreWithinLimits}
use Rattle.packed.proofs.Placing.{own_field, other_field, words_fit, length-fields, IsFieldOf}
use Rattle.packed.proofs.Shifts.{shifted_up}

-- the words hold the values of the first fields, this many of them
pub record HoldsFirst (count : ℕ) (words : List ℕ) (fields : List Field) (values : List ℕ) (done : ℕ) : Type 0 where
  pub long : length words ≡ count
  pub summed : (k : ℕ) → k < count → get_or words k 0 + word_at k (drop done fields) (drop done values) ≡ word_at k fields values

-- what is left to add, with the next field apart
next_apart : (k : ℕ) (fields : List Field) (values : List ℕ) (done : ℕ) (field : Field)
    → done < length fields → done < length values → field ≡ get_or fields done field
    → word_at k (drop done fields) (drop done values) ≡ word_at k (field ∷ drop (done + 1) fields) (get_or values done 0 ∷ drop (done + 1) values)
next_apart k fields values done field more more' is =
    let fields' : drop done fields ≡ field ∷ drop (done + 1) fields =
    drop-cons fields done field more ∙ ap (λ f. f ∷ drop (suc done) fields) (sym is) ∙ ap (λ i. field ∷ drop i fields) (sym (add-one done)) in
    let values' : drop done values ≡ get_or values done 0 ∷ drop (done + 1) values =
    drop-cons values done 0 more' ∙ ap (λ i. get_or values done 0 ∷ drop i values) (sym (add-one done)) in
    ap (λ fs. word_at k fs (drop done values)) fields' ∙ ap (λ vs. word_at k (field ∷ drop (done + 1) fields) vs) values'

-- no word gets past what it holds at the end
sum_within : (count : ℕ) (words : List ℕ) (fields : List Field) (values : List ℕ) (done : ℕ) (field : Field)
    → HoldsFirst count words fields values done
    → done < length fields → done < length values → field ≡ get_or fields done field → field.word < count
    → get_or words field.word 0 + get_or values done 0 * 2 ^ field.shift ≤ word_at field.word fields values
sum_within count words fields values done field holds more more' is within =
    omega (
      arith,
      holds.summed field.word within,
      next_apart field.word fields values done field more more' is,
      own_field field.word field (drop (done + 1) fields) (get_or values done 0) (drop (done + 1) values) refl,
    )

-- the next field is added to its word
holds_more : (count : ℕ) (words : List ℕ) (fields : List Field) (values : List ℕ) (done : ℕ) (field : Field)
    → HoldsFirst count words fields values done
    → done < length fields → done < length values → field ≡ get_or fields done field → field.word < count
    → HoldsFirst count (set words field.word (get_or words field.word 0 + get_or values done 0 * 2 ^ field.shift)) fields values (done + 1)
holds_more count words fields values done field holds more more' is within =
    record {
      long = length-set words field.word sum ∙ holds.long;
      summed = λ k inside.
          ⊎_elim
          (λ (own : field.word ≡ k).
          let here : get_or (set words field.word sum) k 0 ≡ sum = rw (← own) (get_or-set_same words field.word sum 0 (omega (arith, holds.long))) in
          let same : get_or words k 0 ≡ get_or words field.word 0 = ap (λ j. get_or words j 0) (sym own) in
          omega (
            arith,
            here,
            same,
            holds.summed k inside,
            next_apart k fields values done field more more' is,
            own_field k field (drop (done + 1) fields) (get_or values done 0) (drop (done + 1) values) own,
          ))
          (λ other.
          omega (
            arith,
            get_or-set_other words field.word k sum 0 (λ e. other (sym e)),
            holds.summed k inside,
            next_apart k fields values done field more more' is,
            other_field k field (drop (done + 1) fields) (get_or values done 0) (drop (done + 1) values) other,
          ))
          (cases_eq field.word k);
    }
  where
    sum : ℕ
    sum = get_or words field.word 0 + get_or values done 0 * 2 ^ field.shift

pub holds_all : (count : ℕ) (words : List ℕ) (ranges values : List ℕ) (done : ℕ)
    → HoldsFirst count words (fields ranges) values done → length (fields ranges) ≤ done → words ≡ words_of count ranges values
holds_all count words ranges values done holds end =
    fill_by_all (λ k. word_at k (fields ranges) values) words count 0 holds.long
    (λ k within.
    let nothing : word_at k (drop done (fields ranges)) (drop done values) ≡ 0 = ap (λ fs. word_at k fs (drop done values)) (drop_all done (fields ranges) end) in
    omega (arith, holds.summed k within, nothing))

-- what a turn of the loop gives: nothing overflows, and one more field is done
pub record IsNext (count : ℕ) (words ranges values : List ℕ) (done : ℕ) (field : Field) (added : ℕ) : Type 0 where
  pub fits : get_or words field.word 0 + added < 2 ^ 64
  pub holds : HoldsFirst count (set words field.word (get_or words field.word 0 + added)) (fields ranges) values (done + 1)

pub next_field : (count : ℕ) (words ranges values : List ℕ) (done : ℕ) (field : Field) (value added : ℕ)
    → AreWithinLimits ranges → IsState ranges values → IsFieldOf count ranges done field
    → HoldsFirst count words (fields ranges) values done → value ≡ get_or values done 0
    → added ≡ (value * 2 ^ (field.shift % 64)) % 2 ^ 64
    → IsNext count words ranges values done field added
next_field count words ranges values done field value added limits state at holds is' added_is =
    record {
      fits = rw added_whole (omega (arith, sum, whole));
      holds = rw added_whole (holds_more count words (fields ranges) values done field holds at.exists more' at.is at.placed.inside);
    }
  where
    more' : done < length values
    more' = omega (arith, at.exists, length-fields ranges, state.as_long)

    whole : word_at field.word (fields ranges) values < 2 ^ 64
    whole =
        words_fit field.word ranges values
        (All-weaker (λ range. range ≤ 65536) (λ range. range ≤ 2 ^ 64) (λ range short. omega arith) ranges limits.values) state

    sum : get_or words field.word 0 + get_or values done 0 * 2 ^ field.shift ≤ word_at field.word (fields ranges) values
    sum = sum_within count words (fields ranges) values done field holds at.exists more' at.is at.placed.inside

    added_whole : added ≡ get_or values done 0 * 2 ^ field.shift
    added_whole =
        added_is ∙ ap (λ v. (v * 2 ^ (field.shift % 64)) % 2 ^ 64) is'
        ∙ shifted_up (get_or values done 0) field.shift (omega (arith, at.placed.in_one_word)) (omega (arith, sum, whole))
