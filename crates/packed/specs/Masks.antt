-- Masks over the words of packed states: what facts write into them, and what facts ask of them.
use Rattle.std.specs.Prelude.{◌≡◌, ℕ, ◌+◌, ◌-◌, ◌*◌, ◌^◌, ◌<◌, ◌≤◌, bit_and, bit_or, Bool, ◌==◌, List, [], length, fold, slice_get, slice_index, slice_index_or, slice_set, All}
use Rattle.std.specs.List.{list_all}
use Rattle.std.specs.Option.{option_map_or}
use Rattle.fdr.specs.declared.fact.Fact.{Fact}
use Rattle.fdr.specs.Tasks.{FiniteDomainTask, ranges, holds, with_values}
use Rattle.packed.specs.declared.field.Field.{Field}
use Rattle.packed.specs.declared.mask.WordMask.{WordMask}
use Rattle.packed.specs.declared.mask.WordTest.{WordTest}
use Rattle.packed.specs.Fields.{word_count, values_in, ArePacked}

-- the effect of the operator with this number, empty if there is none
abbrev pub effect_at : FiniteDomainTask → ℕ → List Fact
effect_at task o = option_map_or (λ op. op.effect) (slice_get task.operators o) []

-- the bits of a field in its word
abbrev pub bits_of : Field → ℕ
bits_of field = 2 ^ (field.width + field.shift) - 2 ^ field.shift

-- the mask that writes a value into the bits of a field
abbrev pub mask_of : Field → ℕ → WordMask
mask_of field value = record { word = field.word; keep = 2 ^ 64 - 1 - bits_of field; set = value * 2 ^ field.shift }

-- the test whether a field has a value
abbrev pub test_of : Field → ℕ → WordTest
test_of field value = record { word = field.word; mask = bits_of field; value = value * 2 ^ field.shift }

-- what a mask makes of a word: the bits of `keep` stay as they are, and those of `set` are set
abbrev pub masked_word : WordMask → ℕ → ℕ
masked_word m word = bit_or (bit_and word m.keep) m.set

-- what masks, one after the other, make of words
abbrev pub masked : List WordMask → List ℕ → List ℕ
masked masks words = fold (λ ws m. slice_set ws m.word (masked_word m (slice_index ws m.word))) words masks

-- whether a word passes a test: those of its bits that are in `mask` are `value`
abbrev pub word_passes : WordTest → ℕ → Bool
word_passes t word = bit_and word t.mask == t.value

-- whether words pass all tests
abbrev pub pass_all : List WordTest → List ℕ → Bool
pass_all tests words = list_all (λ t. word_passes t (slice_index words t.word)) tests

-- the index of a word is below `count` and at most 65536
abbrev pub IsWordOf : ℕ → ℕ → Type 0
IsWordOf count word = (word < count) × (word ≤ 65536)

-- the masks make of any words what others make of them, and are of no words but theirs
pub record DoAs (others masks : List WordMask) : Type 0 where
  pub words : (count : ℕ) → All (λ m. IsWordOf count m.word) others → All (λ m. IsWordOf count m.word) masks
  pub same : (words : List ℕ) → masked masks words ≡ masked others words

-- any words pass the tests exactly if they pass others, and they are of no words but theirs
pub record AskAs (others tests : List WordTest) : Type 0 where
  pub words : (count : ℕ) → All (λ t. IsWordOf count t.word) others → All (λ t. IsWordOf count t.word) tests
  pub same : (words : List ℕ) → pass_all tests words ≡ pass_all others words

-- the masks write the facts: of the packed words of any state, they make those of the state with the facts' values
pub record Write (ranges : List ℕ) (facts : List Fact) (masks : List WordMask) : Type 0 where
  pub words : All (λ m. IsWordOf (word_count ranges) m.word) masks
  pub form : (count : ℕ) (words : List ℕ) → ArePacked count ranges words → ArePacked count ranges (masked masks words)
  pub values : (count : ℕ) (words : List ℕ) → ArePacked count ranges words
      → values_in (masked masks words) ranges ≡ with_values facts (values_in words ranges)

-- the tests ask for the facts: the packed words of a state pass them exactly if all facts hold in the state
pub record AskFor (ranges : List ℕ) (facts : List Fact) (tests : List WordTest) : Type 0 where
  pub words : All (λ t. IsWordOf (word_count ranges) t.word) tests
  pub same : (count : ℕ) (words : List ℕ) → ArePacked count ranges words
      → pass_all tests words ≡ list_all (holds (values_in words ranges)) facts

-- the lists of masks write the effects of the first `count` operators of the task
pub record WriteEffects (task : FiniteDomainTask) (count : ℕ) (effects : List (List WordMask)) : Type 0 where
  pub as_many : length effects ≡ count
  pub each : (o : ℕ) → o < count → Write (ranges task) (effect_at task o) (slice_index_or effects o [])

-- the lists of masks write the effects of the task's operators, and the tests ask for its goal
pub record AreMasks (task : FiniteDomainTask) (effects : List (List WordMask)) (goal : List WordTest) : Type 0 where
  pub written : WriteEffects task (length task.operators) effects
  pub asked : AskFor (ranges task) task.goal goal
