-- Which owner a state has in hash distributed A* (Kishimoto, Fukunaga and Botea 2013). States are those of
-- finite-domain tasks.
use Rattle.std.specs.Prelude.{ℕ, ◌+◌, ◌%◌, List, [], ◌∷◌, length, map, take, slice_index, fold, sum, bit_xor}
use Rattle.std.specs.List.{range_with_len}
use Rattle.rand_core.specs.Steps.{first_words}
use Rattle.rand_xoshiro.specs.SplitMix64.{mix_u64}
use Rattle.fdr.specs.Tasks.{FiniteDomainTask, ranges}

-- the owner by the value of variable 0
abbrev pub value_owner : List ℕ → ℕ → ℕ
value_owner [] owners = 0
value_owner (value ∷ values) owners = value % owners

-- the first `count` words of SplitMix64 (Steele, Lea and Flood 2014) from a seed
abbrev pub splitmix_words : ℕ → ℕ → List ℕ
splitmix_words seed count = first_words mix_u64 count seed

-- the index of each variable's first word in the list of the words of all variables, which has a word for each value of
-- each variable
abbrev pub firsts_of : List ℕ → List ℕ
firsts_of ranges = map (λ variable. sum (take variable ranges)) (range_with_len 0 (length ranges))

-- the word of the value that a variable has in a state
abbrev pub word_of : List ℕ → List ℕ → List ℕ → ℕ → ℕ
word_of words firsts state variable = slice_index words (slice_index firsts variable + slice_index state variable)

-- the exclusive or of the words of the state's values (Zobrist 1970)
abbrev pub hash : List ℕ → List ℕ → List ℕ → ℕ
hash words firsts state = fold bit_xor 0 (map (word_of words firsts state) (range_with_len 0 (length firsts)))

-- a task, and a word for each value of its variables
pub record Zobrist : Type 0 where
  pub task : FiniteDomainTask
  pub words : List ℕ

-- the owner by the hash of a state
abbrev pub zobrist_owner : Zobrist → List ℕ → ℕ → ℕ
zobrist_owner z state owners = hash z.words (firsts_of (ranges z.task)) state % owners
