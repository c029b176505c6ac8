-- Rows: the values of the tables of several columns, interleaved by column, as words.
use Rattle.std.specs.Prelude.{◌≡◌, ℕ, ◌+◌, nat_lt, ◌==◌, if◌then◌else◌, min, List, [], ◌∷◌, map, get_or, slice_index, slice_index_or, sum_by, All, Vec}
use Rattle.std.specs.Global.{Global}
use Rattle.cost.specs.Distances.{Distance, Finite, Infinite, greatest}
use Rattle.fdr.specs.Tasks.{FiniteDomainTask, ranges, IsState}
use Rattle.abstraction.specs.Abstractions.{Abstraction}
use Rattle.abstraction.specs.Columns.{column_value}
use Rattle.abstraction_mapping.specs.Mappings.{Mapping, abstraction_by}
use Rattle.scp_columns.specs.ColumnTables.{ColumnTable, on_abstraction}

-- the word of a distance, if the greatest word represents the infinite distance
abbrev pub word_of : ℕ → Distance → ℕ
word_of most Infinite = most
word_of most (Finite n) = min n most

-- the distance that a word represents
abbrev pub distance_below : ℕ → ℕ → Distance
distance_below most word = if nat_lt word most then Finite word else Infinite

-- the indices of the words in a row
abbrev pub lanes : List ℕ
lanes = 0 ∷ 1 ∷ 2 ∷ 3 ∷ 4 ∷ 5 ∷ 6 ∷ 7 ∷ []

-- a mapping with a row for each abstract state; a row has a word for each lane
pub record MappingRows : Type 0 where
  pub task : FiniteDomainTask
  pub mapping : Mapping
  pub rows : List (List ℕ)

-- the abstraction by the mapping
abbrev pub abstraction_of : MappingRows → Abstraction
abstraction_of p = abstraction_by p.task p.mapping

-- the word of a lane in a row, and 0 if there is no such row
abbrev pub word_in : List (List ℕ) → ℕ → ℕ → ℕ
word_in rows i lane = slice_index (get_or rows i []) lane

-- the word of a lane in the row of a state
abbrev pub word_at : List ℕ → ℕ → MappingRows → ℕ
word_at state lane p = word_in p.rows ((abstraction_of p).index state) lane

-- the sum of the words of a lane in the rows of a state
abbrev pub lane_sum : List ℕ → ℕ → List MappingRows → ℕ
lane_sum state lane rows = sum_by (word_at state lane) rows

-- the greatest distance that a lane's sum represents
abbrev pub block_value : ℕ → List ℕ → List MappingRows → Distance
block_value most state rows = greatest (map (λ lane. distance_below most (lane_sum state lane rows)) lanes)

-- the word that a distance in one lane adds in a lane
abbrev pub added : ℕ → ℕ → Distance → ℕ → ℕ
added most lane d other = if other == lane then word_of most d else 0

-- a word represents the distance
abbrev pub HasWord : ℕ → Distance → Type 0
HasWord most d = distance_below most (word_of most d) ≡ d

-- the greatest value of blocks, and 0 if there is none
abbrev pub blocks_value : ℕ → List ℕ → List (Vec MappingRows Global) → Distance
blocks_value most state blocks = greatest (map (λ b. block_value most state b.items) blocks)

-- the mappings belong to the task
abbrev pub AreOf : FiniteDomainTask → List MappingRows → Type 0
AreOf task rows = All (λ p. p.task ≡ task) rows

-- in one lane the sums grow by the value of the state, and in the others they are unchanged
pub record Gains (task : FiniteDomainTask) (most lane : ℕ) (value : List ℕ → Distance) (old new : List MappingRows) : Type 0 where
  pub of_task : AreOf task new
  pub sums : (state : List ℕ) → IsState (ranges task) state → (other : ℕ)
      → min (lane_sum state other new) most ≡ min (lane_sum state other old + added most lane (value state) other) most

-- the value of a column at a state
abbrev pub value_of : List ℕ → Vec ColumnTable Global → Distance
value_of state column = column_value state (map on_abstraction column.items)

-- each lane has the sums of the words of a column, and the lanes past the columns have 0
pub record IsBlockOf (task : FiniteDomainTask) (most : ℕ) (columns : List (Vec ColumnTable Global)) (rows : List MappingRows) : Type 0 where
  pub of_task : AreOf task rows
  pub sums : (state : List ℕ) → IsState (ranges task) state → (lane : ℕ)
      → min (lane_sum state lane rows) most ≡ word_of most (slice_index_or (map (value_of state) columns) lane (Finite 0))
