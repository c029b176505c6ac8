-- The rows of a state, and those of its successor.
use Rattle.std.specs.Prelude.{◌≡◌, ℕ, ◌<◌, ◌+◌, ◌-◌, ◌++◌, min, get_or, slice_index, List, [], ◌∷◌, length, map, sum_by, Option, Some, All, Vec}
use Rattle.std.specs.Option.{ForSome}
use Rattle.std.specs.List.{range_with_len}
use Rattle.std.specs.List.Sorted.{IsPermutation}
use Rattle.std.specs.Global.{Global}
use Rattle.fdr.specs.Tasks.{ranges, IsState, step}
use Rattle.abstraction_groups.specs.declared.shift.Shift.{Shift}
use Rattle.scp_rows.specs.declared.moves.Move.{Move}
use Rattle.scp_rows.specs.Rows.{MappingRows, abstraction_of, word_at, lane_sum}

-- the rows of the first block
abbrev pub first_rows : List (Vec MappingRows Global) → List MappingRows
first_rows [] = []
first_rows (b ∷ bs) = b.items

-- the operator does not change the abstract state of any state
abbrev pub Keeps : MappingRows → ℕ → Type 0
Keeps p o =
    (state next : List ℕ) → IsState (ranges p.task) state → step p.task state o ≡ Some next
    → (abstraction_of p).index next ≡ (abstraction_of p).index state

-- the operator does not change the abstract state of any state under the mapping with this index
pub record KeepsAt (rows : List MappingRows) (o place : ℕ) : Type 0 where
  pub within : place < length rows
  pub keeps : (d : MappingRows) → Keeps (get_or rows place d) o

-- the first `n` indices are those of the affected mappings and of others, whose abstract states the operator does not
-- change
pub record AreTouched (rows : List MappingRows) (o n : ℕ) (touched : List ℕ) : Type 0 where
  pub within : All (λ k. k < n) touched
  pub others : List ℕ
  pub kept : All (KeepsAt rows o) others
  pub places : IsPermutation (others ++ touched) (range_with_len 0 n)

-- for each operator, the indices of the mappings that it may affect
pub record AreTouches (count : ℕ) (rows : List MappingRows) (touches : List (Vec ℕ Global)) : Type 0 where
  pub as_many : length touches ≡ count
  pub each : (o : ℕ) (d : Vec ℕ Global) → o < count → ∥ AreTouched rows o (length rows) (get_or touches o d).items ∥₁

-- the abstract states of the state, one for each mapping
pub record AreIndices (indices state : List ℕ) (rows : List MappingRows) : Type 0 where
  pub states : All (λ p. IsState (ranges p.task) state) rows
  pub as_long : length indices ≡ length rows
  pub each : (k : ℕ) (d : MappingRows) → k < length rows → slice_index indices k ≡ (abstraction_of (get_or rows k d)).index state

-- the abstract states of the state, and the sums of its rows
pub record IsEntered (most : ℕ) (rows : List MappingRows) (state indices words : List ℕ) : Type 0 where
  pub indices_are : AreIndices indices state rows
  pub sums_are : (lane : ℕ) → slice_index words lane ≡ min (lane_sum state lane rows) most

-- the sum of the words of a lane in the rows of a state, over the mappings at these indices
abbrev pub sum_at : List ℕ → ℕ → List MappingRows → List ℕ → ℕ
sum_at state lane rows places = sum_by (λ k. slice_index (map (word_at state lane) rows) k) places

-- the sums of the next state are those of the state, with the words of the affected mappings exchanged
pub record AreMoved (rows : List MappingRows) (touched state next : List ℕ) : Type 0 where
  pub within : All (λ k. k < length rows) touched
  pub sums : (lane : ℕ) → lane_sum next lane rows ≡ lane_sum state lane rows - sum_at state lane rows touched + sum_at next lane rows touched

-- the operator changes the number of each abstract state by this much
abbrev pub IsShift : MappingRows → ℕ → Shift → Type 0
IsShift p o s =
    (state next : List ℕ) → IsState (ranges p.task) state → step p.task state o ≡ Some next
    → (abstraction_of p).index next + s.less ≡ (abstraction_of p).index state + s.more

-- the move is that of the operator under the mapping with its index
pub record IsMove (rows : List MappingRows) (o : ℕ) (m : Move) : Type 0 where
  pub within : m.place < length rows
  pub shift : (d : MappingRows) → IsShift (get_or rows m.place d) o m.shift

abbrev pub places_of : List Move → List ℕ
places_of moves = map (λ m. m.place) moves

-- the moves of the operator under the mappings that it affects, if they are known
abbrev pub AreMovesOf : List MappingRows → ℕ → List ℕ → Option (Vec Move Global) → Type 0
AreMovesOf rows o touched moves = ForSome moves (λ ms. (places_of ms.items ≡ touched) × All (IsMove rows o) ms.items)

-- for each operator, its moves under the mappings that it affects, if they are known
pub record AreMoves (rows : List MappingRows) (touches : List (Vec ℕ Global)) (moves : List (Option (Vec Move Global))) : Type 0 where
  pub as_many : length moves ≡ length touches
  pub each : (o : ℕ) (t : Vec ℕ Global) (m : Option (Vec Move Global)) → o < length touches → AreMovesOf rows o (get_or touches o t).items (get_or moves o m)

-- the operator is applied in the state, and the next one follows
abbrev pub StepsTo : List MappingRows → List ℕ → ℕ → List ℕ → Type 0
StepsTo rows state o next = All (λ p. step p.task state o ≡ Some next) rows
