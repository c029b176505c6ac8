-- The invariant of the search backwards from the abstract goals. A value is the total of a walk, or `UNREACHED` if no
-- walk has been found.
use Rattle.std.specs.Prelude.{◌≡◌, ℕ, ◌+◌, ◌*◌, ◌^◌, ◌<◌, ◌≤◌, true, ◌⊎◌, nat_lt, min, List, length, slice_index, slice_set, sum, count_by, Contains}
use Rattle.cost.specs.Distances.{Finite}
use Rattle.abstraction.specs.Abstractions.{Abstraction}
use Rattle.pdb_walks.specs.Walks.{IsTotalFrom}
use Rattle.abstraction_groups.specs.Entrances.{LeadsTo}
use Rattle.pdb.specs.declared.queue.Entry.{Entry}
use Rattle.pdb.specs.declared.search.TheConstants.{UNREACHED}

-- the number of states with a value that is the total of a walk
abbrev pub reached : List ℕ → ℕ
reached values = count_by (λ v. nat_lt v UNREACHED) values

-- the entry of the state under this value
abbrev pub entry_of : ℕ → ℕ → Entry
entry_of state value = record { value = value; state = state }

-- each value is the total of a walk and bounded, abstract goals have 0, and queued states have been reached
pub record IsSound (a : Abstraction) (share : ℕ → ℕ) (values : List ℕ) (queue : List Entry) : Type 0 where
  pub as_long : length values ≡ a.size
  pub small : a.size ≤ 2 ^ 24
  pub totals : (k : ℕ) → k < a.size → slice_index values k < UNREACHED → IsTotalFrom a share k (Finite (slice_index values k))
  pub bounds : (k : ℕ) → k < a.size → slice_index values k < UNREACHED → slice_index values k ≤ 2 ^ 31 * reached values
  pub goals : (k : ℕ) → k < a.size → a.is_goal k ≡ true → slice_index values k ≡ 0
  pub inside : (e : Entry) → Contains queue e → e.state < a.size
  pub queued : (e : Entry) → Contains queue e → e.value < UNREACHED

-- no transition of the operator into the state results in a lesser total
abbrev pub IsSettledBy : Abstraction → (ℕ → ℕ) → List ℕ → ℕ → ℕ → Type 0
IsSettledBy a share values b o = (i : ℕ) → LeadsTo a o i b → slice_index values i ≤ share o + slice_index values b

-- no transition into the state results in a lesser total
abbrev pub IsSettled : Abstraction → (ℕ → ℕ) → List ℕ → ℕ → Type 0
IsSettled a share values b = (o : ℕ) → IsSettledBy a share values b o

-- the state is queued under its value; an entry under a greater value is stale
abbrev pub IsQueued : List ℕ → List Entry → ℕ → Type 0
IsQueued values queue s = Contains queue (entry_of s (slice_index values s))

-- each state is queued under its value or settled
pub record IsSearch (a : Abstraction) (share : ℕ → ℕ) (values : List ℕ) (queue : List Entry) : Type 0 where
  pub sound : IsSound a share values queue
  pub settled : (s : ℕ) → s < a.size → IsQueued values queue s ⊎ IsSettled a share values s

-- each state except one, which has been reached, is queued under its value or settled
pub record IsSearchBut (a : Abstraction) (share : ℕ → ℕ) (values : List ℕ) (queue : List Entry) (b : ℕ) : Type 0 where
  pub sound : IsSound a share values queue
  pub inside : b < a.size
  pub has_value : slice_index values b < UNREACHED
  pub settled : (s : ℕ) → s < a.size → (s ≡ b → ⊥) → IsQueued values queue s ⊎ IsSettled a share values s

-- the measure of the remaining work, which no step of the search increases
abbrev pub work : List ℕ → List Entry → ℕ
work values queue = sum values + length queue

-- the value of the state is at most `value`, and the state is queued under `value` if its value was greater
pub record HasLowered (old : List ℕ) (before : List Entry) (new : List ℕ) (after : List Entry) (state value : ℕ) : Type 0 where
  pub values : new ≡ slice_set old state (min (slice_index old state) value)
  pub here : value < slice_index old state → Contains after (entry_of state value)
  pub stay : (e : Entry) → Contains before e → Contains after e
  pub only : (e : Entry) → Contains after e → ((e ≡ entry_of state value) × (value < slice_index old state)) ⊎ Contains before e
  pub no_more : work new after ≤ work old before

-- the abstract goals among the first n states have the value 0 and are queued, and no other state has a value
pub record IsStart (a : Abstraction) (values : List ℕ) (queue : List Entry) (n : ℕ) : Type 0 where
  pub as_long : length values ≡ a.size
  pub goals : (k : ℕ) → k < n → a.is_goal k ≡ true → slice_index values k ≡ 0
  pub each : (k : ℕ) → k < a.size → ((a.is_goal k ≡ true) × (slice_index values k ≡ 0) × Contains queue (entry_of k 0)) ⊎ (slice_index values k ≡ UNREACHED)
  pub queued : (e : Entry) → Contains queue e → (e.state < a.size) × (e.value ≡ 0)
