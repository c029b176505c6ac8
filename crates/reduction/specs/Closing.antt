-- The closure under way: facts that are asked for so far, the operators whose conditions are among them, and the facts
-- whose waiting operators are still to be visited.
use Rattle.std.specs.Prelude.{◌≡◌, ℕ, ◌+◌, ◌<◌, ◌⊎◌, Bool, true, false, List, length, map, Contains, IfSome, slice_get, slice_index, slice_index_or}
use Rattle.fdr.specs.declared.fact.Fact.{Fact}
use Rattle.fdr.specs.Tasks.{FiniteDomainTask, ranges}
use Rattle.reduction.specs.Facts.{Facts, Includes, is_in, absent}
use Rattle.reduction.specs.Asked.{ChangesClass, IsClosed, AllAsked}
use Rattle.reduction.specs.Waiting.{WaitsFor, WaitsForAny}

-- whether the operator is marked
abbrev pub is_marked : List Bool → ℕ → Bool
is_marked marks o = slice_index_or marks o false

-- the operator changes a class, under these facts and whatever else is asked for
abbrev pub IsDue : FiniteDomainTask → Facts → ℕ → Type 0
IsDue task asked o = (more : Facts) → Includes more asked → ChangesClass task more o

-- marked operators change a class and have all their conditions asked for, and each fact is in every closed set
pub record IsClosing (task : FiniteDomainTask) (asked : List (List Bool)) (marks : List Bool) : Type 0 where
  pub shape : map length asked ≡ ranges task
  pub as_many : length marks ≡ length task.operators
  pub due : (o : ℕ) → is_marked marks o ≡ true → IsDue task (is_in asked) o
  pub conditions : (o : ℕ) → is_marked marks o ≡ true → IfSome (slice_get task.operators o) (λ op. AllAsked (is_in asked) op.precondition)
  pub needed : (other : Facts) → IsClosed task other → Includes other (is_in asked)

-- facts and marks are added; a fact that is new is to be visited, and the number of facts that are missing or to be
-- visited stays
pub record Grows (asked more : List (List Bool)) (pending later : List Fact) : Type 0 where
  pub facts : Includes (is_in more) (is_in asked)
  pub opened : (f : Fact) → is_in more f ≡ true → (is_in asked f ≡ true) ⊎ Contains later f
  pub still : (f : Fact) → Contains pending f → Contains later f
  pub known : (f : Fact) → Contains later f → Contains pending f ⊎ (is_in more f ≡ true)
  pub count : absent more + length later ≡ absent asked + length pending

-- the facts are asked for, and no others
pub record Asks (asked more : List (List Bool)) (pending later facts : List Fact) : Type 0 where
  pub shape : map length more ≡ map length asked
  pub grows : Grows asked more pending later
  pub all : AllAsked (is_in more) facts
  pub only : (f : Fact) → is_in more f ≡ true → (is_in asked f ≡ true) ⊎ Contains facts f

-- each mark stays
abbrev pub KeepsMarks : List Bool → List Bool → Type 0
KeepsMarks marks more = (o : ℕ) → is_marked marks o ≡ true → is_marked more o ≡ true

-- the operators that wait for the fact are marked
pub record IsServed (task : FiniteDomainTask) (marks : List Bool) (f : Fact) : Type 0 where
  pub values : (o : ℕ) → WaitsFor task f o → is_marked marks o ≡ true
  pub variables : 1 < slice_index (ranges task) f.variable → (o : ℕ) → WaitsForAny task f.variable o → is_marked marks o ≡ true

-- for each visited variable the operators that wait for any fact on it are marked
pub record AreVisited (task : FiniteDomainTask) (marks visited : List Bool) : Type 0 where
  pub as_many : length visited ≡ length (ranges task)
  pub marked : (v : ℕ) → is_marked visited v ≡ true → (o : ℕ) → WaitsForAny task v o → is_marked marks o ≡ true

-- a fact that is asked for is to be visited, or the operators that wait for it are marked; only these are to be visited
pub record AreOpen (task : FiniteDomainTask) (asked : List (List Bool)) (marks : List Bool) (pending : List Fact) : Type 0 where
  pub served : (f : Fact) → is_in asked f ≡ true → Contains pending f ⊎ IsServed task marks f
  pub known : (f : Fact) → Contains pending f → is_in asked f ≡ true
