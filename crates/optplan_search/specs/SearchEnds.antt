-- The ends of one or more searches for a task, one after another, and what they know together.
use Rattle.std.specs.Prelude.{ℕ, List, [], ◌∷◌}
use Rattle.cost.specs.Distances.{Distance, larger, lesser}
use Rattle.extract.specs.Ends.{EndOf}
use Rattle.extract.specs.Bounds.{least_best, lower_bound}

-- the end of the last search, and those of the searches before it, the latest first
pub record EndsOf (S : Type 0) : Type 0 where
  pub last : EndOf S
  pub earlier : List (EndOf S)

-- the end of one search alone
abbrev pub single : {S : Type 0} → EndOf S → EndsOf S
single e = record { last = e; earlier = [] }

-- the least cost at which a goal state was taken in one of these searches
abbrev pub least_among : {S : Type 0} → EndOf S → List (EndOf S) → Distance
least_among e [] = least_best e
least_among e (f ∷ es) = lesser (least_best e) (least_among f es)

-- the greatest of the lower bounds of these searches
abbrev pub greatest_among : {S : Type 0} → (S → List ℕ → ℕ → ℕ) → EndOf S → List (EndOf S) → Distance
greatest_among owner e [] = lower_bound owner e
greatest_among owner e (f ∷ es) = larger (lower_bound owner e) (greatest_among owner f es)

abbrev pub least_best_of : {S : Type 0} → EndsOf S → Distance
least_best_of es = least_among es.last es.earlier

abbrev pub greatest_bound_of : {S : Type 0} → (S → List ℕ → ℕ → ℕ) → EndsOf S → Distance
greatest_bound_of owner es = greatest_among owner es.last es.earlier
