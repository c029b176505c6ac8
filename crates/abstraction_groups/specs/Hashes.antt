-- Hashes of changes.
use Rattle.std.specs.Prelude.{ℕ, ◌+◌, ◌*◌, ◌%◌, ◌^◌, List, fold}
use Rattle.abstraction_groups.specs.declared.change.Change.{Change}
use Rattle.abstraction_groups.specs.declared.change.Change.TheVariants.{Kept, Required, Moved, Assigned}

-- a code of the change
abbrev pub code_of : Change → ℕ
code_of Kept = 0
code_of (Required c) = 4 * c + 1
code_of (Moved from to) = 4 * (1048576 * from + to) + 2
code_of (Assigned e) = 4 * e + 3

-- FNV-1a (Fowler, Noll and Vo) with sums, one code of a change at a time
abbrev pub hash_step : ℕ → Change → ℕ
hash_step hash c = (hash + code_of c) % 2 ^ 64 * 1099511628211 % 2 ^ 64

unfoldable pub hash_of : List Change → ℕ
hash_of changes = fold hash_step 14695981039346656037 changes
