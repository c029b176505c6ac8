-- Owners are below the number of owners.
use Rattle.std.proofs.Common.{ℕ, ◌<◌, ◌%◌, List, [], ◌∷◌, arith}
use Rattle.packed_spread.specs.Spreads.{Zobrist, value_owner, zobrist_owner, hash, firsts_of}
use Rattle.fdr.specs.Tasks.{ranges}

remainder_is_below : (x n : ℕ) → 0 < n → x % n < n
remainder_is_below x n some = omega arith

pub value_owner_is_below : (state : List ℕ) (owners : ℕ) → 0 < owners → value_owner state owners < owners
value_owner_is_below [] owners some = some
value_owner_is_below (value ∷ values) owners some = remainder_is_below value owners some

pub zobrist_owner_is_below : (z : Zobrist) (state : List ℕ) (owners : ℕ) → 0 < owners → zobrist_owner z state owners < owners
zobrist_owner_is_below z state owners some = remainder_is_below (hash z.words (firsts_of (ranges z.task)) state) owners some
