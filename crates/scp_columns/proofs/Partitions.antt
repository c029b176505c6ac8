-- One more table in a column.
use Rattle.std.proofs.Common.{◌≡◌, ℕ, ◌-◌, List, [], ◌∷◌, ◌++◌, refl}
use Rattle.abstraction.specs.Abstractions.{Table}
use Rattle.pdb_walks.specs.Walks.{HasDistances, IsSaturated, IsPartition}
use Rattle.scp_columns.specs.Partitions.{left_after}

pub partition_longer : (left : ℕ → ℕ) (ts : List Table) (t : Table) → IsPartition left ts → HasDistances t (left_after left ts) → IsSaturated t → IsPartition left (ts ++ t ∷ [])
partition_longer left [] t p h s = (h, s, tt)
partition_longer left (u ∷ us) t p h s = (p.0, p.1, partition_longer (λ o. left o - u.share o) us t p.2 h s)

pub left_longer : (left : ℕ → ℕ) (ts : List Table) (t : Table) (o : ℕ) → left_after left (ts ++ t ∷ []) o ≡ left_after left ts o - t.share o
left_longer left [] t o = refl
left_longer left (u ∷ us) t o = left_longer (λ q. left q - u.share q) us t o
