-- A closed list of states within the limits of the format, with a cost partitioning, has a text.
use Rattle.std.proofs.Common.{◌≡◌, ℕ, zero, suc, ◌<◌, ◌≤◌, ◌^◌, false, List, [], ◌∷◌, length, map, refl, arith, ltb-false}
use Rattle.std.specs.Prelude.{All, slice_index}
use Rattle.std.specs.List.{AllByRecursion}
use Rattle.std.proofs.Math.Logic.{∥∥₁_elim}
use Rattle.std.proofs.lemmas.Bool.{or_parts}
use Rattle.std.proofs.lemmas.Grind.{get_or_default_zero}
use Rattle.std.proofs.lemmas.List.Elements.{All-head, All-tail}
use Rattle.cost.specs.Distances.{Distance, IsWithin}
use Rattle.fdr.specs.Tasks.{FiniteDomainTask, ranges, IsState, IsWithinLimits, has_long_range}
use Rattle.cert_value.specs.declared.certificate.Version.TheVariants.{Two}
use Rattle.cert_value.specs.Certificates.{Kind, Table, Entry}
use Rattle.cert_value.specs.Lawful.{IsShort, IsLawfulKind, IsEntry, IsLawful}
use Rattle.scp.specs.Partitions.{AreCostPartitioned}
use Rattle.scp_columns.specs.TableProps.{columns_prop}
use Rattle.scp_columns.proofs.Lawful.{by_recursion}

-- no range is longer than the limits say
range_small : (names : List (List (List ℕ))) (v : ℕ) → has_long_range names ≡ false → slice_index (map length names) v ≤ 65536
range_small [] v few = omega arith
range_small (n ∷ names) zero few = ltb-false 65536 (length n) (or_parts _ _ few).0
range_small (n ∷ names) (suc v) few = range_small names v (or_parts _ _ few).1

module _ (task : FiniteDomainTask) (limits : IsWithinLimits task) where
  values_short : (state : List ℕ) → IsState (ranges task) state → AllByRecursion IsShort state
  values_short state is = by_recursion IsShort state short
    where
      short : All IsShort state
      short v d low =
          omega (arith, get_or_default_zero state v d low, is.in_range v (omega (arith, low, is.as_long)), range_small task.value_names v limits.values)

  abbrev IsStateOf : Entry → Type 0
  IsStateOf e = IsState (ranges task) e.state

  abbrev IsCheap : Entry → Type 0
  IsCheap e = e.cost ≤ 2 ^ 62

  entries_lawful : (closed : List Entry) → All IsStateOf closed → All IsCheap closed → AllByRecursion (IsEntry (length (ranges task))) closed
  entries_lawful [] states cheap = tt
  entries_lawful (e ∷ es) states cheap = (
    record {
      cost = All-head IsCheap e es cheap;
      as_wide = (All-head IsStateOf e es states).as_long;
      values = values_short e.state (All-head IsStateOf e es states);
    },
    entries_lawful es (All-tail IsStateOf e es states) (All-tail IsCheap e es cheap),
  )

  pub has_text : (kind : Kind) (bound : Distance) (columns : List (List Table)) (closed : List Entry) → ∥ AreCostPartitioned task columns ∥₁ → IsLawfulKind kind
      → IsWithin (2 ^ 62) bound → All IsStateOf closed → All IsCheap closed → length closed < 2 ^ 32 → IsLawful (record { version = Two; kind = kind; bound = bound; classes = []; columns = columns; closed = closed })
  has_text kind bound columns closed divided lawful small states cheap few = record {
    kind = lawful;
    bound = small;
    classes = refl;
    columns = ∥∥₁_elim divided (columns_prop Two columns) (λ known. known.lawful);
    closed = record { few = few; width = length (ranges task); each = entries_lawful closed states cheap };
  }
