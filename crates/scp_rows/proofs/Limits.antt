-- Values within a limit have words.
use Rattle.std.proofs.Common.{◌≡◌, ℕ, ◌+◌, ◌<◌, ◌≤◌, List, map, take, length, get_or, refl, sym, subst, arith, min, lt-ltb}
use Rattle.std.specs.Prelude.{slice_index_or, All, Vec}
use Rattle.std.specs.Global.{Global}
use Rattle.std.proofs.lemmas.List.Elements.{All-weaker}
use Rattle.std.proofs.lemmas.Grind.{common_steps}
use Rattle.cost.specs.Distances.{Distance, Finite, Infinite, ◌+ᵈ◌, total, IsWithin}
use Rattle.abstraction.specs.Abstractions.{value_at}
use Rattle.abstraction_mapping.specs.Mappings.{abstraction_by}
use Rattle.scp_columns.specs.ColumnTables.{ColumnTable, on_abstraction}
use Rattle.scp_rows.specs.Rows.{HasWord, value_of}
use Rattle.scp_rows.proofs.Values.{total_with}

limits_add : (m n : ℕ) (d e : Distance) → IsWithin m d → IsWithin n e → IsWithin (m + n) (d +ᵈ e)
limits_add m n Infinite e h k = tt
limits_add m n (Finite i) Infinite h k = tt
limits_add m n (Finite i) (Finite j) h k = omega (arith, h, k)

-- one table more
pub limit_more : (limit more : ℕ) (column : List ColumnTable) (i : ℕ) (t : ColumnTable) (values : List Distance) → i < length column → t ≡ get_or column i t → values ≡ t.table.values
    → ((k : ℕ) → IsWithin more (slice_index_or values k Infinite))
    → ((state : List ℕ) → IsWithin limit (total (take i (map (λ t. value_at state (on_abstraction t)) column))))
    → (state : List ℕ) → IsWithin (limit + more) (total (take (i + 1) (map (λ t. value_at state (on_abstraction t)) column)))
limit_more limit more column i t values l is equal within so_far state =
    let here : IsWithin more (value_at state (on_abstraction t)) =
    subst (λ (vs : List Distance). IsWithin more (slice_index_or vs ((abstraction_by t.task t.table.mapping).index state) Infinite)) equal (within ((abstraction_by t.task t.table.mapping).index state)) in
    subst (IsWithin (limit + more)) (sym (total_with (λ t. value_at state (on_abstraction t)) column i t l is))
    (limits_add limit more (total (take i (map (λ t. value_at state (on_abstraction t)) column))) (value_at state (on_abstraction t)) (so_far state) here)

pub within_more : (m n : ℕ) → m ≤ n → (d : Distance) → IsWithin m d → IsWithin n d
within_more m n l Infinite h = tt
within_more m n l (Finite k) h = omega (arith, l, h)

pub has_word : (limit most : ℕ) → limit < most → (d : Distance) → IsWithin limit d → HasWord most d
has_word limit most l Infinite h = grind (arith, common_steps)
has_word limit most l (Finite n) h = let low : min n most ≡ n = omega (arith, l, h) in rw (low, lt-ltb n most (omega (arith, l, h))) refl

pub all_have_words : (limit most : ℕ) → limit < most → (columns : List (Vec ColumnTable Global)) → ((state : List ℕ) → All (λ column. IsWithin limit (value_of state column)) columns)
    → (state : List ℕ) → All (λ column. HasWord most (value_of state column)) columns
all_have_words limit most l columns within state =
    All-weaker (λ (column : Vec ColumnTable Global). IsWithin limit (value_of state column)) (λ (column : Vec ColumnTable Global). HasWord most (value_of state column))
    (λ column. has_word limit most l (value_of state column)) columns (within state)
