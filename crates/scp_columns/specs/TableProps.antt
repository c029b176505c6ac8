-- A table has at most one proof that it has a text, and so do columns.
use Rattle.std.specs.Prelude.{ℕ, ◌≤◌, ◌^◌, List, [], ◌∷◌}
use Rattle.std.specs.List.{AllByRecursion}
use Rattle.std.proofs.Math.Bool.{Bool-set}
use native.Mathlib.Bridge.{le_prop}
use Rattle.cost.specs.Distances.{Distance, Finite, Infinite, IsWithin}
use Rattle.abstraction_domain.specs.Rows.{Row}
use Rattle.abstraction_domain.specs.Domains.{variables}
use Rattle.abstraction_mapping.specs.Mappings.{Mapping, Pattern, Domains}
use Rattle.cert_value.specs.declared.certificate.Version.{Version}
use Rattle.cert_value.specs.declared.certificate.Version.TheVariants.{One, Two, Three}
use Rattle.cert_value.specs.declared.table.Share.{Share}
use Rattle.cert_value.specs.Certificates.{Table}
use Rattle.cert_value.specs.Lawful.{IsShort, IsIncreasing, IsPattern, IsRow, AreRows, IsLawfulMapping, IsShare, IsTable, IsColumn, AreColumns}

below_prop : (m n : ℕ) → IsProp (m ≤ n)
below_prop m n = hlevel le_prop

nothing_prop : IsProp ⊥
nothing_prop x y = absurd x

none_prop : (A : Type 0) → IsProp (A → ⊥)
none_prop A x y = λ i a. nothing_prop (x a) (y a) i

all_prop : {X : Type 0} (P : X → Type 0) → ((x : X) → IsProp (P x)) → (xs : List X) → IsProp (AllByRecursion P xs)
all_prop P each [] x y = λ i. tt
all_prop P each (z ∷ zs) x y = λ i. (each z x.0 y.0 i, all_prop P each zs x.1 y.1 i)

increasing_prop : (ns : List ℕ) → IsProp (IsIncreasing ns)
increasing_prop [] x y = λ i. tt
increasing_prop (n ∷ []) x y = λ i. tt
increasing_prop (m ∷ n ∷ ns) x y = λ i. (below_prop _ _ x.0 y.0 i, increasing_prop (n ∷ ns) x.1 y.1 i)

within_prop : (limit : ℕ) (d : Distance) → IsProp (IsWithin limit d)
within_prop limit Infinite x y = λ i. tt
within_prop limit (Finite n) x y = below_prop _ _ x y

share_prop : (s : Share) → IsProp (IsShare s)
share_prop s x y = λ i. record { operator = below_prop _ _ x.operator y.operator i; least = below_prop _ _ x.least y.least i; most = below_prop _ _ x.most y.most i }

pattern_prop : (pattern : List ℕ) → IsProp (IsPattern pattern)
pattern_prop pattern x y = λ i. record {
  some = none_prop _ x.some y.some i;
  few = below_prop _ _ x.few y.few i;
  variables = all_prop IsShort (λ n. below_prop _ _) pattern x.variables y.variables i;
  increasing = increasing_prop pattern x.increasing y.increasing i;
}

row_prop : (r : Row) → IsProp (IsRow r)
row_prop r x y = λ i. record {
  variable = below_prop _ _ x.variable y.variable i;
  some = none_prop _ x.some y.some i;
  few = below_prop _ _ x.few y.few i;
  classes = all_prop IsShort (λ n. below_prop _ _) r.classes x.classes y.classes i;
  numbered = Bool-set _ _ x.numbered y.numbered i;
}

rows_prop : (rows : List Row) → IsProp (AreRows rows)
rows_prop rows x y = λ i. record {
  some = none_prop _ x.some y.some i;
  few = below_prop _ _ x.few y.few i;
  each = all_prop IsRow row_prop rows x.each y.each i;
  increasing = increasing_prop (variables rows) x.increasing y.increasing i;
}

mapping_prop : (version : Version) (m : Mapping) → IsProp (IsLawfulMapping version m)
mapping_prop One (Pattern pattern) = pattern_prop pattern
mapping_prop Two (Pattern pattern) = pattern_prop pattern
mapping_prop Three (Pattern pattern) = pattern_prop pattern
mapping_prop One (Domains rows) = nothing_prop
mapping_prop Two (Domains rows) = rows_prop rows
mapping_prop Three (Domains rows) = rows_prop rows

pub table_prop : {version : Version} (t : Table) → IsProp (IsTable version t)
table_prop {version} t x y = λ i. record {
  mapping = mapping_prop version t.mapping x.mapping y.mapping i;
  shares = record {
    few = below_prop _ _ x.shares.few y.shares.few i;
    each = all_prop IsShare share_prop t.shares x.shares.each y.shares.each i;
    increasing = increasing_prop _ x.shares.increasing y.shares.increasing i;
  };
  values = record {
    few = below_prop _ _ x.values.few y.values.few i;
    each = all_prop (IsWithin (2 ^ 55)) (within_prop (2 ^ 55)) t.values x.values.each y.values.each i;
  };
}

column_prop : (version : Version) (column : List Table) → IsProp (IsColumn version column)
column_prop version column x y = λ i. record {
  some = none_prop _ x.some y.some i;
  few = below_prop _ _ x.few y.few i;
  tables = all_prop (IsTable version) table_prop column x.tables y.tables i;
}

pub columns_prop : (version : Version) (columns : List (List Table)) → IsProp (AreColumns version columns)
columns_prop version columns x y = λ i. record {
  few = below_prop _ _ x.few y.few i;
  each = all_prop (IsColumn version) (column_prop version) columns x.each y.each i;
}
