-- The certificate of a task has a text if that of its reduced task has one.
use Rattle.std.proofs.Common.{◌≡◌, ℕ, zero, suc, ◌+◌, ◌<◌, ◌≤◌, ◌^◌, Bool, true, false, List, [], ◌∷◌, length, map, filter, get_or, Option, Some, None, refl, ap, subst, arith, cond, eqb, ltb}
use Rattle.std.specs.Prelude.{All, slice_index, slice_index_or}
use Rattle.std.specs.List.{list_any, range_with_len, AllByRecursion}
use Rattle.std.specs.Option.{option_map_or}
use Rattle.std.proofs.lemmas.Bool.{ltb-true, ltb-false, or_parts}
use Rattle.std.proofs.lemmas.List.{length-map}
use Rattle.fdr.specs.Limits.{max_operators}
use Rattle.fdr.specs.Tasks.{FiniteDomainTask, ranges, IsTask, IsWithinLimits}
use Rattle.abstraction_domain.specs.Rows.{AreNumbered}
use Rattle.abstraction_domain.specs.DomainLaws.{class_below_count}
use Rattle.abstraction_domain.proofs.Numbering.{numbered_by_test}
use Rattle.abstraction_mapping.specs.Mappings.{Mapping, Pattern, Domains}
use Rattle.reduction_classes.specs.Classes.{row_of, AreClassesFor}
use Rattle.reduction_classes.proofs.Limits.{count_within}
use Rattle.reduction_classes.proofs.Runs.{as_many, row_long}
use Rattle.cert_value.specs.declared.certificate.Version.{Version}
use Rattle.cert_value.specs.declared.certificate.Version.TheVariants.{Two, Three}
use Rattle.cert_value.specs.declared.table.Share.{Share}
use Rattle.cert_value.specs.Certificates.{Table, CertificateValue}
use Rattle.cert_value.specs.Lawful.{IsShort, IsIncreasing, IsShare, AreShares, IsLawfulMapping, IsTable, IsColumn, AreColumns, AreClasses, AreLawfulClasses, IsLawful}
use Rattle.checker_clauses.specs.Clauses.{share_of}
use Rattle.reduction_certs.specs.InTask.{share_in_task, shares_in_task, table_in_task, columns_in_task, share_classes, certificate_in_task}

-- ---- shares

-- strictly increasing numbers from `a` on
abbrev IncreasingFrom : ℕ → List ℕ → Type 0
IncreasingFrom a [] = Unit {0}
IncreasingFrom a (n ∷ ns) = (a ≤ n) × IncreasingFrom (n + 1) ns

from_more : (a b : ℕ) (ns : List ℕ) → a ≤ b → IncreasingFrom b ns → IncreasingFrom a ns
from_more a b [] l h = tt
from_more a b (n ∷ ns) l h = (let low = h.0 in omega (arith, l, low), h.1)

from_increasing : (a : ℕ) (ns : List ℕ) → IncreasingFrom a ns → IsIncreasing ns
from_increasing a [] h = tt
from_increasing a (n ∷ []) h = tt
from_increasing a (m ∷ n ∷ ns) h = (let low = h.1.0 in omega (arith, low), from_increasing (m + 1) (n ∷ ns) h.1)

module _ (representatives : List (Option ℕ)) (shares : List Share) where
  abbrev amount : ℕ → ℕ
  amount o = share_in_task representatives shares o

  abbrev mine : ℕ → Share
  mine o = record { operator = o; amount = share_in_task representatives shares o }

  abbrev positive : ℕ → Bool
  positive o = ltb 0 (share_in_task representatives shares o)

  increasing : (a n : ℕ) → IncreasingFrom a (map (λ (s : Share). s.operator) (map mine (filter positive (range_with_len a n))))
  increasing a zero = tt
  increasing a (suc n) = go (positive a) (increasing (a + 1) n)
    where
      go : (b : Bool) → IncreasingFrom (a + 1) (map (λ (s : Share). s.operator) (map mine (filter positive (range_with_len (a + 1) n)))) →
          IncreasingFrom a (map (λ (s : Share). s.operator) (map mine (cond b (a ∷ filter positive (range_with_len (a + 1) n)) (filter positive (range_with_len (a + 1) n)))))
      go true h = (omega arith, h)
      go false h = from_more a (a + 1) (map (λ (s : Share). s.operator) (map mine (filter positive (range_with_len (a + 1) n)))) (omega arith) h

  few : (a n : ℕ) → length (map mine (filter positive (range_with_len a n))) ≤ n
  few a zero = omega arith
  few a (suc n) = go (positive a) (few (a + 1) n)
    where
      go : (b : Bool) → length (map mine (filter positive (range_with_len (a + 1) n))) ≤ n →
          length (map mine (cond b (a ∷ filter positive (range_with_len (a + 1) n)) (filter positive (range_with_len (a + 1) n)))) ≤ suc n
      go true h = omega (arith, h)
      go false h = omega (arith, h)

  each : ((o : ℕ) → amount o < 2 ^ 31) → (a n : ℕ) → a + n < 2 ^ 32 → AllByRecursion IsShare (map mine (filter positive (range_with_len a n)))
  each most a zero l = tt
  each most a (suc n) l = go (positive a) refl (each most (a + 1) n (omega (arith, l)))
    where
      go : (b : Bool) → positive a ≡ b → AllByRecursion IsShare (map mine (filter positive (range_with_len (a + 1) n))) →
          AllByRecursion IsShare (map mine (cond b (a ∷ filter positive (range_with_len (a + 1) n)) (filter positive (range_with_len (a + 1) n))))
      go true e h = (record { operator = omega (arith, l); least = ltb-true 0 (amount a) e; most = most a }, h)
      go false e h = h

amount_small : (shares : List Share) → AllByRecursion IsShare shares → (o : ℕ) → share_of shares o < 2 ^ 31
amount_small [] all o = omega arith
amount_small (s ∷ shares) all o = go (eqb s.operator o) (amount_small shares all.1 o)
  where
    go : (b : Bool) → share_of shares o < 2 ^ 31 → cond b s.amount (share_of shares o) < 2 ^ 31
    go true h = all.0.most
    go false h = h

shares_lawful : (representatives : List (Option ℕ)) (shares : List Share) → length representatives ≤ max_operators → AreShares shares → AreShares (shares_in_task representatives shares)
shares_lawful representatives shares l are =
    record {
      few = let n = few representatives shares 0 (length representatives) in omega (arith, n, l);
      each = each representatives shares small 0 (length representatives) (omega (arith, l));
      increasing = from_increasing 0 (map (λ (s : Share). s.operator) (shares_in_task representatives shares)) (increasing representatives shares 0 (length representatives));
    }
  where
    small : (o : ℕ) → share_in_task representatives shares o < 2 ^ 31
    small o = go (slice_index_or representatives o None)
      where
        go : (r : Option ℕ) → option_map_or (share_of shares) r 0 < 2 ^ 31
        go None = omega arith
        go (Some k) = amount_small shares are.each k

-- ---- columns

-- what is lawful in version 2 is lawful in version 3
mapping_lawful : (b : Bool) (m : Mapping) → IsLawfulMapping Two m → IsLawfulMapping (cond b Three Two) m
mapping_lawful true (Pattern pattern) h = h
mapping_lawful true (Domains rows) h = h
mapping_lawful false m h = h

module _ (representatives : List (Option ℕ)) (l : length representatives ≤ max_operators) (b : Bool) where
  tables_lawful : (column : List Table) → AllByRecursion (IsTable Two) column → AllByRecursion (IsTable (cond b Three Two)) (map (table_in_task representatives) column)
  tables_lawful [] h = tt
  tables_lawful (t ∷ ts) h = (record { mapping = mapping_lawful b t.mapping h.0.mapping; shares = shares_lawful representatives t.shares l h.0.shares; values = h.0.values }, tables_lawful ts h.1)

  column_lawful : (column : List Table) → IsColumn Two column → IsColumn (cond b Three Two) (map (table_in_task representatives) column)
  column_lawful [] h = absurd (h.some refl)
  column_lawful (t ∷ ts) h =
      record {
        some = λ (e : map (table_in_task representatives) (t ∷ ts) ≡ []). cc e;
        few = let n = h.few in omega (arith, n, length-map (t ∷ ts) (table_in_task representatives));
        tables = tables_lawful (t ∷ ts) h.tables;
      }

  each_column : (columns : List (List Table)) → AllByRecursion (IsColumn Two) columns → AllByRecursion (IsColumn (cond b Three Two)) (columns_in_task representatives columns)
  each_column [] h = tt
  each_column (column ∷ columns) h = (column_lawful column h.0, each_column columns h.1)

  columns_lawful : (columns : List (List Table)) → AreColumns Two columns → AreColumns (cond b Three Two) (columns_in_task representatives columns)
  columns_lawful columns h =
      record {
        few = let n = h.few in omega (arith, n, length-map columns (map (table_in_task representatives)));
        each = each_column columns h.each;
      }

-- ---- classes

-- each class of a row is below a limit on its values
row_lawful : (row : List ℕ) → AreNumbered row → 0 < length row → length row < 2 ^ 32 → AreClasses row
row_lawful row numbered some few =
    record {
      some = λ (e : row ≡ []). let none = ap (λ (cs : List ℕ). length cs) e in omega (arith, none, some);
      few = few;
      each = below row (λ k l. let low = class_below_count row k l in let count = count_within row numbered in omega (arith, low, count, few));
      numbered = (numbered_by_test row).1 numbered;
    }
  where
    below : (cs : List ℕ) → ((k : ℕ) → k < length cs → slice_index cs k < 2 ^ 32) → AllByRecursion IsShort cs
    below [] h = tt
    below (c ∷ cs) h = (h zero (omega arith), below cs (λ k l. h (suc k) (omega (arith, l))))

-- no variable has too many values
range_few : (names : List (List (List ℕ))) → list_any (λ ns. ltb 65536 (length ns)) names ≡ false → (v : ℕ) → get_or (map length names) v 0 ≤ 65536
range_few [] h v = omega arith
range_few (ns ∷ names) h zero = let parts = or_parts (ltb 65536 (length ns)) _ h in ltb-false 65536 (length ns) parts.0
range_few (ns ∷ names) h (suc v) = let parts = or_parts (ltb 65536 (length ns)) (list_any (λ (xs : List (List ℕ)). ltb 65536 (length xs)) names) h in range_few names parts.1 v

module _ (task : FiniteDomainTask) (well : IsTask task) (limits : IsWithinLimits task) (classes : List (List ℕ)) (fit : AreClassesFor (ranges task) classes) (numbered : All AreNumbered classes) where
  classes_each : AllByRecursion AreClasses classes
  classes_each = by_index classes (λ v l. row_lawful (row_of classes v) (numbered v [] l) (some v l) (short v l))
    where
      exists : (v : ℕ) → v < length classes → v < length (ranges task)
      exists v l = omega (arith, l, as_many task classes fit)

      some : (v : ℕ) → v < length classes → 0 < length (row_of classes v)
      some v l = let value = well.initial.in_range v (exists v l) in omega (arith, value, row_long task classes fit v l)

      short : (v : ℕ) → v < length classes → length (row_of classes v) < 2 ^ 32
      short v l = let range = range_few task.value_names limits.values v in omega (arith, range, row_long task classes fit v l)

      by_index : (rows : List (List ℕ)) → ((v : ℕ) → v < length rows → AreClasses (row_of rows v)) → AllByRecursion AreClasses rows
      by_index [] h = tt
      by_index (row ∷ rows) h = (h zero (omega arith), by_index rows (λ v l. h (suc v) (omega (arith, l))))

  classes_lawful : (b : Bool) → share_classes classes ≡ b → AreLawfulClasses (cond b Three Two) (cond b classes [])
  classes_lawful false e = refl
  classes_lawful true e =
      record {
        few = let variables = limits.variables in omega (arith, variables, as_many task classes fit, length-map task.value_names (λ (ns : List (List ℕ)). length ns));
        each = classes_each;
        shared = e;
      }

  pub lawful_in_task : (representatives : List (Option ℕ)) → length representatives ≡ length task.operators → (c : CertificateValue) → c.version ≡ Two → IsLawful c → IsLawful (certificate_in_task classes representatives c)
  lawful_in_task representatives long c version lawful =
      record {
        kind = lawful.kind;
        bound = lawful.bound;
        classes = classes_lawful (share_classes classes) refl;
        columns = columns_lawful representatives (omega (arith, long, limits.operators)) (share_classes classes) c.columns (subst (λ (v : Version). AreColumns v c.columns) version lawful.columns);
        closed = lawful.closed;
      }
