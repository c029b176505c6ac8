-- The tally of a column has the sum of each operator's shares.
use Rattle.std.proofs.Common.{◌≡◌, ℕ, ◌+◌, ◌-◌, ◌^◌, ◌<◌, ◌≤◌, Bool, true, false, ◌&&◌, List, [], ◌∷◌, length, min, fold, replicate, cond, eqb, ltb, leb, refl, sym, ap, ◌∙◌, arith, ⊎_elim}
use Rattle.std.specs.Prelude.{slice_index, slice_set, sum_by, not, All}
use Rattle.std.proofs.lemmas.Bool.{cond_both, cases_eq, eq-eqb, ne_eqb, lt-ltb, lt-leb, le-leb, and_from, and_right}
use Rattle.std.proofs.lemmas.List.{length-set, get_or-set_same, get_or-set_other, get_or-replicate, length-replicate}
use Rattle.std.proofs.lemmas.List.Elements.{All-head, All-tail}
use Rattle.std.proofs.lemmas.List.Sums.{sum_by-cons}
use Rattle.cert_value.specs.declared.table.Share.{Share}
use Rattle.cert_value.specs.Certificates.{Table}
use Rattle.checker_clauses.specs.Clauses.{share_of}
use Rattle.checker_tables.specs.ShareSums.{Tally, counted, tally_of}

-- as many sums and tables as this
pub record HasSize (n : ℕ) (t : Tally) : Type 0 where
  pub sums : length t.sums ≡ n
  pub tables : length t.tables ≡ n

-- the tally once the share counts
abbrev with_share : ℕ → Tally → Share → Tally
with_share table t s =
    record {
      sums = slice_set t.sums s.operator (min (slice_index t.sums s.operator + s.amount) (2 ^ 64 - 1));
      tables = slice_set t.tables s.operator table;
    }

abbrev counts : ℕ → Tally → Share → Bool
counts table t s = ltb s.operator (length t.sums) && not (eqb (slice_index t.tables s.operator) table)

share_first : (s : Share) (ss : List Share) (o : ℕ) → s.operator ≡ o → share_of (s ∷ ss) o ≡ s.amount
share_first s ss o e = ap (λ (b : Bool). cond b s.amount (share_of ss o)) (eq-eqb s.operator o e)

share_next : (s : Share) (ss : List Share) (o : ℕ) → (s.operator ≡ o → ⊥) → share_of (s ∷ ss) o ≡ share_of ss o
share_next s ss o ne = ap (λ (b : Bool). cond b s.amount (share_of ss o)) (ne_eqb s.operator o ne)

module _ (table : ℕ) (t : Tally) (s : Share) where
  -- the table has named the operator
  named : slice_index t.tables s.operator ≡ table → counted table t s ≡ t
  named e = ap (λ (b : Bool). cond b (with_share table t s) t) (and_right (ltb s.operator (length t.sums)) _ (ap not (eq-eqb (slice_index t.tables s.operator) table e)))

  -- it has not
  first : s.operator < length t.sums → (slice_index t.tables s.operator ≡ table → ⊥) → counted table t s ≡ with_share table t s
  first l ne = ap (λ (b : Bool). cond b (with_share table t s) t) (and_from _ _ (lt-ltb s.operator (length t.sums) l) (ap not (ne_eqb (slice_index t.tables s.operator) table ne)))

  size_counted : (n : ℕ) → HasSize n t → HasSize n (counted table t s)
  size_counted n size =
      cond_both (counts table t s) (with_share table t s) t (HasSize n)
      (λ e. record { sums = length-set t.sums s.operator _ ∙ size.sums; tables = length-set t.tables s.operator _ ∙ size.tables })
      (λ e. size)

  -- the sums and tables of other operators stay
  sum_elsewhere : (o : ℕ) → (s.operator ≡ o → ⊥) → slice_index (counted table t s).sums o ≡ slice_index t.sums o
  sum_elsewhere o ne =
      cond_both (counts table t s) (with_share table t s) t (λ u. slice_index u.sums o ≡ slice_index t.sums o)
      (λ e. get_or-set_other t.sums s.operator o _ 0 (λ q. ne (sym q))) (λ e. refl)

  table_elsewhere : (o : ℕ) → (s.operator ≡ o → ⊥) → slice_index (counted table t s).tables o ≡ slice_index t.tables o
  table_elsewhere o ne =
      cond_both (counts table t s) (with_share table t s) t (λ u. slice_index u.tables o ≡ slice_index t.tables o)
      (λ e. get_or-set_other t.tables s.operator o _ 0 (λ q. ne (sym q))) (λ e. refl)

sized_all : (n table : ℕ) (ss : List Share) (t : Tally) → HasSize n t → HasSize n (fold (counted table) t ss)
sized_all n table [] t size = size
sized_all n table (s ∷ ss) t size = sized_all n table ss (counted table t s) (size_counted table t s n size)

module _ (table o n : ℕ) (l : o < n) where
  -- once the table has named the operator, its sum stays
  stays : (ss : List Share) (t : Tally) → slice_index t.tables o ≡ table → slice_index (fold (counted table) t ss).sums o ≡ slice_index t.sums o
  stays [] t e = refl
  stays (s ∷ ss) t e =
      ⊎_elim
      (λ (q : s.operator ≡ o). ap (λ (u : Tally). slice_index (fold (counted table) u ss).sums o) (named table t s (ap (λ (v : ℕ). slice_index t.tables v) q ∙ e)) ∙ stays ss t e)
      (λ (ne : s.operator ≡ o → ⊥). stays ss (counted table t s) (table_elsewhere table t s o ne ∙ e) ∙ sum_elsewhere table t s o ne)
      (cases_eq s.operator o)

  -- the table's share is added to the sum
  added : (ss : List Share) (t : Tally) → HasSize n t → (slice_index t.tables o ≡ table → ⊥) → slice_index t.sums o ≤ 2 ^ 64 - 1
      → slice_index (fold (counted table) t ss).sums o ≡ min (slice_index t.sums o + share_of ss o) (2 ^ 64 - 1)
  added [] t size new small = within (slice_index t.sums o) (2 ^ 64 - 1) small
    where
      within : (x y : ℕ) → x ≤ y → x ≡ min (x + 0) y
      within x y h = grind arith
  added (s ∷ ss) t size new small =
      ⊎_elim same
      (λ (ne : s.operator ≡ o → ⊥).
      added ss (counted table t s) (size_counted table t s n size) (λ e. new (sym (table_elsewhere table t s o ne) ∙ e)) (rw (sum_elsewhere table t s o ne) small)
      ∙ ap (λ (x : ℕ). min (x + share_of ss o) (2 ^ 64 - 1)) (sum_elsewhere table t s o ne)
      ∙ ap (λ (x : ℕ). min (slice_index t.sums o + x) (2 ^ 64 - 1)) (sym (share_next s ss o ne)))
      (cases_eq s.operator o)
    where
      same : s.operator ≡ o → slice_index (fold (counted table) (counted table t s) ss).sums o ≡ min (slice_index t.sums o + share_of (s ∷ ss) o) (2 ^ 64 - 1)
      same q =
          let in_sums : o < length t.sums = omega (arith, size.sums) in
          let in_tables : o < length t.tables = omega (arith, size.tables) in
          ap (λ (u : Tally). slice_index (fold (counted table) u ss).sums o)
          (first table t s (omega (arith, q, in_sums)) (λ e. new (ap (λ (v : ℕ). slice_index t.tables v) (sym q) ∙ e)))
          ∙ stays ss (with_share table t s) (ap (λ (v : ℕ). slice_index (slice_set t.tables v table) o) q ∙ get_or-set_same t.tables o table 0 in_tables)
          ∙ ap (λ (v : ℕ). slice_index (slice_set t.sums v (min (slice_index t.sums v + s.amount) (2 ^ 64 - 1))) o) q
          ∙ get_or-set_same t.sums o (min (slice_index t.sums o + s.amount) (2 ^ 64 - 1)) 0 in_sums
          ∙ ap (λ (x : ℕ). min (slice_index t.sums o + x) (2 ^ 64 - 1)) (sym (share_first s ss o q))

  -- no later table has named the operator
  last : (ss : List Share) (t : Tally) → HasSize n t → slice_index t.tables o ≤ table → slice_index (fold (counted table) t ss).tables o ≤ table
  last [] t size h = h
  last (s ∷ ss) t size h = last ss (counted table t s) (size_counted table t s n size) (⊎_elim same (λ ne. rw (table_elsewhere table t s o ne) h) (cases_eq s.operator o))
    where
      same : s.operator ≡ o → slice_index (counted table t s).tables o ≤ table
      same q =
          let in_tables : o < length t.tables = omega (arith, size.tables) in
          cond_both (counts table t s) (with_share table t s) t (λ u. slice_index u.tables o ≤ table)
          (λ e. rw (q, get_or-set_same) (omega arith))
          (λ e. h)

-- the tables from one on add their shares
sums_from : (o n : ℕ) → o < n → (tables : List Table) (k : ℕ) (t : Tally) → HasSize n t → slice_index t.tables o ≤ k → slice_index t.sums o ≤ 2 ^ 64 - 1
    → slice_index (tally_of k t tables).sums o ≡ min (slice_index t.sums o + sum_by (λ (u : Table). share_of u.shares o) tables) (2 ^ 64 - 1)
sums_from o n l [] k t size seen small = within (slice_index t.sums o) (2 ^ 64 - 1) small
  where
    within : (x y : ℕ) → x ≤ y → x ≡ min (x + 0) y
    within x y h = grind arith
sums_from o n l (u ∷ us) k t size seen small =
    let here = added (k + 1) o n l u.shares t size (λ e. omega (arith, e, seen)) small in
    sums_from o n l us (k + 1) (fold (counted (k + 1)) t u.shares) (sized_all n (k + 1) u.shares t size) (last (k + 1) o n l u.shares t size (omega (arith, seen))) (rw here (capped _ _))
    ∙ ap (λ (x : ℕ). min (x + sum_by (λ (v : Table). share_of v.shares o) us) (2 ^ 64 - 1)) here
    ∙ regroup (slice_index t.sums o) (share_of u.shares o) (sum_by (λ (v : Table). share_of v.shares o) us) (2 ^ 64 - 1)
    ∙ ap (λ (x : ℕ). min (slice_index t.sums o + x) (2 ^ 64 - 1)) (sym (sum_by-cons (λ (v : Table). share_of v.shares o) u us))
  where
    capped : (x y : ℕ) → min x y ≤ y
    capped x y = grind arith

    regroup : (x a b y : ℕ) → min (min (x + a) y + b) y ≡ min (x + (a + b)) y
    regroup x a b y = grind arith

size_of_tally : (n : ℕ) (tables : List Table) (k : ℕ) (t : Tally) → HasSize n t → HasSize n (tally_of k t tables)
size_of_tally n [] k t size = size
size_of_tally n (u ∷ us) k t size = size_of_tally n us (k + 1) (fold (counted (k + 1)) t u.shares) (sized_all n (k + 1) u.shares t size)

-- no share of any of this many operators
abbrev nothing : ℕ → Tally
nothing n = record { sums = replicate n 0; tables = replicate n 0 }

nothing_sized : (n : ℕ) → HasSize n (nothing n)
nothing_sized n = record { sums = length-replicate n 0; tables = length-replicate n 0 }

-- the shares of one table
pub table_sized : (n : ℕ) (ss : List Share) → length (fold (counted 1) (nothing n) ss).sums ≡ n
table_sized n ss = (sized_all n 1 ss (nothing n) (nothing_sized n)).sums

pub table_share : (o n : ℕ) → o < n → (ss : List Share) → All (λ (s : Share). s.amount < 2 ^ 32) ss → slice_index (fold (counted 1) (nothing n) ss).sums o ≡ share_of ss o
table_share o n l ss small =
    let none : slice_index (replicate n 0) o ≡ 0 = get_or-replicate n o 0 0 l in
    let none_named : slice_index (replicate n 0) o ≡ 1 → ⊥ = λ e. omega (arith, e, none) in
    added 1 o n l ss (nothing n) (nothing_sized n) none_named (omega (arith, none))
    ∙ ap (λ (x : ℕ). min (x + share_of ss o) (2 ^ 64 - 1)) none
    ∙ plain (share_of ss o) (2 ^ 64 - 1) (omega (arith, share_small ss small))
  where
    plain : (x y : ℕ) → x ≤ y → min (0 + x) y ≡ x
    plain x y h = grind arith

    share_small : (ss : List Share) → All (λ (s : Share). s.amount < 2 ^ 32) ss → share_of ss o < 2 ^ 32
    share_small [] small = omega arith
    share_small (s ∷ ss) small =
        cond_both (eqb s.operator o) s.amount (share_of ss o) (λ x. x < 2 ^ 32)
        (λ e. All-head (λ (u : Share). u.amount < 2 ^ 32) s ss small)
        (λ e. share_small ss (All-tail (λ (u : Share). u.amount < 2 ^ 32) s ss small))

pub tally_sized : (n : ℕ) (tables : List Table) → length (tally_of 0 (nothing n) tables).sums ≡ n
tally_sized n tables = (size_of_tally n tables 0 (nothing n) (nothing_sized n)).sums

pub tally_sum : (o n : ℕ) → o < n → (tables : List Table) → slice_index (tally_of 0 (nothing n) tables).sums o ≡ min (sum_by (λ (u : Table). share_of u.shares o) tables) (2 ^ 64 - 1)
tally_sum o n l tables =
    let none : slice_index (replicate n 0) o ≡ 0 = get_or-replicate n o 0 0 l in
    sums_from o n l tables 0 (nothing n) (nothing_sized n) (omega (arith, none)) (omega (arith, none))
    ∙ ap (λ (x : ℕ). min (x + sum_by (λ (u : Table). share_of u.shares o) tables) (2 ^ 64 - 1)) none
    ∙ plain (sum_by (λ (u : Table). share_of u.shares o) tables) (2 ^ 64 - 1)
  where
    plain : (x y : ℕ) → min (0 + x) y ≡ min x y
    plain x y = grind arith

module _ (x y cost : ℕ) where
  -- a sum that is kept up to a number above the cost is compared with the cost as the whole sum is
  pub above_cost : (kept : ℕ) → kept ≡ min x y → cost < kept → leb x cost ≡ false
  above_cost kept e h = lt-leb x cost (grind arith)

  pub within_cost : (kept : ℕ) → kept ≡ min x y → kept ≤ cost → cost < y → leb x cost ≡ true
  within_cost kept e h l = le-leb x cost (grind arith)
