-- Operators that do not exist: the least that a table lists is the first that fails.
use Rattle.std.proofs.Common.{◌≡◌, ℕ, ◌<◌, ◌≤◌, Bool, true, false, List, [], ◌∷◌, length, Option, Some, None, cond, eqb, leb, ltb, refl, sym, ap, ◌∙◌, arith, subst, ⊎_elim}
use Rattle.std.specs.Prelude.{sum_by, not}
use Rattle.std.proofs.lemmas.Bool.{cond_both, cases_eq, cases_lt, eq-eqb, ne_eqb, le-leb, le-ltb, lt-ltb, leb-true, and_from, and_left, and_right, or_from, or_parts, or_left, or_right}
use Rattle.std.proofs.lemmas.List.Sums.{sum_by-cons}
use Rattle.cost.specs.Distances.{Distance, Finite, Infinite, ◌≤ᵈ◌, ◌<ᵈ◌, distance_of, lesser}
use Rattle.cost.proofs.DistanceLaws.{at_most_not_below, below_at_most_through, lesser_at_most_left, lesser_at_most_right, lesser_one}
use Rattle.fdr.specs.Tasks.{FiniteDomainTask, cost_of}
use Rattle.cert_value.specs.declared.table.Share.{Share}
use Rattle.cert_value.specs.Certificates.{Table}
use Rattle.checker_clauses.specs.Clauses.{share_of, lists, column_lists, is_within_cost}
use Rattle.checker_tables.specs.ShareSums.{IsFirstFailure, foreign, least_foreign, least_of_column}

-- an operator that is not listed has the share 0
unlisted_share : (o : ℕ) (ss : List Share) → lists ss o ≡ false → share_of ss o ≡ 0
unlisted_share o [] e = refl
unlisted_share o (s ∷ ss) e =
    let parts = or_parts (eqb s.operator o) (lists ss o) e in
    ap (λ (b : Bool). cond b s.amount (share_of ss o)) parts.0 ∙ unlisted_share o ss parts.1

unlisted_sum : (o : ℕ) (ts : List Table) → column_lists ts o ≡ false → sum_by (λ (t : Table). share_of t.shares o) ts ≡ 0
unlisted_sum o [] e = refl
unlisted_sum o (t ∷ ts) e =
    let parts = or_parts (lists t.shares o) (column_lists ts o) e in
    omega (arith, sum_by-cons (λ (u : Table). share_of u.shares o) t ts, unlisted_share o t.shares parts.0, unlisted_sum o ts parts.1)

module _ (count : ℕ) where
  -- an operator below the least is not listed
  below_unlisted : (o : ℕ) (ss : List Share) → count ≤ o → Finite o <ᵈ least_foreign count ss → lists ss o ≡ false
  below_unlisted o [] far below = refl
  below_unlisted o (s ∷ ss) far below =
      let d = foreign count s in
      let e = least_foreign count ss in
      let rest = below_unlisted o ss far (below_at_most_through (Finite o) (lesser d e) e below (lesser_at_most_right d e)) in
      ⊎_elim
      (λ (q : s.operator ≡ o).
      let here : d ≡ Finite o = ap (λ (b : Bool). cond b (Finite s.operator) Infinite) (le-leb count s.operator (omega arith)) ∙ ap Finite q in
      absurd (at_most_not_below (lesser d e) (Finite o) (subst (λ (x : Distance). lesser d e ≤ᵈ x) here (lesser_at_most_left d e)) below))
      (λ (ne : s.operator ≡ o → ⊥). or_from (eqb s.operator o) (lists ss o) (ne_eqb s.operator o ne) rest)
      (cases_eq s.operator o)

  foreign_is : (o : ℕ) (s : Share) → foreign count s ≡ Finite o → (count ≤ o) × (s.operator ≡ o)
  foreign_is o s =
      cond_both (leb count s.operator) (Finite s.operator) Infinite
      (λ d. d ≡ Finite o → (count ≤ o) × (s.operator ≡ o))
      (λ t e. let q : s.operator ≡ o = cc in (omega (arith, leb-true count s.operator t), q))
      (λ t e. absurd (cc))

  -- the least is listed, and does not exist
  least_is : (o : ℕ) (ss : List Share) → least_foreign count ss ≡ Finite o → (count ≤ o) × (lists ss o ≡ true)
  least_is o [] e = absurd (cc)
  least_is o (s ∷ ss) e =
      ⊎_elim
      (λ q. let here = foreign_is o s (sym q ∙ e) in (here.0, or_left (eqb s.operator o) (lists ss o) (eq-eqb s.operator o here.1)))
      (λ q. let there = least_is o ss (sym q ∙ e) in (there.0, or_right (eqb s.operator o) (lists ss o) there.1))
      (lesser_one (foreign count s) (least_foreign count ss))

  -- the same for a column
  below_unlisted_in : (o : ℕ) (ts : List Table) → count ≤ o → Finite o <ᵈ least_of_column count ts → column_lists ts o ≡ false
  below_unlisted_in o [] far below = refl
  below_unlisted_in o (t ∷ ts) far below =
      let d = least_foreign count t.shares in
      let e = least_of_column count ts in
      or_from (lists t.shares o) (column_lists ts o)
      (below_unlisted o t.shares far (below_at_most_through (Finite o) (lesser d e) d below (lesser_at_most_left d e)))
      (below_unlisted_in o ts far (below_at_most_through (Finite o) (lesser d e) e below (lesser_at_most_right d e)))

  least_is_in : (o : ℕ) (ts : List Table) → least_of_column count ts ≡ Finite o → (count ≤ o) × (column_lists ts o ≡ true)
  least_is_in o [] e = absurd (cc)
  least_is_in o (t ∷ ts) e =
      ⊎_elim
      (λ q. let here = least_is o t.shares (sym q ∙ e) in (here.0, or_left (lists t.shares o) (column_lists ts o) here.1))
      (λ q. let there = least_is_in o ts (sym q ∙ e) in (there.0, or_right (lists t.shares o) (column_lists ts o) there.1))
      (lesser_one (least_foreign count t.shares) (least_of_column count ts))

module _ (task : FiniteDomainTask) (column : List Table) where
  abbrev total : ℕ → ℕ
  total o = sum_by (λ (t : Table). share_of t.shares o) column

  -- an operator that no table lists is within its cost
  unlisted_passes : (o : ℕ) → column_lists column o ≡ false → is_within_cost task column o ≡ true
  unlisted_passes o e =
      and_from _ _ (le-leb (total o) (cost_of task o) (omega (arith, unlisted_sum o column e)))
      (or_right (ltb o (length task.operators)) (not (column_lists column o)) (ap not e))

  -- one that exists is if its shares sum to at most its cost
  pub existing_passes : (o : ℕ) → o < length task.operators → leb (total o) (cost_of task o) ≡ true → is_within_cost task column o ≡ true
  existing_passes o l e = and_from _ _ e (or_left (ltb o (length task.operators)) (not (column_lists column o)) (lt-ltb o (length task.operators) l))

  -- one whose shares sum to more than its cost is not
  pub overspent_fails : (o : ℕ) → leb (total o) (cost_of task o) ≡ false → is_within_cost task column o ≡ false
  overspent_fails o e = and_left (leb (total o) (cost_of task o)) _ e

  passes : ((m : ℕ) → m < length task.operators → is_within_cost task column m ≡ true) → (m : ℕ) → Finite m <ᵈ least_of_column (length task.operators) column → is_within_cost task column m ≡ true
  passes existing m below =
      ⊎_elim
      (λ (l : m < length task.operators). existing m l)
      (λ (far : length task.operators ≤ m). unlisted_passes m (below_unlisted_in (length task.operators) m column far below))
      (cases_lt m (length task.operators))

  -- where no operator of the task fails, the least that a table lists and that does not exist does
  pub foreign_first : ((m : ℕ) → m < length task.operators → is_within_cost task column m ≡ true) → (r : Option ℕ)
      → distance_of r ≡ least_of_column (length task.operators) column → IsFirstFailure (is_within_cost task column) r
  foreign_first existing None e = λ m. passes existing m (rw (← e) tt)
  foreign_first existing (Some o) e =
      let listed = least_is_in (length task.operators) o column (sym e) in (
        and_right (leb (total o) (cost_of task o)) _
            (or_from (ltb o (length task.operators)) (not (column_lists column o)) (le-ltb o (length task.operators) listed.0) (ap not listed.1)),
        λ m l. passes existing m (rw (← e) l),
      )
