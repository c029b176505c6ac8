-- The shares of the operators of a task.
use Rattle.std.proofs.Common.{◌≡◌, ℕ, zero, suc, ◌+◌, ◌-◌, ◌<◌, ◌≤◌, Bool, true, false, List, [], ◌∷◌, ◌++◌, length, map, filter, drop, replicate, get_or, Option, Some, None, refl, sym, ap, subst, ◌∙◌, arith, cond, eqb, ltb, inl, inr, ⊎_elim}
use Rattle.std.specs.Prelude.{◌⊎◌, ◌||◌, All, IfSome, slice_index, slice_index_or, slice_set}
use Rattle.std.specs.List.{range_with_len}
use Rattle.std.specs.Option.{option_map_or}
use Rattle.std.proofs.lemmas.Bool.{eq-eqb, ne_eqb, lt-ltb, ltb-false, or_from, cases_eq, cases_lt}
use Rattle.std.proofs.lemmas.List.{get_or_past, map-append, length-set, length-replicate, get_or-replicate, get_or-set_same, get_or-set_other}
use Rattle.cert_value.specs.declared.table.Share.{Share}
use Rattle.checker_clauses.specs.Clauses.{share_of, lists}
use Rattle.reduction.proofs.LoopLaws.{filter_step}
use Rattle.reduction_certs.specs.InTask.{share_in_task, shares_in_task}

-- whether a number is among those from `a` on
among : (o a n : ℕ) → Bool
among o a zero = false
among o a (suc n) = eqb a o || among o (a + 1) n

module _ (representatives : List (Option ℕ)) (shares : List Share) where
  abbrev amount : ℕ → ℕ
  amount o = share_in_task representatives shares o

  abbrev listed : List ℕ → List Share
  listed ns = map (λ o. record { operator = o; amount = share_in_task representatives shares o }) (filter (λ o. ltb 0 (share_in_task representatives shares o)) ns)

  -- operators past the last one have no share
  past : (o : ℕ) → length representatives ≤ o → amount o ≡ 0
  past o l = ap (λ (r : Option ℕ). option_map_or (share_of shares) r 0) (get_or_past representatives o None l)

  -- operators before the first one are not listed
  absent : (o b m : ℕ) → o < b → share_of (listed (range_with_len b m)) o ≡ 0
  absent o b zero l = refl
  absent o b (suc m) l = at (ltb 0 (amount b)) (absent o (b + 1) m (omega (arith, l)))
    where
      at : (t : Bool) → share_of (listed (range_with_len (b + 1) m)) o ≡ 0 →
          share_of (map (λ k. record { operator = k; amount = share_in_task representatives shares k }) (cond t (b ∷ filter (λ k. ltb 0 (share_in_task representatives shares k)) (range_with_len (b + 1) m)) (filter (λ k. ltb 0 (share_in_task representatives shares k)) (range_with_len (b + 1) m)))) o ≡ 0
      at false e = e
      at true e = rw (ne_eqb b o (λ (q : b ≡ o). omega (arith, q, l))) e

  share_listed : (o a n : ℕ) → (o < a + n → ⊥) ⊎ (a ≤ o) → ((o < a + n → ⊥) → amount o ≡ 0) → share_of (listed (range_with_len a n)) o ≡ amount o
  share_listed o a zero where_is beyond = sym (beyond_at where_is)
    where
      beyond_at : (o < a + zero → ⊥) ⊎ (a ≤ o) → amount o ≡ 0
      beyond_at (inl h) = beyond h
      beyond_at (inr l) = beyond (λ (m : o < a + zero). omega (arith, l, m))
  share_listed o a (suc n) where_is beyond =
      go (ltb 0 (amount a)) refl (cases_eq a o)
      (λ ne. share_listed o (a + 1) n
      (⊎_elim (λ (h : o < a + suc n → ⊥). inl (λ (l : o < a + 1 + n). h (omega (arith, l)))) (λ (l : a ≤ o). inr (omega (arith, l, ne))) where_is)
      (λ h. beyond (λ (l : o < a + suc n). h (omega (arith, l)))))
    where
      past_here : a ≡ o → amount a ≡ 0 → share_of (listed (range_with_len (a + 1) n)) o ≡ amount o
      past_here e none = absent o (a + 1) n (omega (arith, e)) ∙ sym (subst (λ (k : ℕ). amount k ≡ 0) e none)

      go : (t : Bool) → ltb 0 (amount a) ≡ t → (a ≡ o) ⊎ (a ≡ o → ⊥) → ((a ≡ o → ⊥) → share_of (listed (range_with_len (a + 1) n)) o ≡ amount o) →
          share_of (map (λ k. record { operator = k; amount = share_in_task representatives shares k }) (cond t (a ∷ filter (λ k. ltb 0 (share_in_task representatives shares k)) (range_with_len (a + 1) n)) (filter (λ k. ltb 0 (share_in_task representatives shares k)) (range_with_len (a + 1) n)))) o ≡ amount o
      go true e (inl same) rest = rw (eq-eqb a o same) (ap amount same)
      go true e (inr ne) rest = rw (ne_eqb a o ne) (rest ne)
      go false e (inl same) rest = past_here same (let none = ltb-false 0 (amount a) e in omega (arith, none))
      go false e (inr ne) rest = rest ne

  -- an operator has the share of its representative
  pub share_is : (o : ℕ) → share_of (shares_in_task representatives shares) o ≡ share_in_task representatives shares o
  share_is o = share_listed o 0 (length representatives) (inr (omega arith)) (λ h. past o (⊎_elim (λ (l : o < length representatives). absurd (h (omega (arith, l)))) (λ (l : length representatives ≤ o). l) (cases_lt o (length representatives))))

  -- operators past the last one are not listed
  not_listed : (o a n : ℕ) → a + n ≤ o → lists (listed (range_with_len a n)) o ≡ false
  not_listed o a zero l = refl
  not_listed o a (suc n) l = go (ltb 0 (amount a)) (not_listed o (a + 1) n (omega (arith, l)))
    where
      go : (t : Bool) → lists (listed (range_with_len (a + 1) n)) o ≡ false →
          lists (map (λ k. record { operator = k; amount = share_in_task representatives shares k }) (cond t (a ∷ filter (λ k. ltb 0 (share_in_task representatives shares k)) (range_with_len (a + 1) n)) (filter (λ k. ltb 0 (share_in_task representatives shares k)) (range_with_len (a + 1) n)))) o ≡ false
      go false e = e
      go true e = or_from (eqb a o) (lists (listed (range_with_len (a + 1) n)) o) (ne_eqb a o (λ (q : a ≡ o). omega (arith, q, l))) e

  pub past_not_listed : (o : ℕ) → length representatives ≤ o → lists (shares_in_task representatives shares) o ≡ false
  past_not_listed o l = not_listed o 0 (length representatives) (omega (arith, l))

-- ---- the amounts of shares by their operators

pub record AreAmounts (count : ℕ) (shares : List Share) (amounts : List ℕ) : Type 0 where
  pub long : length amounts ≡ count
  pub each : (o : ℕ) → o < count → slice_index amounts o ≡ share_of shares o

pub amounts_none : (count : ℕ) → AreAmounts count [] (replicate count 0)
amounts_none count = record { long = length-replicate count 0; each = λ o l. get_or-replicate count o 0 0 l }

-- one share more in front, of an operator past the last one
pub amounts_past : (count : ℕ) (s : Share) (shares : List Share) (amounts : List ℕ) → count ≤ s.operator → AreAmounts count shares amounts → AreAmounts count (s ∷ shares) amounts
amounts_past count s shares amounts p are =
    record { long = are.long; each = λ o l. are.each o l ∙ sym (rw (ne_eqb s.operator o (λ (q : s.operator ≡ o). omega (arith, q, l, p))) refl) }

-- one share more in front
pub amounts_more : (count : ℕ) (s : Share) (shares : List Share) (amounts : List ℕ) → s.operator < count → AreAmounts count shares amounts → AreAmounts count (s ∷ shares) (slice_set amounts s.operator s.amount)
amounts_more count s shares amounts p are =
    record { long = length-set amounts s.operator s.amount ∙ are.long; each = λ o l. go o l (cases_eq s.operator o) }
  where
    go : (o : ℕ) → o < count → (s.operator ≡ o) ⊎ (s.operator ≡ o → ⊥) → slice_index (slice_set amounts s.operator s.amount) o ≡ share_of (s ∷ shares) o
    go o l (inl e) = rw (eq-eqb s.operator o e) (subst (λ (k : ℕ). slice_index (slice_set amounts s.operator s.amount) k ≡ s.amount) e (get_or-set_same amounts s.operator s.amount 0 (omega (arith, p, are.long))))
    go o l (inr ne) = rw (ne_eqb s.operator o ne) (get_or-set_other amounts s.operator o s.amount 0 (λ (q : o ≡ s.operator). ne (sym q)) ∙ are.each o l)

-- the shares from a place on begin with the share there
pub from_place : (shares : List Share) (n : ℕ) (d : Share) → n < length shares → drop n shares ≡ get_or shares n d ∷ drop (suc n) shares
from_place [] n d l = absurd (omega (arith, l))
from_place (x ∷ xs) zero d l = refl
from_place (x ∷ xs) (suc n) d l = from_place xs n d (omega (arith, l))

next_shares : (i : ℕ) (shares : List Share) (d : Share) → i < length shares → drop (length shares - (i + 1)) shares ≡ get_or shares (length shares - 1 - i) d ∷ drop (length shares - i) shares
next_shares i shares d l =
    let at : length shares - (i + 1) ≡ length shares - 1 - i = omega (arith, l) in
    let after : suc (length shares - 1 - i) ≡ length shares - i = omega (arith, l) in
    let within : length shares - 1 - i < length shares = omega (arith, l) in
    ap (λ (n : ℕ). drop n shares) at ∙ from_place shares (length shares - 1 - i) d within ∙ ap (λ (n : ℕ). get_or shares (length shares - 1 - i) d ∷ drop n shares) after

-- one share more from the end
pub amounts_next : (count i : ℕ) (shares : List Share) (amounts : List ℕ) (d : Share) → i < length shares → (get_or shares (length shares - 1 - i) d).operator < count →
    AreAmounts count (drop (length shares - i) shares) amounts → AreAmounts count (drop (length shares - (i + 1)) shares) (slice_set amounts (get_or shares (length shares - 1 - i) d).operator (get_or shares (length shares - 1 - i) d).amount)
amounts_next count i shares amounts d l p are =
    subst (λ (xs : List Share). AreAmounts count xs (slice_set amounts (get_or shares (length shares - 1 - i) d).operator (get_or shares (length shares - 1 - i) d).amount)) (sym (next_shares i shares d l))
    (amounts_more count (get_or shares (length shares - 1 - i) d) (drop (length shares - i) shares) amounts p are)

pub amounts_next_past : (count i : ℕ) (shares : List Share) (amounts : List ℕ) (d : Share) → i < length shares → count ≤ (get_or shares (length shares - 1 - i) d).operator →
    AreAmounts count (drop (length shares - i) shares) amounts → AreAmounts count (drop (length shares - (i + 1)) shares) amounts
amounts_next_past count i shares amounts d l p are =
    subst (λ (xs : List Share). AreAmounts count xs amounts) (sym (next_shares i shares d l)) (amounts_past count (get_or shares (length shares - 1 - i) d) (drop (length shares - i) shares) amounts p are)

-- ---- the operators in turn

module _ (representatives : List (Option ℕ)) (shares : List Share) (n : ℕ) (made : List Share)
    (so_far : made ≡ map (λ o. record { operator = o; amount = share_in_task representatives shares o }) (filter (λ o. ltb 0 (share_in_task representatives shares o)) (range_with_len 0 n))) where
  pub next_listed : 0 < share_in_task representatives shares n →
      made ++ record { operator = n; amount = share_in_task representatives shares n } ∷ [] ≡
      map (λ o. record { operator = o; amount = share_in_task representatives shares o }) (filter (λ o. ltb 0 (share_in_task representatives shares o)) (range_with_len 0 (n + 1)))
  next_listed l =
      ap (λ (xs : List Share). xs ++ record { operator = n; amount = share_in_task representatives shares n } ∷ []) so_far
      ∙ sym (map-append (λ o. record { operator = o; amount = share_in_task representatives shares o }) (filter (λ o. ltb 0 (share_in_task representatives shares o)) (range_with_len 0 n)) (n ∷ []))
      ∙ ap (map (λ o. record { operator = o; amount = share_in_task representatives shares o }))
      ((filter_step (λ o. ltb 0 (share_in_task representatives shares o)) n (filter (λ o. ltb 0 (share_in_task representatives shares o)) (range_with_len 0 n)) refl).0 (lt-ltb 0 (share_in_task representatives shares n) l))

  pub next_none : share_in_task representatives shares n ≡ 0 →
      made ≡ map (λ o. record { operator = o; amount = share_in_task representatives shares o }) (filter (λ o. ltb 0 (share_in_task representatives shares o)) (range_with_len 0 (n + 1)))
  next_none e =
      so_far
      ∙ ap (map (λ o. record { operator = o; amount = share_in_task representatives shares o }))
      ((filter_step (λ o. ltb 0 (share_in_task representatives shares o)) n (filter (λ o. ltb 0 (share_in_task representatives shares o)) (range_with_len 0 n)) refl).1 (ap (ltb 0) e))

-- the share of an operator, read from those of the representatives
pub amount_read : (count : ℕ) (representatives : List (Option ℕ)) (shares : List Share) (amounts read : List ℕ) (n a : ℕ) → n < length representatives → All (λ r. IfSome r (λ k. k < count)) representatives →
    ((o : ℕ) → o < count → slice_index amounts o ≡ share_of shares o) → read ≡ amounts → a ≡ option_map_or (slice_index read) (slice_index_or representatives n None) 0 → a ≡ share_in_task representatives shares n
amount_read count representatives shares amounts read n a l exist each same e =
    e ∙ ap (λ (xs : List ℕ). option_map_or (slice_index xs) (slice_index_or representatives n None) 0) same ∙ go (slice_index_or representatives n None) (exist n None l)
  where
    go : (r : Option ℕ) → IfSome r (λ k. k < count) → option_map_or (slice_index amounts) r 0 ≡ option_map_or (share_of shares) r 0
    go None h = refl
    go (Some k) h = each k h
