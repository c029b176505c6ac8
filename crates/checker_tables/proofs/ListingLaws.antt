-- The places of the tables of columns, in their order.
use Rattle.std.proofs.Common.{◌≡◌, ◌⊎◌, ℕ, zero, suc, ◌+◌, ◌<◌, ◌≤◌, List, [], ◌∷◌, ◌++◌, length, Option, Some, refl, sym, ap, ◌∙◌, arith, subst, inl, inr, ⊎_elim, le_refl}
use Rattle.std.specs.Prelude.{slice_get, option_and_then}
use Rattle.std.proofs.lemmas.Bool.{cases_lt}
use Rattle.std.proofs.lemmas.Option.{slice_get_within, slice_get_past}
use Rattle.cert_value.specs.Certificates.{Table}
use Rattle.checker_clauses.specs.Violations.{table_at}
use Rattle.checker_tables.specs.declared.places.TablePlace.{TablePlace}
use Rattle.checker_tables.specs.TablePlaces.{IsBefore, IsListing, IsListingBefore}

-- an item of a list with one more is that one, or an item of the list
pub item_pushed : {X : Type 0} (xs : List X) (x y : X) (k : ℕ) → slice_get (xs ++ x ∷ []) k ≡ Some y → (slice_get xs k ≡ Some y) ⊎ ((k ≡ length xs) × (x ≡ y))
item_pushed [] x y zero e = inr (refl, cc)
item_pushed [] x y (suc k) e = absurd (cc)
item_pushed (z ∷ xs) x y zero e = inl e
item_pushed (z ∷ xs) x y (suc k) e = ⊎_elim inl (λ h. inr (ap suc h.0, h.1)) (item_pushed xs x y k e)

-- an item stays where it is
pub item_kept : {X : Type 0} (xs ys : List X) (y : X) (k : ℕ) → slice_get xs k ≡ Some y → slice_get (xs ++ ys) k ≡ Some y
item_kept [] ys y k e = absurd (cc)
item_kept (z ∷ xs) ys y zero e = e
item_kept (z ∷ xs) ys y (suc k) e = item_kept xs ys y k e

-- one more stands behind the others
pub last_item : {X : Type 0} (xs : List X) (x : X) → slice_get (xs ++ x ∷ []) (length xs) ≡ Some x
last_item [] x = refl
last_item (z ∷ xs) x = last_item xs x

module _ (columns : List (List Table)) where
  -- no table goes before the first place
  pub none_listed : IsListingBefore columns 0 0 []
  none_listed = record {
    before = λ k p e. absurd (cc);
    ordered = λ m k p q l e f. absurd (cc);
    complete = λ p t h e. absurd (omega (arith, h.1 (omega (arith, h.0))));
  }

  module _ (i j : ℕ) (places : List TablePlace) (is : IsListingBefore columns i j places) where
    abbrev here : TablePlace
    here = record { column = i; table = j }

    -- a place before this one, or this one itself
    abbrev IsBeforeOr : TablePlace → Type 0
    IsBeforeOr p = IsBefore p i j ⊎ (here ≡ p)

    is_here : (p : TablePlace) → p.column ≡ i → p.table ≡ j → here ≡ p
    is_here p e f =
        let at : ℕ → ℕ → TablePlace = λ a b. record { column = a; table = b } in
        ap (λ (a : ℕ). at a j) (sym e) ∙ ap (λ (b : ℕ). at p.column b) (sym f)

    before_next : (p : TablePlace) → IsBefore p i (j + 1) → IsBeforeOr p
    before_next p h =
        ⊎_elim (λ l. inl (h.0, λ q. absurd (omega (arith, l, q))))
        (λ r. ⊎_elim (λ m. inl (h.0, λ q. m)) (λ m. inr (is_here p (omega (arith, r, h.0)) (omega (arith, m, h.1 (omega (arith, r, h.0)))))) (cases_lt p.table j))
        (cases_lt p.column i)

    ordered_next : (m k : ℕ) (p q : TablePlace) → m < k → (slice_get places m ≡ Some p) ⊎ ((m ≡ length places) × (here ≡ p))
        → (slice_get places k ≡ Some q) ⊎ ((k ≡ length places) × (here ≡ q)) → IsBefore p q.column q.table
    ordered_next m k p q l (inl e) (inl f) = is.ordered m k p q l e f
    ordered_next m k p q l (inr e) (inl f) = absurd (omega (arith, l, e.0, slice_get_within places k q f))
    ordered_next m k p q l (inl e) (inr f) = subst (λ (x : TablePlace). IsBefore p x.column x.table) f.1 (is.before m p e)
    ordered_next m k p q l (inr e) (inr f) = absurd (omega (arith, l, e.0, f.0))

    -- one more table of a column
    pub one_listed : IsListingBefore columns i (j + 1) (places ++ record { column = i; table = j } ∷ [])
    one_listed = record {
      before = λ k p e.
          ⊎_elim (λ h. ((is.before k p h).0, λ q. omega (arith, (is.before k p h).1 q)))
          (λ h. subst (λ (x : TablePlace). IsBefore x i (j + 1)) h.1 (le_refl i, λ _. omega arith)) (item_pushed places here p k e);
      ordered = λ m k p q l e f. ordered_next m k p q l (item_pushed places here p m e) (item_pushed places here q k f);
      complete = λ p t h e.
          ⊎_elim (λ b. let at = is.complete p t b e in (at.0, item_kept places (here ∷ []) p at.0 at.1))
          (λ q. (length places, last_item places here ∙ ap Some q)) (before_next p h);
    }

    -- the next column
    pub column_listed : (column : List Table) → slice_get columns i ≡ Some column → j ≡ length column → IsListingBefore columns (i + 1) 0 places
    column_listed column e l = record {
      before = λ k p h. (omega (arith, (is.before k p h).0), λ q. absurd (omega (arith, q, (is.before k p h).0)));
      ordered = is.ordered;
      complete = λ p t h f. is.complete p t (within p t h f) f;
    }
      where
        within : (p : TablePlace) (t : Table) → IsBefore p (i + 1) 0 → table_at columns p.column p.table ≡ Some t → IsBefore p i j
        within p t h f = (
          ⊎_elim (λ m. omega (arith, m)) (λ m. absurd (omega (arith, h.1 (omega (arith, m, h.0))))) (cases_lt p.column (i + 1)),
          λ q. rw l (slice_get_within column p.table t
              (ap (λ (r : Option (List Table)). option_and_then (λ ts. slice_get ts p.table) r) (sym e ∙ ap (λ (n : ℕ). slice_get columns n) (sym q)) ∙ f)),
        )

    -- all columns
    pub all_listed : i ≡ length columns → IsListing columns places
    all_listed l = record {
      ordered = is.ordered;
      complete = λ p t f. is.complete p t (within p t f (cases_lt p.column i)) f;
    }
      where
        within : (p : TablePlace) (t : Table) → table_at columns p.column p.table ≡ Some t → (p.column < i) ⊎ (i ≤ p.column) → IsBefore p i j
        within p t f (inl m) = (omega arith, λ q. absurd (omega (arith, m, q)))
        within p t f (inr m) =
            let none = ap (λ (r : Option (List Table)). option_and_then (λ ts. slice_get ts p.table) r) (slice_get_past columns p.column (omega (arith, m, l))) in absurd (cc)
