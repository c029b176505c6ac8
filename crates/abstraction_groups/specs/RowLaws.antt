-- The distinct changes of operators that move something.
use Rattle.std.proofs.Common.{◌≡◌, ℕ, zero, suc, ◌+◌, ◌<◌, Bool, true, false, List, [], ◌∷◌, ◌++◌, length, refl, sym, ap, ◌∙◌, subst, arith, cond, eqb, eq-eqb, Option, Some, None}
use Rattle.std.specs.Prelude.{◌||◌, fold, slice_get, option_map}
use Rattle.std.specs.List.{list_any}
use Rattle.std.proofs.lemmas.Bool.{eqb-true, and_parts, and_from, false≢true}
use Rattle.std.proofs.lemmas.Option.{slice_get_past, slice_get_within}
use Rattle.std.proofs.lemmas.List.Folds.{list_any-append}
use Rattle.abstraction_groups.specs.declared.change.Change.{Change}
use Rattle.abstraction_groups.specs.declared.change.Change.TheVariants.{Kept, Required, Moved, Assigned}
use Rattle.abstraction_groups.specs.Changes.{same_at, same, moves, row_of, with_row, with_changes, distinct_moves}

-- ---- the test of sameness

same_at_is : (c d : Change) → same_at c d ≡ true → c ≡ d
same_at_is Kept Kept e = refl
same_at_is Kept (Required d) e = absurd (false≢true e)
same_at_is Kept (Moved f t) e = absurd (false≢true e)
same_at_is Kept (Assigned d) e = absurd (false≢true e)
same_at_is (Required c) Kept e = absurd (false≢true e)
same_at_is (Required c) (Required d) e = ap Required (eqb-true c d e)
same_at_is (Required c) (Moved f t) e = absurd (false≢true e)
same_at_is (Required c) (Assigned d) e = absurd (false≢true e)
same_at_is (Moved a b) Kept e = absurd (false≢true e)
same_at_is (Moved a b) (Required d) e = absurd (false≢true e)
same_at_is (Moved a b) (Moved f t) e =
    let parts = and_parts (eqb a f) (eqb b t) e in ap (λ (n : ℕ). Moved n b) (eqb-true a f parts.0) ∙ ap (λ (n : ℕ). Moved f n) (eqb-true b t parts.1)
same_at_is (Moved a b) (Assigned d) e = absurd (false≢true e)
same_at_is (Assigned c) Kept e = absurd (false≢true e)
same_at_is (Assigned c) (Required d) e = absurd (false≢true e)
same_at_is (Assigned c) (Moved f t) e = absurd (false≢true e)
same_at_is (Assigned c) (Assigned d) e = ap Assigned (eqb-true c d e)

same_at_self : (c : Change) → same_at c c ≡ true
same_at_self Kept = refl
same_at_self (Required c) = eq-eqb c c refl
same_at_self (Moved f t) = and_from (eqb f f) (eqb t t) (eq-eqb f f refl) (eq-eqb t t refl)
same_at_self (Assigned c) = eq-eqb c c refl

pub same_is : (cs ds : List Change) → same cs ds ≡ true → cs ≡ ds
same_is [] [] e = refl
same_is [] (d ∷ ds) e = absurd (false≢true e)
same_is (c ∷ cs) [] e = absurd (false≢true e)
same_is (c ∷ cs) (d ∷ ds) e =
    let parts = and_parts (same_at c d) (same cs ds) e in ap (λ (x : Change). x ∷ cs) (same_at_is c d parts.0) ∙ ap (λ (xs : List Change). d ∷ xs) (same_is cs ds parts.1)

pub same_self : (cs : List Change) → same cs cs ≡ true
same_self [] = refl
same_self (c ∷ cs) = and_from (same_at c c) (same cs cs) (same_at_self c) (same_self cs)

-- ---- the index of changes

pub found_at : (rows : List (List Change)) (cs : List Change) (g : ℕ) → row_of rows cs ≡ Some g → slice_get rows g ≡ Some cs
found_at [] cs g e = absurd (cc)
found_at (r ∷ rows) cs g e = go (same cs r) refl (λ n q. found_at rows cs n q) e
  where
    later : (o : Option ℕ) → row_of rows cs ≡ o → ((n : ℕ) → row_of rows cs ≡ Some n → slice_get rows n ≡ Some cs) → option_map (λ n. n + 1) o ≡ Some g → slice_get (r ∷ rows) g ≡ Some cs
    later None q rest h = absurd (cc)
    later (Some n) q rest h =
        let next : n + 1 ≡ g = cc in
        let is : suc n ≡ g = omega arith in
        subst (λ (k : ℕ). slice_get (r ∷ rows) k ≡ Some cs) is (rest n q)

    go : (b : Bool) → same cs r ≡ b → ((n : ℕ) → row_of rows cs ≡ Some n → slice_get rows n ≡ Some cs) →
        cond b (Some 0) (option_map (λ n. n + 1) (row_of rows cs)) ≡ Some g → slice_get (r ∷ rows) g ≡ Some cs
    go true q rest h = let first : 0 ≡ g = cc in subst (λ (k : ℕ). slice_get (r ∷ rows) k ≡ Some cs) first (ap Some (sym (same_is cs r q)))
    go false q rest h = later (row_of rows cs) refl rest h

pub not_found : (rows : List (List Change)) (cs : List Change) → row_of rows cs ≡ None → list_any (same cs) rows ≡ false
not_found [] cs e = refl
not_found (r ∷ rows) cs e = go (same cs r) (λ q. not_found rows cs q) e
  where
    later : (o : Option ℕ) → row_of rows cs ≡ o → (row_of rows cs ≡ None → list_any (same cs) rows ≡ false) → option_map (λ n. n + 1) o ≡ None → list_any (same cs) rows ≡ false
    later None q rest h = rest q
    later (Some n) q rest h = absurd (cc)

    go : (b : Bool) → (row_of rows cs ≡ None → list_any (same cs) rows ≡ false) → cond b (Some 0) (option_map (λ n. n + 1) (row_of rows cs)) ≡ None →
        (b || list_any (same cs) rows) ≡ false
    go true rest h = absurd (cc)
    go false rest h = later (row_of rows cs) refl rest h

pub stands : (rows : List (List Change)) (cs : List Change) (g : ℕ) → slice_get rows g ≡ Some cs → list_any (same cs) rows ≡ true
stands [] cs g e = let none = slice_get_past {X = List Change} [] g (omega arith) in absurd (cc)
stands (r ∷ rows) cs zero e = let is : r ≡ cs = cc in rw (is, same_self cs) refl
stands (r ∷ rows) cs (suc g) e = go (same cs r) (stands rows cs g e)
  where
    go : (b : Bool) → list_any (same cs) rows ≡ true → (b || list_any (same cs) rows) ≡ true
    go true h = refl
    go false h = h

-- ---- rows with one more

any_more : (rows : List (List Change)) (cs ds : List Change) → list_any (same ds) rows ≡ true → list_any (same ds) (with_row rows cs) ≡ true
any_more rows cs ds e = go (list_any (same cs) rows)
  where
    go : (b : Bool) → list_any (same ds) (cond b rows (rows ++ cs ∷ [])) ≡ true
    go true = e
    go false = rw (list_any-append (same ds) rows (cs ∷ []), e) refl

any_there : (rows : List (List Change)) (cs : List Change) → list_any (same cs) (with_row rows cs) ≡ true
any_there rows cs = go (list_any (same cs) rows) refl
  where
    last : (b : Bool) → (b || (true || false)) ≡ true
    last true = refl
    last false = refl

    go : (b : Bool) → list_any (same cs) rows ≡ b → list_any (same cs) (cond b rows (rows ++ cs ∷ [])) ≡ true
    go true e = e
    go false e = rw (list_any-append (same cs) rows (cs ∷ []), same_self cs) (last (list_any (same cs) rows))

changes_more : (rows : List (List Change)) (cs ds : List Change) → list_any (same ds) rows ≡ true → list_any (same ds) (with_changes rows cs) ≡ true
changes_more rows cs ds e = go (moves cs)
  where
    go : (b : Bool) → list_any (same ds) (cond b (with_row rows cs) rows) ≡ true
    go true = any_more rows cs ds e
    go false = e

kept : (all rows : List (List Change)) (ds : List Change) → list_any (same ds) rows ≡ true → list_any (same ds) (fold with_changes rows all) ≡ true
kept [] rows ds e = e
kept (cs ∷ all) rows ds e = kept all (with_changes rows cs) ds (changes_more rows cs ds e)

added : (all rows : List (List Change)) (cs : List Change) (n : ℕ) → slice_get all n ≡ Some cs → moves cs ≡ true → list_any (same cs) (fold with_changes rows all) ≡ true
added [] rows cs n e m = let none = slice_get_past {X = List Change} [] n (omega arith) in absurd (cc)
added (ds ∷ all) rows cs zero e m =
    let is : ds ≡ cs = cc in
    let there : list_any (same cs) (with_changes rows cs) ≡ true = rw m (any_there rows cs) in
    kept all (with_changes rows ds) cs (subst (λ (x : List Change). list_any (same cs) (with_changes rows x) ≡ true) (sym is) there)
added (ds ∷ all) rows cs (suc n) e m = added all (with_changes rows ds) cs n e m

-- changes that move something are among the distinct ones
pub all_there : (all : List (List Change)) (cs : List Change) (n : ℕ) → slice_get all n ≡ Some cs → row_of (distinct_moves all) cs ≡ None → moves cs ≡ false
all_there all cs n at none = go (moves cs) refl
  where
    go : (b : Bool) → moves cs ≡ b → b ≡ false
    go true m = let there = added all [] cs n at m in let not = not_found (distinct_moves all) cs none in absurd (false≢true (sym not ∙ there))
    go false m = refl

-- ---- distinct rows

-- no two rows are the same
abbrev pub AreDistinct : List (List Change) → Type 0
AreDistinct rows = (g h : ℕ) (cs : List Change) → slice_get rows g ≡ Some cs → slice_get rows h ≡ Some cs → g ≡ h

pub found_by : (rows : List (List Change)) (cs : List Change) (g : ℕ) → AreDistinct rows → slice_get rows g ≡ Some cs → row_of rows cs ≡ Some g
found_by rows cs g distinct at = go (row_of rows cs) refl
  where
    go : (r : Option ℕ) → row_of rows cs ≡ r → r ≡ Some g
    go None e = let there = stands rows cs g at in let not = not_found rows cs e in absurd (false≢true (sym not ∙ there))
    go (Some h) e = ap Some (distinct h g cs (found_at rows cs h e) at)

pub row_within : (rows : List (List Change)) (cs : List Change) (g : ℕ) → row_of rows cs ≡ Some g → g < length rows
row_within rows cs g e = slice_get_within rows g cs (found_at rows cs g e)
