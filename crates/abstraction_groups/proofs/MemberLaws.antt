-- The members of groups, with one operator more, and the lists of them by groups.
use Rattle.std.proofs.Common.{◌≡◌, ℕ, zero, suc, ◌+◌, ◌<◌, Bool, true, false, List, [], ◌∷◌, ◌++◌, length, map, take, get_or, cond, eqb, eq-eqb, Option, Some, None, refl, sym, ap, ◌∙◌, subst, arith, ⊎_elim}
use Rattle.std.specs.Prelude.{◌↔◌, All, Contains, fold, filter, slice_get, slice_index_or, option_and_then}
use Rattle.std.specs.List.{list_any}
use Rattle.std.specs.List.Sorted.{IsStrictlyIncreasing}
use Rattle.std.proofs.lemmas.Bool.{eqb-true, false≢true}
use Rattle.std.proofs.lemmas.List.{append-nil, map-append, take_more}
use Rattle.std.proofs.lemmas.List.Elements.{All-nil, All-head, All-tail, All-append, All-contains, filter-append}
use Rattle.std.proofs.lemmas.List.FromFn.{length-map-range_with_len, get_or-map-range_with_len}
use Rattle.std.proofs.lemmas.List.Kept.{IsStrictlyIncreasing-filter}
use Rattle.std.proofs.lemmas.List.Sums.{fold-append}
use Rattle.std.proofs.lemmas.Option.{slice_get-get_or, slice_get_within, slice_get_past, get_or_from_slice_get}
use Rattle.keyed_lists.specs.declared.lists.Keyed.{Keyed}
use Rattle.keyed_lists.specs.Lists.{items_with, lists_by}
use Rattle.fdr.specs.Tasks.{FiniteDomainTask, Operator}
use Rattle.abstraction_groups.specs.declared.change.Change.{Change}
use Rattle.abstraction_groups.specs.Changes.{same, moves, row_of, with_row, with_changes, distinct_moves}
use Rattle.abstraction_groups.specs.Collected.{AreAffecting, AreMembers, AreGrouped, changes_by_number}
use Rattle.abstraction_groups.specs.Factors.{Factors, changes_of, group_changes, group_of}
use Rattle.abstraction_groups.specs.RowLaws.{AreDistinct, same_is, same_self, found_at, found_by}
use Rattle.abstraction_groups.proofs.AffectingLaws.{operator_at, changes_at, affecting_below, moving_affects, affecting_groups}
use Rattle.abstraction_groups.proofs.GroupRows.{distinct_all}
use Rattle.abstraction_groups.proofs.PairLaws.{Contains-cons_cases, Contains-here, Contains-there}
use Rattle.abstraction_groups.proofs.TableLaws.{get_push}

-- ---- lists

-- the elements of a filtered list
filtered : (p : ℕ → Bool) (xs : List ℕ) (x : ℕ) → Contains (filter p xs) x ↔ (Contains xs x × (p x ≡ true))
filtered p [] x = (λ h. let l : h.0 < 0 = h.1 in absurd (omega arith), λ h. let l : h.0.0 < 0 = h.0.1 in absurd (omega arith))
filtered p (y ∷ ys) x = go (p y) refl (filtered p ys x)
  where
    go : (b : Bool) → p y ≡ b → Contains (filter p ys) x ↔ (Contains ys x × (p x ≡ true)) → Contains (cond b (y ∷ filter p ys) (filter p ys)) x ↔ (Contains (y ∷ ys) x × (p x ≡ true))
    go true e rest = (
      λ h.
          ⊎_elim
          (λ (q : y ≡ x). (subst (Contains (y ∷ ys)) q (Contains-here y ys), subst (λ (z : ℕ). p z ≡ true) q e))
          (λ (q : Contains (filter p ys) x). let r = rest.0 q in (Contains-there y ys x r.0, r.1))
          (Contains-cons_cases y (filter p ys) x h),
      λ h.
          ⊎_elim
          (λ (q : y ≡ x). subst (Contains (y ∷ filter p ys)) q (Contains-here y (filter p ys)))
          (λ (q : Contains ys x). Contains-there y (filter p ys) x (rest.1 (q, h.1)))
          (Contains-cons_cases y ys x h.0),
    )
    go false e rest = (
      λ h. let r = rest.0 h in (Contains-there y ys x r.0, r.1),
      λ h.
          ⊎_elim
          (λ (q : y ≡ x). absurd (false≢true (sym e ∙ subst (λ (z : ℕ). p z ≡ true) (sym q) h.1)))
          (λ (q : Contains ys x). rest.1 (q, h.1))
          (Contains-cons_cases y ys x h.0),
    )

-- entries whose key is decided by their item
keyed_items : (key : ℕ) (test : ℕ → Bool) (es : List (Keyed ℕ)) → All (λ e. eqb e.key key ≡ test e.item) es → items_with key es ≡ filter test (map (λ e. e.item) es)
keyed_items key test [] all = refl
keyed_items key test (e ∷ es) all =
    let here : eqb e.key key ≡ test e.item = All-head (λ e. eqb e.key key ≡ test e.item) e es all in
    let rest = keyed_items key test es (All-tail (λ e. eqb e.key key ≡ test e.item) e es all) in
    ap (λ (b : Bool). cond b (e.item ∷ items_with key es) (items_with key es)) here
    ∙ ap (λ (xs : List ℕ). cond (test e.item) (e.item ∷ xs) xs) rest

-- ---- rows

row_kept : (rows : List (List Change)) (cs ds : List Change) (g : ℕ) → slice_get rows g ≡ Some ds → slice_get (with_row rows cs) g ≡ Some ds
row_kept rows cs ds g e = go (list_any (same cs) rows)
  where
    kept : (xs ys : List (List Change)) (k : ℕ) → slice_get xs k ≡ Some ds → slice_get (xs ++ ys) k ≡ Some ds
    kept [] ys k q = let none = slice_get_past {X = List Change} [] k (omega arith) in absurd (cc)
    kept (x ∷ xs) ys zero q = q
    kept (x ∷ xs) ys (suc k) q = kept xs ys k q

    go : (b : Bool) → slice_get (cond b rows (rows ++ cs ∷ [])) g ≡ Some ds
    go true = e
    go false = kept rows (cs ∷ []) g e

-- each of the distinct changes moves something
abbrev AllMove : List (List Change) → Type 0
AllMove rows = (g : ℕ) (ds : List Change) → slice_get rows g ≡ Some ds → moves ds ≡ true

move_with : (rows : List (List Change)) (cs : List Change) → AllMove rows → AllMove (with_changes rows cs)
move_with rows cs all = go (moves cs) refl
  where
    row : (b : Bool) → moves cs ≡ true → AllMove (cond b rows (rows ++ cs ∷ []))
    row true m = all
    row false m = λ g ds e.
        ⊎_elim (λ (h : (g < length rows) × (slice_get rows g ≡ Some ds)). all g ds h.1) (λ (h : (g ≡ length rows) × (cs ≡ ds)). ap moves (sym h.1) ∙ m) (get_push rows cs ds g e)

    go : (b : Bool) → moves cs ≡ b → AllMove (cond b (with_row rows cs) rows)
    go true m = row (list_any (same cs) rows) m
    go false m = all

move_from : (all rows : List (List Change)) → AllMove rows → AllMove (fold with_changes rows all)
move_from [] rows have = have
move_from (cs ∷ all) rows have = move_from all (with_changes rows cs) (move_with rows cs have)

distinct_move : (all : List (List Change)) → AllMove (distinct_moves all)
distinct_move all = move_from all [] (λ g ds e. let none = slice_get_past {X = List Change} [] g (omega arith) in absurd (cc))

-- ---- the members of the first operators

module _ (task : FiniteDomainTask) (f : Factors) where
  abbrev by_number : ℕ → List Change
  by_number = changes_by_number task f

  abbrev IsKeyed : List (List Change) → Keyed ℕ → Type 0
  IsKeyed rows e = slice_get rows e.key ≡ Some (by_number e.item)

  pub members_none : AreMembers task f [] [] []
  members_none = record { changes = refl; items = refl; keys = All-nil (IsKeyed []) }

  module _ (operators : List ℕ) (o : ℕ) (rows : List (List Change)) (members : List (Keyed ℕ)) (are : AreMembers task f operators rows members) where
    rows_with_one : distinct_moves (map by_number (operators ++ o ∷ [])) ≡ with_changes rows (by_number o)
    rows_with_one =
        ap distinct_moves (map-append by_number operators (o ∷ [])) ∙ fold-append with_changes [] (map by_number operators) (by_number o ∷ [])
        ∙ ap (λ (rs : List (List Change)). with_changes rs (by_number o)) (sym are.changes)

    items_with_one : (b : Bool) → moves (by_number o) ≡ b → filter (λ p. moves (by_number p)) (operators ++ o ∷ []) ≡ map (λ e. e.item) members ++ cond b (o ∷ []) []
    items_with_one b e =
        filter-append (λ p. moves (by_number p)) operators (o ∷ []) ∙ ap (λ (xs : List ℕ). xs ++ filter (λ p. moves (by_number p)) (o ∷ [])) (sym are.items)
        ∙ ap (λ (c : Bool). map (λ e. e.item) members ++ cond c (o ∷ []) []) e

    -- an operator that moves nothing
    pub members_still : moves (by_number o) ≡ false → AreMembers task f (operators ++ o ∷ []) rows members
    members_still e =
        record {
          changes = sym (rows_with_one ∙ ap (λ (b : Bool). cond b (with_row rows (by_number o)) rows) e);
          items = sym (items_with_one false e ∙ append-nil (map (λ e. e.item) members));
          keys = are.keys;
        }

    -- and one that moves something
    pub members_more : moves (by_number o) ≡ true → (group : ℕ) → slice_get (with_row rows (by_number o)) group ≡ Some (by_number o) →
        AreMembers task f (operators ++ o ∷ []) (with_row rows (by_number o)) (members ++ record { key = group; item = o } ∷ [])
    members_more e group at =
        record {
          changes = sym (rows_with_one ∙ ap (λ (b : Bool). cond b (with_row rows (by_number o)) rows) e);
          items = map-append (λ e. e.item) members (record { key = group; item = o } ∷ []) ∙ sym (items_with_one true e);
          keys = All-append (IsKeyed (with_row rows (by_number o))) members (record { key = group; item = o } ∷ [])
              (λ k d l. row_kept rows (by_number o) (by_number (get_or members k d).item) (get_or members k d).key (are.keys k d l))
              (All-one (record { key = group; item = o }) at);
        }
      where
        All-one : (x : Keyed ℕ) → IsKeyed (with_row rows (by_number o)) x → All (IsKeyed (with_row rows (by_number o))) (x ∷ [])
        All-one x h zero d l = h
        All-one x h (suc k) d l = absurd (omega arith)

  -- ---- one operator more of a list

  module _ (operators : List ℕ) (i : ℕ) (inside : i < length operators) (rows : List (List Change)) (members : List (Keyed ℕ)) (are : AreMembers task f (take i operators) rows members) where
    abbrev operator : ℕ
    operator = get_or operators i 0

    next : take (i + 1) operators ≡ take i operators ++ operator ∷ []
    next = take_more operators i 0 inside

    pub next_still : moves (by_number operator) ≡ false → AreMembers task f (take (i + 1) operators) rows members
    next_still e = subst (λ (os : List ℕ). AreMembers task f os rows members) (sym next) (members_still (take i operators) operator rows members are e)

    pub next_moves : moves (by_number operator) ≡ true → (new : List (List Change)) → new ≡ with_row rows (by_number operator) →
        (group : ℕ) → slice_get new group ≡ Some (by_number operator) → (more : List (Keyed ℕ)) → more ≡ members ++ record { key = group; item = operator } ∷ [] →
        AreMembers task f (take (i + 1) operators) new more
    next_moves e new row group at more last =
        let there : slice_get (with_row rows (by_number operator)) group ≡ Some (by_number operator) = subst (λ (rs : List (List Change)). slice_get rs group ≡ Some (by_number operator)) row at in
        subst (λ (os : List ℕ). AreMembers task f os new more) (sym next)
        (subst (λ (rs : List (List Change)). AreMembers task f (take i operators ++ operator ∷ []) rs more) (sym row)
        (subst (AreMembers task f (take i operators ++ operator ∷ []) (with_row rows (by_number operator))) (sym last)
        (members_more (take i operators) operator rows members are e group there)))

  -- ---- the lists of all members

  module _ (operators : List ℕ) (affecting : AreAffecting task f.variables operators) (rows : List (List Change)) (members : List (Keyed ℕ)) (are : AreMembers task f operators rows members) where
    pub rows_all : rows ≡ group_changes task f
    rows_all = are.changes ∙ affecting_groups task f operators affecting

    distinct : AreDistinct rows
    distinct = subst AreDistinct (sym are.changes) (distinct_all (map by_number operators))

    pub members_keys : All (λ e. e.key < length rows) members
    members_keys k d l = slice_get_within rows (get_or members k d).key (by_number (get_or members k d).item) (are.keys k d l)

    module _ (g : ℕ) (inside : g < length rows) where
      abbrev row : List Change
      row = get_or rows g []

      row_at : slice_get rows g ≡ Some row
      row_at = slice_get-get_or rows g [] inside

      abbrev has_row : ℕ → Bool
      has_row o = same (by_number o) row

      decided : All (λ e. eqb e.key g ≡ has_row e.item) members
      decided k d l = go (eqb (get_or members k d).key g) refl (has_row (get_or members k d).item) refl
        where
          go : (b : Bool) → eqb (get_or members k d).key g ≡ b → (c : Bool) → has_row (get_or members k d).item ≡ c → b ≡ c
          go true p true q = refl
          go true p false q =
              let e : Keyed ℕ = get_or members k d in
              let key : e.key ≡ g = eqb-true e.key g p in
              let at = are.keys k d l in
              let there : slice_get rows e.key ≡ Some row = ap (slice_get rows) key ∙ row_at in
              let is : by_number e.item ≡ row = cc in
              absurd (false≢true (sym q ∙ ap (λ (cs : List Change). same cs row) is ∙ same_self row))
          go false p true q =
              let e : Keyed ℕ = get_or members k d in
              let is : by_number e.item ≡ row = same_is (by_number e.item) row q in
              let key : e.key ≡ g = distinct e.key g row (are.keys k d l ∙ ap Some is) row_at in
              absurd (false≢true (sym p ∙ eq-eqb e.key g key))
          go false p false q = refl

      abbrev does_move : ℕ → Bool
      does_move o = moves (by_number o)

      group_items : items_with g members ≡ filter has_row (filter does_move operators)
      group_items = keyed_items g has_row members decided ∙ ap (filter has_row) are.items

      group_increasing : IsStrictlyIncreasing (items_with g members)
      group_increasing = subst IsStrictlyIncreasing (sym group_items) (IsStrictlyIncreasing-filter has_row (filter does_move operators) (IsStrictlyIncreasing-filter does_move operators affecting.increasing))

      in_group : (o : ℕ) → Contains (items_with g members) o → group_of task f o ≡ Some g
      in_group o h =
          let one = (filtered has_row (filter does_move operators) o).0 (subst (λ (xs : List ℕ). Contains xs o) group_items h) in
          let two = (filtered does_move operators o).0 one.0 in
          let below = All-contains (λ o. o < length task.operators) operators o (affecting_below task f operators affecting) two.0 in
          let at = operator_at task o below in
          let is : changes_of f at.0 ≡ row = sym (changes_at task f o at.0 at.1) ∙ same_is (by_number o) row one.1 in
          let found : row_of rows (changes_of f at.0) ≡ Some g = found_by rows (changes_of f at.0) g distinct (row_at ∙ ap Some (sym is)) in
          ap (option_and_then (λ op. row_of (group_changes task f) (changes_of f op))) at.1 ∙ ap (λ (rs : List (List Change)). row_of rs (changes_of f at.0)) (sym rows_all) ∙ found

      of_group : (o : ℕ) → group_of task f o ≡ Some g → Contains (items_with g members) o
      of_group o e = go (slice_get task.operators o) refl e
        where
          go : (r : Option Operator) → slice_get task.operators o ≡ r → option_and_then (λ op. row_of (group_changes task f) (changes_of f op)) r ≡ Some g → Contains (items_with g members) o
          go None at h = absurd (cc)
          go (Some op) at h =
              let all : slice_get (group_changes task f) g ≡ Some (changes_of f op) = found_at (group_changes task f) (changes_of f op) g h in
              let mine : slice_get rows g ≡ Some (changes_of f op) = ap (λ (rs : List (List Change)). slice_get rs g) rows_all ∙ all in
              let is : changes_of f op ≡ row = sym (get_or_from_slice_get rows g (changes_of f op) [] mine) in
              let number = changes_at task f o op at in
              let moving : moves (changes_of f op) ≡ true = distinct_move (map (changes_of f) task.operators) g (changes_of f op) all in
              let listed = moving_affects task f operators affecting o op at moving in
              let alike : has_row o ≡ true = ap (λ (cs : List Change). same cs row) (number ∙ is) ∙ same_self row in
              subst (λ (xs : List ℕ). Contains xs o) (sym group_items)
              ((filtered has_row (filter does_move operators) o).1 ((filtered does_move operators o).1 (listed, ap moves number ∙ moving), alike))

    pub members_grouped : AreGrouped task f (lists_by (length rows) members)
    members_grouped =
        record {
          as_long = length-map-range_with_len (λ key. items_with key members) 0 (length rows) ∙ ap length rows_all;
          increasing = λ g l. subst IsStrictlyIncreasing (sym (at g (within g l))) (group_increasing g (within g l));
          operators = λ g o l. subst (λ (xs : List ℕ). Contains xs o ↔ (group_of task f o ≡ Some g)) (sym (at g (within g l))) (in_group g (within g l) o, of_group g (within g l) o);
        }
      where
        within : (g : ℕ) → g < length (lists_by (length rows) members) → g < length rows
        within g l = let long = length-map-range_with_len (λ key. items_with key members) 0 (length rows) in omega arith

        at : (g : ℕ) → g < length rows → slice_index_or (lists_by (length rows) members) g [] ≡ items_with g members
        at g l = get_or-map-range_with_len (λ key. items_with key members) 0 (length rows) g g [] l (omega arith)
