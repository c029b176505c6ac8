-- Tables of changes: the chain of a bucket, and one row more.
use Rattle.std.proofs.Common.{◌≡◌, ℕ, zero, suc, ◌+◌, ◌-◌, ◌<◌, ◌≤◌, Bool, true, false, List, [], ◌∷◌, ◌++◌, length, get_or, set, refl, sym, ap, ◌∙◌, subst, arith, Some, inl, inr, ⊎_elim}
use Rattle.std.specs.Prelude.{◌⊎◌, ◌||◌, ◌&&◌, slice_get, slice_index}
use Rattle.std.specs.List.{list_any}
use Rattle.std.proofs.lemmas.Bool.{cases_eq, cases_lt, and_from}
use Rattle.std.proofs.lemmas.List.{length-append, get_or_append_left, get_or-set_same, get_or-set_other, length-set}
use Rattle.std.proofs.Math.Seq.{get_or-append_seam}
use Rattle.std.proofs.lemmas.Option.{slice_get_past}
use Rattle.abstraction_groups.specs.declared.change.Change.{Change}
use Rattle.abstraction_groups.specs.Changes.{same_at, same, with_row}
use Rattle.abstraction_groups.specs.RowLaws.{AreDistinct, same_is, stands}
use Rattle.abstraction_groups.specs.Tables.{bucket_of, Reaches, here, there, AreChained}

-- ---- the test of sameness

pub same_by : (xs ys : List Change) → length xs ≡ length ys → ((k : ℕ) (d e : Change) → k < length xs → same_at (get_or xs k d) (get_or ys k e) ≡ true) → same xs ys ≡ true
same_by [] [] long all = refl
same_by [] (y ∷ ys) long all = absurd (omega arith)
same_by (x ∷ xs) [] long all = absurd (omega arith)
same_by (x ∷ xs) (y ∷ ys) long all = and_from (same_at x y) (same xs ys) (all 0 x y (omega arith)) (same_by xs ys (omega arith) (λ k d e l. all (suc k) d e (omega arith)))

pub differ_at : (xs ys : List Change) (k : ℕ) (d e : Change) → k < length xs → k < length ys → same_at (get_or xs k d) (get_or ys k e) ≡ false → same xs ys ≡ false
differ_at [] ys k d e l m h = absurd (omega arith)
differ_at (x ∷ xs) [] k d e l m h = absurd (omega arith)
differ_at (x ∷ xs) (y ∷ ys) zero d e l m h = rw h refl
differ_at (x ∷ xs) (y ∷ ys) (suc k) d e l m h = go (same_at x y) (differ_at xs ys k d e (omega arith) (omega arith) h)
  where
    go : (b : Bool) → same xs ys ≡ false → (b && same xs ys) ≡ false
    go true q = q
    go false q = refl

pub differ_long : (xs ys : List Change) → (length xs ≡ length ys → ⊥) → same xs ys ≡ false
differ_long xs ys ne = go (same xs ys) refl
  where
    go : (b : Bool) → same xs ys ≡ b → b ≡ false
    go true e = absurd (ne (ap length (same_is xs ys e)))
    go false e = refl

-- ---- the chain of a bucket

pub chain_end : (links : List ℕ) (link g : ℕ) → link ≡ 0 → Reaches links link g → ⊥
chain_end links link g e (here l h q) = omega arith
chain_end links link g e (there l n h q r) = omega arith

pub chain_next : (links : List ℕ) (link g : ℕ) → Reaches links link g → (link ≡ g + 1) ⊎ Reaches links (slice_index links (link - 1)) g
chain_next links link g (here l h q) = inl q
chain_next links link g (there l n h q r) = inr (let is : n ≡ link - 1 = omega arith in subst (λ (m : ℕ). Reaches links (slice_index links m) g) is r)

module _ (links : List ℕ) (x : ℕ) (low : (n : ℕ) → n < length links → slice_index links n ≤ n) where
  chain_kept : (link g : ℕ) → Reaches links link g → link ≤ length links → Reaches (links ++ x ∷ []) link g
  chain_kept link g (here l h q) short = here link g q
  chain_kept link g (there l n h q r) short =
      let inside : n < length links = omega arith in
      let less = low n inside in
      let same : get_or (links ++ x ∷ []) n 0 ≡ get_or links n 0 = get_or_append_left links (x ∷ []) 0 n inside in
      there link n g q (subst (λ (m : ℕ). Reaches (links ++ x ∷ []) m g) (sym same) (chain_kept (slice_index links n) g r (omega arith)))

-- ---- one row more

pub absent_any : (rows : List (List Change)) (cs : List Change) → ((g : ℕ) → slice_get rows g ≡ Some cs → ⊥) → list_any (same cs) rows ≡ false
absent_any [] cs none = refl
absent_any (r ∷ rows) cs none = go (same cs r) refl (absent_any rows cs (λ g e. none (suc g) e))
  where
    go : (b : Bool) → same cs r ≡ b → list_any (same cs) rows ≡ false → (b || list_any (same cs) rows) ≡ false
    go true e rest = absurd (none 0 (ap Some (sym (same_is cs r e))))
    go false e rest = rest

pub row_stays : (rows : List (List Change)) (cs : List Change) (g : ℕ) → slice_get rows g ≡ Some cs → with_row rows cs ≡ rows
row_stays rows cs g e = rw (stands rows cs g e) refl

pub row_added : (rows : List (List Change)) (cs : List Change) → ((g : ℕ) → slice_get rows g ≡ Some cs → ⊥) → with_row rows cs ≡ rows ++ cs ∷ []
row_added rows cs none = rw (absent_any rows cs none) refl

pub get_push : {X : Type 0} (xs : List X) (x y : X) (g : ℕ) → slice_get (xs ++ x ∷ []) g ≡ Some y → ((g < length xs) × (slice_get xs g ≡ Some y)) ⊎ ((g ≡ length xs) × (x ≡ y))
get_push [] x y zero e = inr (refl, cc)
get_push {X = X} [] x y (suc g) e = let none = slice_get_past {X = X} [] g (omega arith) in absurd (cc)
get_push (z ∷ xs) x y zero e = inl (omega arith, e)
get_push (z ∷ xs) x y (suc g) e =
    ⊎_elim (λ (h : (g < length xs) × (slice_get xs g ≡ Some y)). inl (let l = h.0 in omega arith, h.1)) (λ (h : (g ≡ length xs) × (x ≡ y)). inr (let q = h.0 in omega arith, h.1)) (get_push xs x y g e)

pub get_pushed : {X : Type 0} (xs : List X) (x : X) → slice_get (xs ++ x ∷ []) (length xs) ≡ Some x
get_pushed [] x = refl
get_pushed (z ∷ xs) x = get_pushed xs x

pub distinct_push : (rows : List (List Change)) (cs : List Change) → AreDistinct rows → ((g : ℕ) → slice_get rows g ≡ Some cs → ⊥) → AreDistinct (rows ++ cs ∷ [])
distinct_push rows cs distinct none g h ds e q =
    ⊎_elim
    (λ (x : (g < length rows) × (slice_get rows g ≡ Some ds)).
    ⊎_elim
    (λ (y : (h < length rows) × (slice_get rows h ≡ Some ds)). distinct g h ds x.1 y.1)
    (λ (y : (h ≡ length rows) × (cs ≡ ds)). absurd (none g (x.1 ∙ ap Some (sym y.1))))
    (get_push rows cs ds h q))
    (λ (x : (g ≡ length rows) × (cs ≡ ds)).
    ⊎_elim
    (λ (y : (h < length rows) × (slice_get rows h ≡ Some ds)). absurd (none h (y.1 ∙ ap Some (sym x.1))))
    (λ (y : (h ≡ length rows) × (cs ≡ ds)). x.0 ∙ sym y.0)
    (get_push rows cs ds h q))
    (get_push rows cs ds g e)

module _ (rows : List (List Change)) (heads links : List ℕ) (chained : AreChained rows heads links) (cs : List Change) (none : (g : ℕ) → slice_get rows g ≡ Some cs → ⊥)
    (b : ℕ) (is : b ≡ bucket_of (length heads) cs) (below : b < length heads) where
  abbrev n : ℕ
  n = length rows

  abbrev links_more : List ℕ
  links_more = links ++ slice_index heads b ∷ []

  abbrev heads_more : List ℕ
  heads_more = set heads b (n + 1)

  low : (m : ℕ) → m < length links → slice_index links m ≤ m
  low m l = let long = chained.as_long in chained.links_below m (omega arith)

  last_link : get_or links_more n 0 ≡ slice_index heads b
  last_link = ap (λ (m : ℕ). get_or links_more m 0) (sym chained.as_long) ∙ get_or-append_seam links (slice_index heads b) [] 0

  old_reached : (g : ℕ) (ds : List Change) → slice_get rows g ≡ Some ds → Reaches links_more (slice_index heads (bucket_of (length heads) ds)) g
  old_reached g ds e =
      let most = chained.heads_below (bucket_of (length heads) ds) in
      let long = chained.as_long in
      chain_kept links (slice_index heads b) low (slice_index heads (bucket_of (length heads) ds)) g (chained.reached g ds e) (omega arith)

  reached_more : (g : ℕ) (ds : List Change) → slice_get (rows ++ cs ∷ []) g ≡ Some ds → Reaches links_more (slice_index heads_more (bucket_of (length heads) ds)) g
  reached_more g ds e = ⊎_elim old new (get_push rows cs ds g e)
    where
      new : (g ≡ length rows) × (cs ≡ ds) → Reaches links_more (slice_index heads_more (bucket_of (length heads) ds)) g
      new h =
          let same : bucket_of (length heads) ds ≡ b = ap (bucket_of (length heads)) (sym h.1) ∙ sym is in
          let at : slice_index heads_more (bucket_of (length heads) ds) ≡ n + 1 = ap (λ (m : ℕ). get_or heads_more m 0) same ∙ get_or-set_same heads b (n + 1) 0 below in
          here (slice_index heads_more (bucket_of (length heads) ds)) g (at ∙ ap (λ (m : ℕ). m + 1) (sym h.0))

      old : (g < length rows) × (slice_get rows g ≡ Some ds) → Reaches links_more (slice_index heads_more (bucket_of (length heads) ds)) g
      old h =
          ⊎_elim
          (λ (q : bucket_of (length heads) ds ≡ b).
          let at : slice_index heads_more (bucket_of (length heads) ds) ≡ n + 1 = ap (λ (m : ℕ). get_or heads_more m 0) q ∙ get_or-set_same heads b (n + 1) 0 below in
          there (slice_index heads_more (bucket_of (length heads) ds)) n g at
          (subst (λ (m : ℕ). Reaches links_more m g) (ap (slice_index heads) q ∙ sym last_link) (old_reached g ds h.1)))
          (λ (ne : bucket_of (length heads) ds ≡ b → ⊥).
          let at : slice_index heads_more (bucket_of (length heads) ds) ≡ slice_index heads (bucket_of (length heads) ds) = get_or-set_other heads b (bucket_of (length heads) ds) (n + 1) 0 ne in
          subst (λ (m : ℕ). Reaches links_more m g) (sym at) (old_reached g ds h.1))
          (cases_eq (bucket_of (length heads) ds) b)

  pub chained_more : AreChained (rows ++ cs ∷ []) heads_more links_more
  chained_more =
      let long = length-append rows (cs ∷ []) in
      let count = length-set heads b (n + 1) in
      record {
        some = omega (arith, chained.some);
        as_long = omega (arith, length-append links (slice_index heads b ∷ []), chained.as_long);
        heads_below = λ k. ⊎_elim
            (λ (q : k ≡ b). let at : get_or heads_more k 0 ≡ n + 1 = ap (λ (m : ℕ). get_or heads_more m 0) q ∙ get_or-set_same heads b (n + 1) 0 below in omega arith)
            (λ (ne : k ≡ b → ⊥). let at = get_or-set_other heads b k (n + 1) 0 ne in let most = chained.heads_below k in omega arith)
            (cases_eq k b);
        links_below = λ m l. ⊎_elim
            (λ (q : m < n). let inside : m < length links = let e = chained.as_long in omega arith in
            let same : get_or links_more m 0 ≡ get_or links m 0 = get_or_append_left links (slice_index heads b ∷ []) 0 m inside in
            let less = chained.links_below m q in omega arith)
            (λ (q : n ≤ m). let last : m ≡ n = omega arith in
            let at : get_or links_more m 0 ≡ slice_index heads b = ap (λ (k : ℕ). get_or links_more k 0) last ∙ last_link in
            let most = chained.heads_below b in omega arith)
            (cases_lt m n);
        reached = λ g ds e. subst (λ (k : ℕ). Reaches links_more (slice_index heads_more (bucket_of k ds)) g) (sym count) (reached_more g ds e);
        distinct = distinct_push rows cs chained.distinct none;
      }

pub chained_none : (heads : List ℕ) → 0 < length heads → ((b : ℕ) → slice_index heads b ≡ 0) → AreChained [] heads []
chained_none heads some zeros =
    record {
      some = some;
      as_long = refl;
      heads_below = λ b. let z = zeros b in omega arith;
      links_below = λ n l. absurd (omega arith);
      reached = λ g cs e. let none = slice_get_past {X = List Change} [] g (omega arith) in absurd (cc);
      distinct = λ g h cs e q. let none = slice_get_past {X = List Change} [] g (omega arith) in absurd (cc);
    }
