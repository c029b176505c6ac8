-- The entries of buckets after one bucket was changed.
use Rattle.std.specs.Prelude.{IsPermutation, Vec}
use Rattle.std.proofs.Common.{◌≡◌, ℕ, zero, suc, ◌+◌, ◌<◌, List, [], ◌∷◌, ◌++◌, length, get_or, set, take, refl, sym, ap, ◌∙◌, subst, arith}
use Rattle.std.proofs.lemmas.List.Sorted.{IsPermutation-refl, IsPermutation-sym, IsPermutation-trans, IsPermutation-cons, IsPermutation-append_left, IsPermutation-append_right, IsPermutation-middle, IsPermutation-to_front, IsPermutation-swap_remove}
use Rattle.std.proofs.lemmas.List.{take_more}
use Rattle.std.specs.List.{swap_remove}
use Rattle.pdb.specs.declared.queue.Entry.{Entry}
use Rattle.pdb.specs.Queues.{entries_of}

-- the buckets without the one at an index
others : {Y : Type 0} → ℕ → List (Vec Entry Y) → List (Vec Entry Y)
others k [] = []
others zero (b ∷ bs) = bs
others (suc k) (b ∷ bs) = b ∷ others k bs

to_front : {X : Type 0} (xs ys zs : List X) → IsPermutation (xs ++ (ys ++ zs)) (ys ++ (xs ++ zs))
to_front [] ys zs = IsPermutation-refl (ys ++ zs)
to_front (x ∷ xs) ys zs =
    IsPermutation-trans (x ∷ (xs ++ (ys ++ zs))) (x ∷ (ys ++ (xs ++ zs))) (ys ++ x ∷ (xs ++ zs))
    (IsPermutation-cons x (xs ++ (ys ++ zs)) (ys ++ (xs ++ zs)) (to_front xs ys zs))
    (IsPermutation-sym (ys ++ x ∷ (xs ++ zs)) (x ∷ (ys ++ (xs ++ zs))) (IsPermutation-middle ys x (xs ++ zs)))

-- the entries of one bucket, and then those of the others
split : {Y : Type 0} (buckets : List (Vec Entry Y)) (k : ℕ) (d : Vec Entry Y) → k < length buckets →
    IsPermutation (entries_of buckets) ((get_or buckets k d).items ++ entries_of (others k buckets))
unfolding others
split [] k d l = absurd (omega arith)
split (b ∷ bs) zero d l = IsPermutation-refl (b.items ++ entries_of bs)
split (b ∷ bs) (suc k) d l =
    let found = (get_or bs k d).items in
    IsPermutation-trans (b.items ++ entries_of bs) (b.items ++ (found ++ entries_of (others k bs))) (found ++ (b.items ++ entries_of (others k bs)))
    (IsPermutation-append_right b.items (entries_of bs) (found ++ entries_of (others k bs)) (split bs k d (omega arith)))
    (to_front b.items found (entries_of (others k bs)))

split-set : {Y : Type 0} (buckets : List (Vec Entry Y)) (k : ℕ) (new : Vec Entry Y) → k < length buckets →
    IsPermutation (entries_of (set buckets k new)) (new.items ++ entries_of (others k buckets))
unfolding others
split-set [] k new l = absurd (omega arith)
split-set (b ∷ bs) zero new l = IsPermutation-refl (new.items ++ entries_of bs)
split-set (b ∷ bs) (suc k) new l =
    IsPermutation-trans (b.items ++ entries_of (set bs k new)) (b.items ++ (new.items ++ entries_of (others k bs))) (new.items ++ (b.items ++ entries_of (others k bs)))
    (IsPermutation-append_right b.items (entries_of (set bs k new)) (new.items ++ entries_of (others k bs)) (split-set bs k new (omega arith)))
    (to_front b.items new.items (entries_of (others k bs)))

-- an entry moves from the end of a front part to the front
to_head : (xs ys : List Entry) (x : Entry) → IsPermutation ((xs ++ x ∷ []) ++ ys) (x ∷ (xs ++ ys))
to_head xs ys x = IsPermutation-append_left ys (xs ++ x ∷ []) (x ∷ xs) (IsPermutation-to_front xs x)

module _ {Y : Type 0} (buckets : List (Vec Entry Y)) (k : ℕ) (d new : Vec Entry Y) (inside : k < length buckets) where
  content : List Entry
  content = (get_or buckets k d).items

  rest : List Entry
  rest = entries_of (others k buckets)

  before : IsPermutation (entries_of buckets) (content ++ rest)
  unfolding content rest
  before = split buckets k d inside

  after : IsPermutation (entries_of (set buckets k new)) (new.items ++ rest)
  unfolding rest
  after = split-set buckets k new inside

  -- one entry more in a bucket
  pub entries_of-put : (x : Entry) → new.items ≡ (get_or buckets k d).items ++ x ∷ [] → IsPermutation (x ∷ entries_of buckets) (entries_of (set buckets k new))
  unfolding content
  entries_of-put x e =
      let moved : IsPermutation (new.items ++ rest) (x ∷ (content ++ rest)) =
      subst (λ (xs : List Entry). IsPermutation (xs ++ rest) (x ∷ (content ++ rest))) (sym e) (to_head content rest x) in
      IsPermutation-trans (x ∷ entries_of buckets) (x ∷ (content ++ rest)) (entries_of (set buckets k new))
      (IsPermutation-cons x (entries_of buckets) (content ++ rest) before)
      (IsPermutation-sym (entries_of (set buckets k new)) (x ∷ (content ++ rest))
      (IsPermutation-trans (entries_of (set buckets k new)) (new.items ++ rest) (x ∷ (content ++ rest)) after moved))

  -- one entry less in a bucket
  less : (x : Entry) → (get_or buckets k d).items ≡ new.items ++ x ∷ [] → IsPermutation (entries_of buckets) (x ∷ entries_of (set buckets k new))
  unfolding content
  less x e =
      let moved : IsPermutation (content ++ rest) (x ∷ (new.items ++ rest)) =
      subst (λ (xs : List Entry). IsPermutation (xs ++ rest) (x ∷ (new.items ++ rest))) (sym e) (to_head new.items rest x) in
      IsPermutation-trans (entries_of buckets) (content ++ rest) (x ∷ entries_of (set buckets k new)) before
      (IsPermutation-trans (content ++ rest) (x ∷ (new.items ++ rest)) (x ∷ entries_of (set buckets k new)) moved
      (IsPermutation-cons x (new.items ++ rest) (entries_of (set buckets k new)) (IsPermutation-sym (entries_of (set buckets k new)) (new.items ++ rest) after)))

  -- a bucket is emptied
  emptied : new.items ≡ [] → IsPermutation (entries_of buckets) ((get_or buckets k d).items ++ entries_of (set buckets k new))
  unfolding content
  emptied e =
      let alone : IsPermutation (entries_of (set buckets k new)) rest = subst (λ (xs : List Entry). IsPermutation (entries_of (set buckets k new)) (xs ++ rest)) e after in
      IsPermutation-trans (entries_of buckets) (content ++ rest) (content ++ entries_of (set buckets k new)) before
      (IsPermutation-append_right content rest (entries_of (set buckets k new)) (IsPermutation-sym (entries_of (set buckets k new)) rest alone))

pub entries_of-pop : {Y : Type 0} (buckets : List (Vec Entry Y)) (k : ℕ) (old new : Vec Entry Y) → k < length buckets → old ≡ get_or buckets k old → (x : Entry) → old.items ≡ new.items ++ x ∷ [] →
    IsPermutation (entries_of buckets) (x ∷ entries_of (set buckets k new))
entries_of-pop {Y = Y} buckets k old new inside is x e = less buckets k old new inside x (ap (λ (v : Vec Entry Y). v.items) (sym is) ∙ e)

-- buckets without entries have none together
pub entries_of-empty : {Y : Type 0} (buckets : List (Vec Entry Y)) → ((k : ℕ) (d : Vec Entry Y) → k < length buckets → (get_or buckets k d).items ≡ []) → entries_of buckets ≡ []
entries_of-empty [] empty = refl
entries_of-empty (b ∷ bs) empty =
    let first : b.items ≡ [] = empty 0 b (omega arith) in
    let later : entries_of bs ≡ [] = entries_of-empty bs (λ k d l. empty (suc k) d (omega arith)) in
    rw (first, later) refl

-- one more bucket, without entries
pub entries_of-more : {Y : Type 0} (buckets : List (Vec Entry Y)) (b : Vec Entry Y) → b.items ≡ [] → entries_of (buckets ++ b ∷ []) ≡ entries_of buckets
entries_of-more [] b empty = rw empty refl
entries_of-more (a ∷ bs) b empty = ap (λ (es : List Entry). a.items ++ es) (entries_of-more bs b empty)

-- a bucket that has the same entries
pub entries_of-same : {Y : Type 0} (buckets : List (Vec Entry Y)) (k : ℕ) (old new : Vec Entry Y) → old ≡ get_or buckets k old → new.items ≡ old.items → entries_of (set buckets k new) ≡ entries_of buckets
entries_of-same [] k old new is same = refl
entries_of-same {Y = Y} (b ∷ bs) zero old new is same =
    let e : new.items ≡ b.items = same ∙ ap (λ (v : Vec Entry Y). v.items) is in
    ap (λ (es : List Entry). es ++ entries_of bs) e
entries_of-same (b ∷ bs) (suc k) old new is same = ap (λ (es : List Entry). b.items ++ es) (entries_of-same bs k old new is same)

-- one more entry of a list is put
pub put_next : (es ys zs ws : List Entry) (i : ℕ) (d : Entry) → i < length es → IsPermutation (take i es ++ ys) zs → IsPermutation (get_or es i d ∷ zs) ws → IsPermutation (take (i + 1) es ++ ys) ws
put_next es ys zs ws i d inside before put =
    let x : Entry = get_or es i d in
    subst (λ (xs : List Entry). IsPermutation (xs ++ ys) ws) (sym (take_more es i d inside))
    (IsPermutation-trans ((take i es ++ x ∷ []) ++ ys) (x ∷ (take i es ++ ys)) ws (to_head (take i es) ys x)
    (IsPermutation-trans (x ∷ (take i es ++ ys)) (x ∷ zs) ws (IsPermutation-cons x (take i es ++ ys) zs before) put))

-- a bucket is emptied, one of its entries is taken, and the others are put again
pub taken_from : {Y : Type 0} (buckets : List (Vec Entry Y)) (k : ℕ) (d moved cleared left : Vec Entry Y) (rest last : List Entry) (i : ℕ) (x : Entry) → k < length buckets →
    left ≡ cleared → cleared.items ≡ [] → moved ≡ get_or buckets k d → i < length moved.items → x ≡ get_or moved.items i x → rest ≡ swap_remove moved.items i x →
    IsPermutation (rest ++ entries_of (set buckets k left)) last → IsPermutation (entries_of buckets) (x ∷ last)
taken_from {Y = Y} buckets k d moved cleared left rest last i x inside is_cleared empty is_moved below at is_rest put =
    let mid : List Entry = entries_of (set buckets k left) in
    let start : IsPermutation (entries_of buckets) (moved.items ++ mid) =
    subst (λ (v : Vec Entry Y). IsPermutation (entries_of buckets) (v.items ++ mid)) (sym is_moved) (emptied buckets k d left inside (ap (λ (v : Vec Entry Y). v.items) is_cleared ∙ empty)) in
    let taken : IsPermutation moved.items (x ∷ rest) =
    subst (λ (xs : List Entry). IsPermutation moved.items (x ∷ xs)) (sym is_rest) (IsPermutation-swap_remove moved.items i x below at) in
    IsPermutation-trans (entries_of buckets) (moved.items ++ mid) (x ∷ last) start
    (IsPermutation-trans (moved.items ++ mid) (x ∷ (rest ++ mid)) (x ∷ last)
    (IsPermutation-append_left mid moved.items (x ∷ rest) taken)
    (IsPermutation-cons x (rest ++ mid) last put))
