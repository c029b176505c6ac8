-- How many outboxes have a message.
use Rattle.std.proofs.Common.{◌≡◌, ℕ, zero, suc, ◌+◌, ◌<◌, ◌==◌, List, [], ◌∷◌, ◌++◌, true, false, not, length, refl, sym, ap, ◌∙◌, arith, cond}
use Rattle.std.specs.Prelude.{slice_set, replicate}
use Rattle.std.specs.List.{list_all}
use Rattle.std.proofs.lemmas.Bool.{eq-eqb}
use Rattle.std.proofs.lemmas.List.Sums.{sum_by-cons}
use Rattle.owner_theory.specs.Owners.{list_at}
use Rattle.owner_theory.specs.Worlds.{is_empty}
use Rattle.owner_outboxes.specs.Outboxes.{count_in_use}
use Rattle.owner_outboxes.proofs.Boxing.{box_set, not_zero}

-- 1 for an outbox that has a message
abbrev pub use_of : {X : Type 0} → List X → ℕ
use_of b = cond (not (is_empty b)) 1 0

pub one_more : {X : Type 0} (b : List X) (bs : List (List X)) → count_in_use (b ∷ bs) ≡ use_of b + count_in_use bs
one_more b bs = sum_by-cons use_of b bs

-- where one outbox changes, the number changes as its own use does
pub in_use_changed : {X : Type 0} (bs bs' : List (List X)) (v : ℕ) → v < length bs → bs' ≡ slice_set bs v (list_at bs' v)
    → count_in_use bs' + use_of (list_at bs v) ≡ count_in_use bs + use_of (list_at bs' v)
in_use_changed {X = X} bs bs' v lt is = ap (λ l. count_in_use l + use_of (list_at bs v)) is ∙ go bs v (list_at bs' v) lt
  where
    go : (bs : List (List X)) (v : ℕ) (b : List X) → v < length bs
        → count_in_use (slice_set bs v b) + use_of (list_at bs v) ≡ count_in_use bs + use_of b
    go [] v b lt = absurd (omega arith)
    go (x ∷ bs) zero b lt = omega (arith, one_more x bs, one_more b bs)
    go (x ∷ bs) (suc v) b lt = omega (arith, one_more x bs, one_more x (slice_set bs v b), go bs v b (omega arith))

pub use_none : {X : Type 0} (b : List X) → is_empty b ≡ true → use_of b ≡ 0
use_none b e = ap (λ t. cond (not t) 1 0) e

pub use_some : {X : Type 0} (b : List X) → is_empty b ≡ false → use_of b ≡ 1
use_some b e = ap (λ t. cond (not t) 1 0) e

pub not_empty : {X : Type 0} (b : List X) (m : X) → is_empty (b ++ m ∷ []) ≡ false
not_empty [] m = refl
not_empty (x ∷ b) m = refl

-- a message is put into an outbox
posted_use : {X : Type 0} (bs bs' : List (List X)) (v : ℕ) (m : X) → v < length bs → bs' ≡ slice_set bs v (list_at bs v ++ m ∷ [])
    → count_in_use bs' + use_of (list_at bs v) ≡ count_in_use bs + 1
posted_use bs bs' v m lt is =
    let new : list_at bs' v ≡ list_at bs v ++ m ∷ [] = ap (λ l. list_at l v) is ∙ box_set bs v (list_at bs v ++ m ∷ []) lt in
    let change = in_use_changed bs bs' v lt (is ∙ ap (slice_set bs v) (sym new)) in
    let one = use_some (list_at bs' v) (ap is_empty new ∙ not_empty (list_at bs v) m) in
    omega (arith, change, one)

pub posted_first : {X : Type 0} (bs bs' : List (List X)) (v : ℕ) (m : X) (n : ℕ) → v < length bs → bs' ≡ slice_set bs v (list_at bs v ++ m ∷ [])
    → n ≡ count_in_use bs → is_empty (list_at bs v) ≡ true → n + 1 ≡ count_in_use bs'
posted_first bs bs' v m n lt is was none =
    let change = posted_use bs bs' v m lt is in let zero_is = use_none (list_at bs v) none in omega (arith, change, zero_is, was)

pub posted_more : {X : Type 0} (bs bs' : List (List X)) (v : ℕ) (m : X) (n : ℕ) → v < length bs → bs' ≡ slice_set bs v (list_at bs v ++ m ∷ [])
    → n ≡ count_in_use bs → is_empty (list_at bs v) ≡ false → n ≡ count_in_use bs'
posted_more bs bs' v m n lt is was some =
    let change = posted_use bs bs' v m lt is in let one = use_some (list_at bs v) some in omega (arith, change, one, was)

-- a message is taken out of an outbox
pub taken_last : {X : Type 0} (bs bs' : List (List X)) (v : ℕ) (m : X) (n : ℕ) → v < length bs → list_at bs v ≡ m ∷ list_at bs' v
    → bs' ≡ slice_set bs v (list_at bs' v) → n ≡ count_in_use bs → is_empty (list_at bs' v) ≡ true → n ≡ count_in_use bs' + 1
taken_last bs bs' v m n lt was is counted none =
    let change = in_use_changed bs bs' v lt is in let z = use_none (list_at bs' v) none in let one = use_some (list_at bs v) (ap is_empty was) in
    omega (arith, change, z, one, counted)

pub taken_more : {X : Type 0} (bs bs' : List (List X)) (v : ℕ) (m : X) (n : ℕ) → v < length bs → list_at bs v ≡ m ∷ list_at bs' v
    → bs' ≡ slice_set bs v (list_at bs' v) → n ≡ count_in_use bs → is_empty (list_at bs' v) ≡ false → n ≡ count_in_use bs'
taken_more bs bs' v m n lt was is counted some =
    let change = in_use_changed bs bs' v lt is in let o = use_some (list_at bs' v) some in let one = use_some (list_at bs v) (ap is_empty was) in
    omega (arith, change, o, one, counted)

pub none_taken : {X : Type 0} (bs bs' : List (List X)) (v : ℕ) (n : ℕ) → v < length bs → list_at bs v ≡ list_at bs' v
    → bs' ≡ slice_set bs v (list_at bs' v) → n ≡ count_in_use bs → n ≡ count_in_use bs'
none_taken bs bs' v n lt same is counted = let change = in_use_changed bs bs' v lt is in let e = ap use_of same in omega (arith, change, e, counted)

pub none_used : (X : Type 0) (n : ℕ) → count_in_use (replicate {A = List X} n []) ≡ 0
none_used X zero = refl
none_used X (suc n) = let z = none_used X n in omega (arith, one_more {X = X} [] (replicate n []), z)

-- none is in use exactly where all are empty
pub all_empty : {X : Type 0} (bs : List (List X)) (n : ℕ) → n ≡ count_in_use bs → (n == 0) ≡ list_all is_empty bs
all_empty [] n is = eq-eqb n 0 is
all_empty ([] ∷ bs) n is = all_empty bs n (omega (arith, is, one_more [] bs))
all_empty ((m ∷ b) ∷ bs) n is = let some = one_more (m ∷ b) bs in not_zero n (count_in_use bs) (omega (arith, is, some))
