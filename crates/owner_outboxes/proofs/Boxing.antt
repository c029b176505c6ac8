-- A queue of the list is an outbox.
use Rattle.std.proofs.Common.{◌≡◌, ℕ, zero, suc, ◌+◌, ◌*◌, ◌^◌, ◌<◌, ◌≤◌, List, [], ◌∷◌, ◌++◌, length, length-append, deque_len, Option, Some, None, refl, sym, ap, ◌∙◌, subst, arith, get_or, false, ◌==◌}
use Rattle.std.specs.Prelude.{slice_set, replicate, MatchOption, IfNone}
use Rattle.std.specs.Global.{Global}
use Rattle.std.specs.declared.collections.VecDeque.{VecDeque}
use Rattle.std.proofs.lemmas.Bool.{eq-eqb}
use Rattle.std.proofs.lemmas.Bool.Decides.{nat_tests}
use Rattle.std.proofs.lemmas.List.{map_push, map-set}
use Rattle.owner_theory.specs.Owners.{list_at}
use Rattle.owner_theory.specs.Worlds.{is_empty}
use Rattle.owner_outboxes.specs.Outboxes.{boxes_of, message_count}

abbrev pub box_of : {X : Type 0} → VecDeque X Global → List X
box_of q = q.items

pub box_at : {X : Type 0} (qs : List (VecDeque X Global)) (v : ℕ) (d : VecDeque X Global) → v < length qs
    → list_at (boxes_of qs) v ≡ box_of (get_or qs v d)
box_at [] v d lt = absurd (omega arith)
box_at (x ∷ qs) zero d lt = refl
box_at (x ∷ qs) (suc v) d lt = box_at qs v d (omega arith)

pub box_set : {X : Type 0} (qs : List (List X)) (v : ℕ) (q : List X) → v < length qs → list_at (slice_set qs v q) v ≡ q
box_set [] v q lt = absurd (omega arith)
box_set (x ∷ qs) zero q lt = refl
box_set (x ∷ qs) (suc v) q lt = box_set qs v q (omega arith)

pub set_box : {X : Type 0} (qs : List (List X)) (v : ℕ) → slice_set qs v (list_at qs v) ≡ qs
set_box [] v = refl
set_box (x ∷ qs) zero = refl
set_box (x ∷ qs) (suc v) = ap (λ l. x ∷ l) (set_box qs v)

pub boxes_length : {X : Type 0} (qs : List (VecDeque X Global)) → length (boxes_of qs) ≡ length qs
boxes_length [] = refl
boxes_length (x ∷ qs) = ap suc (boxes_length qs)

-- a message pushed at the end
pub pushed : {X : Type 0} (qs : List (VecDeque X Global)) (v : ℕ) (old new : VecDeque X Global) (m : X) → v < length qs
    → old ≡ get_or qs v old → new.items ≡ old.items ++ m ∷ []
    → boxes_of (slice_set qs v new) ≡ slice_set (boxes_of qs) v (list_at (boxes_of qs) v ++ m ∷ [])
pushed qs v old new m lt at is =
    map-set box_of qs v new
    ∙ ap (slice_set (boxes_of qs) v) (is ∙ ap (λ l. l ++ m ∷ []) (sym (box_at qs v old lt ∙ ap box_of (sym at))))

-- nothing pushed
pub unpushed : {X : Type 0} (qs : List (VecDeque X Global)) (v : ℕ) (old new : VecDeque X Global) → v < length qs → old ≡ get_or qs v old
    → new.items ≡ old.items → boxes_of (slice_set qs v new) ≡ boxes_of qs
unpushed qs v old new lt at is =
    map-set box_of qs v new
    ∙ (ap (slice_set (boxes_of qs) v) (is ∙ sym (box_at qs v old lt ∙ ap box_of (sym at))) ∙ set_box (boxes_of qs) v)

pub at_new : {X : Type 0} (qs : List (VecDeque X Global)) (v : ℕ) (new : VecDeque X Global) → v < length qs
    → list_at (boxes_of (slice_set qs v new)) v ≡ box_of new
at_new qs v new lt =
    ap (λ l. list_at l v) (map-set box_of qs v new)
    ∙ box_set (boxes_of qs) v (box_of new) (subst (λ n. v < n) (sym (boxes_length qs)) lt)

pub others : {X : Type 0} (qs : List (VecDeque X Global)) (v : ℕ) (new : VecDeque X Global) → v < length qs
    → boxes_of (slice_set qs v new) ≡ slice_set (boxes_of qs) v (list_at (boxes_of (slice_set qs v new)) v)
others qs v new lt = map-set box_of qs v new ∙ ap (slice_set (boxes_of qs) v) (sym (at_new qs v new lt))

pub popped : {X : Type 0} (qs : List (VecDeque X Global)) (v : ℕ) (old new : VecDeque X Global) (gone : List X) → v < length qs
    → old ≡ get_or qs v old → old.items ≡ gone ++ new.items
    → list_at (boxes_of qs) v ≡ gone ++ list_at (boxes_of (slice_set qs v new)) v
popped qs v old new gone lt at is =
    (box_at qs v old lt ∙ ap box_of (sym at)) ∙ (is ∙ ap (λ l. gone ++ l) (sym (at_new qs v new lt)))

-- ---- how many messages there are

-- where one outbox changes, the number changes as that of its messages does
pub count_set : {X : Type 0} (bs : List (List X)) (v : ℕ) (b : List X) → v < length bs
    → message_count (slice_set bs v b) + length (list_at bs v) ≡ message_count bs + length b
count_set [] v b lt = absurd (omega arith)
count_set (x ∷ bs) zero b lt = omega arith
count_set (x ∷ bs) (suc v) b lt = omega (arith, count_set bs v b (omega arith))

pub count_posted : {X : Type 0} (bs bs' : List (List X)) (v : ℕ) (m : X) → v < length bs
    → bs' ≡ slice_set bs v (list_at bs v ++ m ∷ []) → message_count bs' ≡ message_count bs + 1
count_posted bs bs' v m lt is =
    let change = count_set bs v (list_at bs v ++ m ∷ []) lt in
    omega (arith, ap message_count is, change, length-append (list_at bs v) (m ∷ []))

pub count_taken : {X : Type 0} (bs bs' : List (List X)) (v : ℕ) (m : X) → v < length bs
    → list_at bs v ≡ m ∷ list_at bs' v → bs' ≡ slice_set bs v (list_at bs' v) → message_count bs ≡ message_count bs' + 1
count_taken bs bs' v m lt was is =
    let change = count_set bs v (list_at bs' v) lt in omega (arith, ap message_count is, change, ap length was)

pub count_same : {X : Type 0} (bs bs' : List (List X)) (v : ℕ) → v < length bs
    → list_at bs v ≡ list_at bs' v → bs' ≡ slice_set bs v (list_at bs' v) → message_count bs ≡ message_count bs'
count_same bs bs' v lt was is =
    let change = count_set bs v (list_at bs' v) lt in omega (arith, ap message_count is, change, ap length was)

pub none_counted : (X : Type 0) (n : ℕ) → message_count (replicate {A = List X} n []) ≡ 0
none_counted X zero = refl
none_counted X (suc n) = omega (arith, none_counted X n)

-- queues are short and few enough for the number of their messages to be counted
pub count_small : {X : Type 0} (qs : List (VecDeque X Global)) → length qs < 2 ^ 63 → message_count (boxes_of qs) < 2 ^ 128
count_small {X = X} qs few = let most = go qs in omega (arith, most, few)
  where
    go : (qs : List (VecDeque X Global)) → message_count (boxes_of qs) ≤ length qs * 2 ^ 63
    go [] = omega arith
    go (q ∷ qs) = omega (arith, go qs, q.ok.0, q.small.0, q.small.1)

-- one more empty queue
more : {X : Type 0} (n : ℕ) → replicate n [] ++ [] ∷ [] ≡ replicate {A = List X} (n + 1) []
more zero = refl
more (suc n) = let e : suc n + 1 ≡ suc (n + 1) = omega arith in ap (λ l. [] ∷ l) (more n) ∙ ap (λ k. replicate k []) (sym e)

pub boxes_more : {X : Type 0} (qs : List (VecDeque X Global)) (qs' : List (VecDeque X Global)) (q : VecDeque X Global) (n : ℕ)
    → qs' ≡ qs ++ q ∷ [] → q.items ≡ [] → boxes_of qs ≡ replicate n [] → boxes_of qs' ≡ replicate (n + 1) []
boxes_more qs qs' q n pushed none is =
    ap boxes_of pushed
    ∙ (map_push box_of qs q ∙ ((λ j. is j ++ none j ∷ []) ∙ more n))

no_items : {X : Type 0} (xs : List X) (n : ℕ) → n ≡ length xs → n ≡ 0 → xs ≡ []
no_items [] n e zero_is = refl
no_items (x ∷ xs) n e zero_is = absurd (omega (arith, e, zero_is))

-- nothing popped
pub none_popped : {X : Type 0} (r : Option X) (qs : List (VecDeque X Global)) (v : ℕ) (old : VecDeque X Global) (Emptied : Type 0) (Rest : X → Type 0)
    → v < length qs → old ≡ get_or qs v old → MatchOption r ((deque_len old ≡ 0) × Emptied) Rest → IfNone r (list_at (boxes_of qs) v ≡ [])
none_popped None qs v old Emptied Rest lt at is =
    box_at qs v old lt ∙ (ap box_of (sym at) ∙ no_items old.items old.len old.ok.0 is.0)
none_popped (Some m) qs v old Emptied Rest lt at is = tt

pub not_zero : (n k : ℕ) → n ≡ suc k → (n == 0) ≡ false
not_zero n k e = grind (arith, nat_tests)

-- a queue of no message is an empty outbox
pub box_empty : {X : Type 0} (q : VecDeque X Global) → (deque_len q == 0) ≡ is_empty (box_of q)
box_empty {X = X} q = go q.items q.len (sym q.ok.0)
  where
    go : (xs : List X) (n : ℕ) → length xs ≡ n → (n == 0) ≡ is_empty xs
    go [] n e = eq-eqb n 0 (sym e)
    go (x ∷ xs) n e = not_zero n (length xs) (sym e)

pub emptied : {X : Type 0} (qs : List (VecDeque X Global)) (v : ℕ) (q : VecDeque X Global) → v < length qs → q ≡ get_or qs v q
    → is_empty (list_at (boxes_of qs) v) ≡ (deque_len q == 0)
emptied qs v q lt at = ap is_empty (box_at qs v q lt ∙ ap box_of (sym at)) ∙ sym (box_empty q)
