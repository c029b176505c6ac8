-- Messages that are withdrawn from outboxes.
use Rattle.std.proofs.Common.{◌≡◌, ℕ, zero, suc, ◌+◌, ◌-◌, ◌<◌, List, [], ◌∷◌, ◌++◌, map, length, take, length-append, length-set, get_or, deque_len, All, true, false, refl, sym, ap, ◌∙◌, subst, arith}
use Rattle.std.specs.Prelude.{slice_set}
use Rattle.std.specs.Global.{Global}
use Rattle.std.specs.declared.collections.VecDeque.{VecDeque}
use Rattle.std.proofs.lemmas.List.{append-nil, map-set, take-map, length-map}
use Rattle.std.proofs.lemmas.List.Elements.{All-take}
use Rattle.owner_theory.specs.Owners.{list_at}
use Rattle.owner_theory.specs.Worlds.{is_empty}
use Rattle.owner_theory.proofs.Lists.{set_cases}
use Rattle.closed.specs.declared.message.Message.{Message}
use Rattle.closed.specs.Tables.{message_of}
use Rattle.owner_outboxes.specs.Outboxes.{boxes_of, shown, count_in_use, message_count, without_last, withdrawn}
use Rattle.owner_outboxes.proofs.Boxing.{box_of, box_at, box_set, set_box, at_new, count_set}
use Rattle.owner_outboxes.proofs.Showing.{shown_at}
use Rattle.owner_outboxes.proofs.Using.{use_of, in_use_changed, use_none, use_some, not_empty}

-- ---- the last element

take_front : {X : Type 0} (xs : List X) (x : X) → take (length xs) (xs ++ x ∷ []) ≡ xs
take_front [] x = refl
take_front (y ∷ xs) x = ap (λ l. y ∷ l) (take_front xs x)

pub without_pushed : {X : Type 0} (xs : List X) (x : X) → without_last (xs ++ x ∷ []) ≡ xs
without_pushed xs x =
    let n : length (xs ++ x ∷ []) - 1 ≡ length xs = omega (arith, length-append xs (x ∷ [])) in
    ap (λ k. take k (xs ++ x ∷ [])) n ∙ take_front xs x

-- ---- a queue of the list

pub newest_popped : {X : Type 0} (qs : List (VecDeque X Global)) (v : ℕ) (old new : VecDeque X Global) → v < length qs → old ≡ get_or qs v old
    → new.items ≡ take (deque_len old - 1) old.items
    → boxes_of (slice_set qs v new) ≡ slice_set (boxes_of qs) v (without_last (list_at (boxes_of qs) v))
newest_popped qs v old new lt at is =
    map-set box_of qs v new
    ∙ ap (slice_set (boxes_of qs) v)
    (is ∙ (ap (λ k. take (k - 1) old.items) old.ok.0 ∙ ap without_last (sym (box_at qs v old lt ∙ ap box_of (sym at)))))

pub newest_split : {X : Type 0} (qs : List (VecDeque X Global)) (v : ℕ) (old new : VecDeque X Global) (gone : List X) → v < length qs
    → old ≡ get_or qs v old → old.items ≡ new.items ++ gone
    → list_at (boxes_of qs) v ≡ list_at (boxes_of (slice_set qs v new)) v ++ gone
newest_split qs v old new gone lt at is =
    (box_at qs v old lt ∙ ap box_of (sym at)) ∙ (is ∙ ap (λ l. l ++ gone) (sym (at_new qs v new lt)))

-- ---- how many messages there are, and in how many outboxes

module _ {X : Type 0} (bs bs' : List (List X)) (v : ℕ) (lt : v < length bs) (is : bs' ≡ slice_set bs v (without_last (list_at bs v))) where
  here : list_at bs' v ≡ without_last (list_at bs v)
  here = ap (λ l. list_at l v) is ∙ box_set bs v (without_last (list_at bs v)) lt

  rest : bs' ≡ slice_set bs v (list_at bs' v)
  rest = is ∙ ap (slice_set bs v) (sym here)

  pub removed_none : list_at bs v ≡ list_at bs' v ++ [] → (count_in_use bs ≡ count_in_use bs') × (message_count bs ≡ message_count bs')
  removed_none was =
      let same : list_at bs v ≡ list_at bs' v = was ∙ append-nil (list_at bs' v) in
      let change = in_use_changed bs bs' v lt rest in
      let e = ap use_of same in
      let count = count_set bs v (list_at bs' v) lt in
      (omega (arith, change, e), omega (arith, ap message_count rest, count, ap length same))

  pub removed_count : (m : X) → list_at bs v ≡ list_at bs' v ++ m ∷ [] → message_count bs ≡ message_count bs' + 1
  removed_count m was =
      let count = count_set bs v (list_at bs' v) lt in
      omega (arith, ap message_count rest, count, ap length was, length-append (list_at bs' v) (m ∷ []))

  in_use : (m : X) → list_at bs v ≡ list_at bs' v ++ m ∷ [] → use_of (list_at bs v) ≡ 1
  in_use m was = use_some (list_at bs v) (ap is_empty was ∙ not_empty (list_at bs' v) m)

  pub removed_last : (m : X) → list_at bs v ≡ list_at bs' v ++ m ∷ [] → is_empty (list_at bs' v) ≡ true → count_in_use bs ≡ count_in_use bs' + 1
  removed_last m was none =
      let change = in_use_changed bs bs' v lt rest in
      let z = use_none (list_at bs' v) none in
      let one = in_use m was in
      omega (arith, change, z, one)

  pub removed_more : (m : X) → list_at bs v ≡ list_at bs' v ++ m ∷ [] → is_empty (list_at bs' v) ≡ false → count_in_use bs ≡ count_in_use bs'
  removed_more m was some =
      let change = in_use_changed bs bs' v lt rest in
      let o = use_some (list_at bs' v) some in
      let one = in_use m was in
      omega (arith, change, o, one)

-- ---- several messages

pub withdrawn_length : {X : Type 0} (vs : List ℕ) (bs : List (List X)) → length (withdrawn vs bs) ≡ length bs
withdrawn_length [] bs = refl
withdrawn_length (v ∷ vs) bs = length-set (withdrawn vs bs) v (without_last (list_at (withdrawn vs bs) v)) ∙ withdrawn_length vs bs

pub withdrawn_none : {X : Type 0} (vs : List ℕ) (bs : List (List X)) → length vs ≡ 0 → withdrawn vs bs ≡ bs
withdrawn_none [] bs none = refl
withdrawn_none (v ∷ vs) bs none = absurd (omega arith)

-- the last receiver's message is removed first
pub withdrawn_last : {X : Type 0} (vs : List ℕ) (t : ℕ) (bs : List (List X))
    → withdrawn (vs ++ t ∷ []) bs ≡ withdrawn vs (slice_set bs t (without_last (list_at bs t)))
withdrawn_last [] t bs = refl
withdrawn_last (v ∷ vs) t bs = ap (λ l. slice_set l v (without_last (list_at l v))) (withdrawn_last vs t bs)

set_twice : {X : Type 0} (bs : List (List X)) (v : ℕ) (a b : List X) → slice_set (slice_set bs v a) v b ≡ slice_set bs v b
set_twice [] v a b = refl
set_twice (x ∷ bs) zero a b = refl
set_twice (x ∷ bs) (suc v) a b = ap (λ l. x ∷ l) (set_twice bs v a b)

-- a message that is posted and withdrawn changes nothing
pub withdrawn_posted : {X : Type 0} (vs : List ℕ) (t : ℕ) (bs : List (List X)) (m : X) → t < length bs
    → withdrawn (vs ++ t ∷ []) (slice_set bs t (list_at bs t ++ m ∷ [])) ≡ withdrawn vs bs
withdrawn_posted vs t bs m lt =
    withdrawn_last vs t (slice_set bs t (list_at bs t ++ m ∷ []))
    ∙ ap (withdrawn vs)
    (ap (λ l. slice_set (slice_set bs t (list_at bs t ++ m ∷ [])) t (without_last l)) (box_set bs t (list_at bs t ++ m ∷ []) lt)
    ∙ (ap (slice_set (slice_set bs t (list_at bs t ++ m ∷ [])) t) (without_pushed (list_at bs t) m)
    ∙ (set_twice bs t (list_at bs t ++ m ∷ []) (list_at bs t) ∙ set_box bs t)))

-- what holds of all messages of an outbox holds of those that stay
pub withdrawn_all : {X : Type 0} (P : ℕ → X → Type 0) (vs : List ℕ) (bs : List (List X)) (to : ℕ) → All (P to) (list_at bs to)
    → All (P to) (list_at (withdrawn vs bs) to)
withdrawn_all P [] bs to h = h
withdrawn_all P (v ∷ vs) bs to h =
    let before = withdrawn_all P vs bs to h in
    set_cases (withdrawn vs bs) v (without_last (list_at (withdrawn vs bs) v)) to (All (P to))
    (λ same. All-take (P to) (length (list_at (withdrawn vs bs) v) - 1) (list_at (withdrawn vs bs) v)
    (subst (λ k. All (P to) (list_at (withdrawn vs bs) k)) same before))
    before

module _ {F : Type 0} (values : F → List ℕ) where
  shown_without : (ms : List (Message F)) → map (message_of values) (without_last ms) ≡ without_last (map (message_of values) ms)
  shown_without ms =
      sym (take-map (message_of values) (length ms - 1) ms)
      ∙ ap (λ k. take (k - 1) (map (message_of values) ms)) (sym (length-map ms (message_of values)))

  pub shown_withdrawn : (vs : List ℕ) (bs : List (List (Message F))) → shown values (withdrawn vs bs) ≡ withdrawn vs (shown values bs)
  shown_withdrawn [] bs = refl
  shown_withdrawn (v ∷ vs) bs =
      map-set (map (message_of values)) (withdrawn vs bs) v (without_last (list_at (withdrawn vs bs) v))
      ∙ (ap (slice_set (shown values (withdrawn vs bs)) v)
      (shown_without (list_at (withdrawn vs bs) v) ∙ ap without_last (sym (shown_at values (withdrawn vs bs) v)))
      ∙ ap (λ l. slice_set l v (without_last (list_at l v))) (shown_withdrawn vs bs))
