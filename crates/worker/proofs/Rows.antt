-- A row of ends, one of which does something.
use Rattle.std.proofs.Common.{◌≡◌, ℕ, zero, suc, ◌+◌, ◌<◌, ◌≤◌, List, [], ◌∷◌, ◌++◌, map, length, get_or, Option, Some, None, refl, sym, ap, ◌∙◌, subst, arith, cond, ◌⊎◌, inl, inr, ⊎_elim, true≢false}
use Rattle.std.specs.Prelude.{◌≢◌, slice_get, slice_set, IsSome, IfSome, IfNone, Result, Ok, Err, IsOk, OnOk}
use Rattle.std.proofs.lemmas.Bool.{eq-eqb, ne_eqb, cases_lt}
use Rattle.std.proofs.lemmas.Option.{slice_get_within, slice_get-get_or}
use Rattle.std.proofs.lemmas.List.{map-append, map-set, length-map, length-set, set-set, set-get_or, append_cancel_right}
use Rattle.owner_theory.specs.Owners.{Message, list_at, put}
use Rattle.closed.specs.Tables.{message_of}
use Rattle.closed.specs.declared.message.Message.{Message as MessageOf}
use Rattle.links.specs.declared.ends.Out.{Out}
use Rattle.links.specs.declared.ends.In.{In}
use Rattle.links.specs.Ends.{sent, received, known, AreEnds, SameOut, SameIn, WasTakenLast}
use Rattle.worker.specs.Matching.{IsMatchedUp}
use Rattle.worker.specs.Workers.{sent_to, received_from, known_from, AreSameOuts, AreSameIns}

same_or_not : (a b : ℕ) → (a ≡ b) ⊎ (a ≡ b → ⊥)
same_or_not a b = ⊎_elim
    (λ (p : a < b). inr (λ e. omega arith))
    (λ (p : b ≤ a). ⊎_elim (λ (q : b < a). inr (λ e. omega arith)) (λ (q : a ≤ b). let e : a ≡ b = omega arith in inl e) (cases_lt b a))
    (cases_lt a b)

-- a function with another value at one number
put_here : {X : Type 0} (f : ℕ → X) (w : ℕ) (x : X) (v : ℕ) → v ≡ w → put f w x v ≡ x
put_here f w x v e = ap (λ t. cond t x (f v)) (eq-eqb v w e)

put_there : {X : Type 0} (f : ℕ → X) (w : ℕ) (x : X) (v : ℕ) → (v ≡ w → ⊥) → put f w x v ≡ f v
put_there f w x v ne = ap (λ t. cond t x (f v)) (ne_eqb v w ne)

-- the list at each place, where one is another
set_here : (qs : List (List Message)) (k : ℕ) (q : List Message) → k < length qs → list_at (slice_set qs k q) k ≡ q
set_here [] k q lt = absurd (omega arith)
set_here (x ∷ qs) zero q lt = refl
set_here (x ∷ qs) (suc k) q lt = set_here qs k q (omega arith)

set_elsewhere : (qs : List (List Message)) (k : ℕ) (q : List Message) (v : ℕ) → (v ≡ k → ⊥) → list_at (slice_set qs k q) v ≡ list_at qs v
set_elsewhere [] k q v ne = refl
set_elsewhere (x ∷ qs) zero q zero ne = absurd (ne refl)
set_elsewhere (x ∷ qs) zero q (suc v) ne = refl
set_elsewhere (x ∷ qs) (suc k) q zero ne = refl
set_elsewhere (x ∷ qs) (suc k) q (suc v) ne = set_elsewhere qs k q v (λ e. ne (ap suc e))

pub list_set : (qs : List (List Message)) (k : ℕ) (q : List Message) (v : ℕ) → k < length qs → list_at (slice_set qs k q) v ≡ put (list_at qs) k q v
list_set qs k q v lt = ⊎_elim
    (λ (e : v ≡ k). ap (list_at (slice_set qs k q)) e ∙ (set_here qs k q lt ∙ sym (put_here (list_at qs) k q v e)))
    (λ (ne : v ≡ k → ⊥). set_elsewhere qs k q v ne ∙ sym (put_there (list_at qs) k q v ne))
    (same_or_not v k)

pub list_same : (qs : List (List Message)) (k v : ℕ) → put (list_at qs) k (list_at qs k) v ≡ list_at qs v
list_same qs k v = ⊎_elim
    (λ (e : v ≡ k). put_here (list_at qs) k (list_at qs k) v e ∙ ap (list_at qs) (sym e))
    (λ (ne : v ≡ k → ⊥). put_there (list_at qs) k (list_at qs k) v ne)
    (same_or_not v k)

pub sent_at : {F : Type 0} (values : F → List ℕ) (os : List (Out F)) (k : ℕ) (d : Out F) → k < length os → sent_to values os k ≡ map (message_of values) (sent (get_or os k d))
sent_at values [] k d lt = absurd (omega arith)
sent_at values (o ∷ os) zero d lt = refl
sent_at values (o ∷ os) (suc k) d lt = sent_at values os k d (omega arith)

pub received_at : {F : Type 0} (values : F → List ℕ) (is : List (In F)) (k : ℕ) (d : In F) → k < length is → received_from values is k ≡ map (message_of values) (received (get_or is k d))
received_at values [] k d lt = absurd (omega arith)
received_at values (i ∷ is) zero d lt = refl
received_at values (i ∷ is) (suc k) d lt = received_at values is k d (omega arith)

pub known_at : {F : Type 0} (values : F → List ℕ) (is : List (In F)) (k : ℕ) (d : In F) → k < length is → known_from values is k ≡ map (message_of values) (known (get_or is k d))
known_at values [] k d lt = absurd (omega arith)
known_at values (i ∷ is) zero d lt = refl
known_at values (i ∷ is) (suc k) d lt = known_at values is k d (omega arith)

box_out : {F : Type 0} → (F → List ℕ) → Out F → List Message
box_out values o = map (message_of values) (sent o)

box_in : {F : Type 0} → (F → List ℕ) → In F → List Message
box_in values i = map (message_of values) (received i)

-- an end that sends has sent these messages more
pub sent_changed : {F : Type 0} (values : F → List ℕ) (os : List (Out F)) (k : ℕ) (o p : Out F) (ms : List (MessageOf F)) (v : ℕ) → k < length os → o ≡ get_or os k o → sent p ≡ sent o ++ ms
    → sent_to values (slice_set os k p) v ≡ put (sent_to values os) k (sent_to values os k ++ map (message_of values) ms) v
unfolding box_out
sent_changed values os k o p ms v lt at is =
    let here : sent_to values os k ≡ map (message_of values) (sent o) = sent_at values os k o lt ∙ ap (λ (x : Out _). map (message_of values) (sent x)) (sym at) in
    let more : map (message_of values) (sent p) ≡ sent_to values os k ++ map (message_of values) ms =
    ap (map (message_of values)) is ∙ (map-append (message_of values) (sent o) ms ∙ ap (λ l. l ++ map (message_of values) ms) (sym here)) in
    ap (λ qs. list_at qs v) (map-set (box_out values) os k p)
    ∙ (list_set (map (box_out values) os) k (map (message_of values) (sent p)) v (subst (λ n. k < n) (sym (length-map os (box_out values))) lt)
    ∙ ap (λ q. put (sent_to values os) k q v) more)

pub sent_kept : {F : Type 0} (values : F → List ℕ) (os : List (Out F)) (k : ℕ) (o p : Out F) (v : ℕ) → k < length os → o ≡ get_or os k o → sent p ≡ sent o
    → sent_to values (slice_set os k p) v ≡ sent_to values os v
unfolding box_out
sent_kept values os k o p v lt at is =
    let here : sent_to values os k ≡ map (message_of values) (sent o) = sent_at values os k o lt ∙ ap (λ (x : Out _). map (message_of values) (sent x)) (sym at) in
    ap (λ qs. list_at qs v) (map-set (box_out values) os k p)
    ∙ (list_set (map (box_out values) os) k (map (message_of values) (sent p)) v (subst (λ n. k < n) (sym (length-map os (box_out values))) lt)
    ∙ (ap (λ q. put (sent_to values os) k q v) (ap (map (message_of values)) is ∙ sym here) ∙ list_same (map (box_out values) os) k v))

-- an end that takes
pub received_changed : {F : Type 0} (values : F → List ℕ) (is : List (In F)) (k : ℕ) (i j : In F) (ms : List (MessageOf F)) (v : ℕ) → k < length is → i ≡ get_or is k i
    → received j ≡ received i ++ ms → received_from values (slice_set is k j) v ≡ put (received_from values is) k (received_from values is k ++ map (message_of values) ms) v
unfolding box_in
received_changed values is k i j ms v lt at e =
    let here : received_from values is k ≡ map (message_of values) (received i) = received_at values is k i lt ∙ ap (λ (x : In _). map (message_of values) (received x)) (sym at) in
    let more : map (message_of values) (received j) ≡ received_from values is k ++ map (message_of values) ms =
    ap (map (message_of values)) e ∙ (map-append (message_of values) (received i) ms ∙ ap (λ l. l ++ map (message_of values) ms) (sym here)) in
    ap (λ qs. list_at qs v) (map-set (box_in values) is k j)
    ∙ (list_set (map (box_in values) is) k (map (message_of values) (received j)) v (subst (λ n. k < n) (sym (length-map is (box_in values))) lt)
    ∙ ap (λ q. put (received_from values is) k q v) more)

pub received_kept : {F : Type 0} (values : F → List ℕ) (is : List (In F)) (k : ℕ) (i j : In F) (v : ℕ) → k < length is → i ≡ get_or is k i → received j ≡ received i
    → received_from values (slice_set is k j) v ≡ received_from values is v
unfolding box_in
received_kept values is k i j v lt at e =
    let here : received_from values is k ≡ map (message_of values) (received i) = received_at values is k i lt ∙ ap (λ (x : In _). map (message_of values) (received x)) (sym at) in
    ap (λ qs. list_at qs v) (map-set (box_in values) is k j)
    ∙ (list_set (map (box_in values) is) k (map (message_of values) (received j)) v (subst (λ n. k < n) (sym (length-map is (box_in values))) lt)
    ∙ (ap (λ q. put (received_from values is) k q v) (ap (map (message_of values)) e ∙ sym here) ∙ list_same (map (box_in values) is) k v))

-- ---- what a call gives
set_at : {X : Type 0} (xs : List X) (k : ℕ) (y d : X) → k < length xs → get_or (slice_set xs k y) k d ≡ y
set_at [] k y d lt = absurd (omega arith)
set_at (x ∷ xs) zero y d lt = refl
set_at (x ∷ xs) (suc k) y d lt = set_at xs k y d (omega arith)

-- at most one message goes of those that were known
pub known_fewer : {F : Type 0} (values : F → List ℕ) (is : List (In F)) (k : ℕ) (i j : In F) → k < length is → i ≡ get_or is k i → length (known i) ≤ length (known j) + 1
    → length (known_from values is k) ≤ suc (length (known_from values (slice_set is k j) k))
known_fewer values is k i j lt at le =
    let before : length (known_from values is k) ≡ length (known i) = ap length (known_at values is k i lt)
    ∙ (length-map (known (get_or is k i)) (message_of values) ∙ ap (λ (x : In _). length (known x)) (sym at)) in
    let after : length (known_from values (slice_set is k j) k) ≡ length (known j) =
    ap length (known_at values (slice_set is k j) k j (subst (λ n. k < n) (sym (length-set is k j)) lt))
    ∙ (length-map (known (get_or (slice_set is k j) k j)) (message_of values) ∙ ap (λ (x : In _). length (known x)) (set_at is k j j lt)) in
    omega arith

pub taken_some : {F : Type 0} (r : Option (MessageOf F)) (is : List (In F)) (k : ℕ) (i j : In F) → k < length is → i ≡ get_or is k i
    → IfSome r (λ m. received j ≡ received i ++ m ∷ [])
    → IfSome r (λ m. (values : F → List ℕ) (v : ℕ) → received_from values (slice_set is k j) v ≡ put (received_from values is) k (received_from values is k ++ message_of values m ∷ []) v)
taken_some None is k i j lt at e = tt
taken_some (Some m) is k i j lt at e = λ values v. received_changed values is k i j (m ∷ []) v lt at e

pub taken_none : {F : Type 0} (r : Option (MessageOf F)) (is : List (In F)) (k : ℕ) (i j : In F) → k < length is → i ≡ get_or is k i
    → IfNone r (received j ≡ received i) → IfNone r ((values : F → List ℕ) (v : ℕ) → received_from values (slice_set is k j) v ≡ received_from values is v)
taken_none None is k i j lt at e = λ values v. received_kept values is k i j v lt at e
taken_none (Some m) is k i j lt at e = tt

empty_if : {X : Type 0} (xs : List X) → (0 < length xs → ⊥) → xs ≡ []
empty_if [] none = refl
empty_if (x ∷ xs) none = absurd (none (omega arith))

-- no message of the link at a place is known to be left, where none is of the end that is read there
pub none_at : {F : Type 0} (is : List (In F)) (k : ℕ) (i : In F) → k < length is → i ≡ get_or is k i → (0 < length (known i) → ⊥)
    → (x : In F) → slice_get is k ≡ Some x → known x ≡ []
none_at {F} is k i lt at none x there =
    let same : i ≡ x = some_in i x (sym (slice_get-get_or is k i lt ∙ ap Some (sym at)) ∙ there) in
    subst (λ (y : In F). known y ≡ []) same (empty_if (known i) none)
  where
    some_in : (a b : In F) → Some a ≡ Some b → a ≡ b
    some_in a b e = cc

-- a link that was found empty was not known to hold a message
pub none_known : {F : Type 0} (r : Option (MessageOf F)) (is : List (In F)) (k : ℕ) (i : In F) → k < length is → i ≡ get_or is k i
    → (0 < length (known i) → IsSome r) → IfNone r ((x : In F) → slice_get is k ≡ Some x → known x ≡ [])
none_known None is k i lt at has = none_at is k i lt at (λ p. true≢false (sym (has p)))
none_known (Some m) is k i lt at has = tt

pub was_ok : {A E : Type 0} (r : Result A E) (P : Type 0) → IsOk r → OnOk r P → P
was_ok (Ok x) P is p = p
was_ok (Err e) P is p = absurd (true≢false (sym is))

pub set_there : {X : Type 0} (xs : List X) (k : ℕ) (y x : X) → k < length xs → slice_get (slice_set xs k y) k ≡ Some x → y ≡ x
set_there [] k y x lt e = absurd (omega arith)
set_there (z ∷ xs) zero y x lt e = cc
set_there (z ∷ xs) (suc k) y x lt e = set_there xs k y x (omega arith) e

-- ---- a message that is given back
-- the end that took a message knows it
pub last_there : {F : Type 0} (r : Option (MessageOf F)) (is : List (In F)) (k : ℕ) (j : In F) → k < length is → IfSome r (WasTakenLast j)
    → IfSome r (λ m. (i : In F) → slice_get (slice_set is k j) k ≡ Some i → WasTakenLast i m)
last_there None is k j lt last = tt
last_there (Some m) is k j lt last = λ i there. subst (λ (x : In _). WasTakenLast x m) (set_there is k j i lt there) last

-- it was received before, and is not any more
pub received_returned : {F : Type 0} (values : F → List ℕ) (is : List (In F)) (k : ℕ) (i j : In F) (m : MessageOf F) (v : ℕ) → k < length is → i ≡ get_or is k i
    → received i ≡ received j ++ m ∷ []
    → received_from values is v
    ≡ put (received_from values (slice_set is k j)) k (received_from values (slice_set is k j) k ++ message_of values m ∷ []) v
received_returned values is k i j m v lt at e =
    let back : slice_set (slice_set is k j) k i ≡ is = set-set is k j i ∙ (ap (slice_set is k) at ∙ set-get_or is k i) in
    ap (λ (js : List (In _)). received_from values js v) (sym back)
    ∙ received_changed values (slice_set is k j) k j i (m ∷ []) v (subst (λ n. k < n) (sym (length-set is k j)) lt) (sym (set_at is k j j lt)) e

pub known_returned : {F : Type 0} (values : F → List ℕ) (is : List (In F)) (k : ℕ) (i j : In F) (m : MessageOf F) → k < length is → known j ≡ m ∷ known i
    → known_from values (slice_set is k j) k ≢ []
known_returned values is k i j m lt e none =
    let here : known_from values (slice_set is k j) k ≡ map (message_of values) (known j) =
    known_at values (slice_set is k j) k j (subst (λ n. k < n) (sym (length-set is k j)) lt)
    ∙ ap (λ (x : In _). map (message_of values) (known x)) (set_at is k j j lt) in
    some_there (sym none ∙ (here ∙ ap (map (message_of values)) e))
  where
    some_there : {X : Type 0} {y : X} {ys : List X} → [] ≡ y ∷ ys → ⊥
    some_there e = cc

-- a message was taken and the same was given back: what was received is as before
pub put_again : (f g h : ℕ → List Message) (k : ℕ) (m n : Message) → n ≡ m → ((v : ℕ) → h v ≡ put f k (f k ++ m ∷ []) v)
    → ((v : ℕ) → h v ≡ put g k (g k ++ n ∷ []) v) → (v : ℕ) → g v ≡ f v
put_again f g h k m n is taken back v = ⊎_elim
    (λ (e : v ≡ k).
    let same : g k ++ m ∷ [] ≡ f k ++ m ∷ [] =
    ap (λ x. g k ++ x ∷ []) (sym is) ∙ (sym (back v ∙ put_here g k (g k ++ n ∷ []) v e) ∙ (taken v ∙ put_here f k (f k ++ m ∷ []) v e)) in
    ap g e ∙ (append_cancel_right (g k) (f k) (m ∷ []) same ∙ ap f (sym e)))
    (λ (ne : v ≡ k → ⊥). sym (back v ∙ put_there g k (g k ++ n ∷ []) v ne) ∙ (taken v ∙ put_there f k (f k ++ m ∷ []) v ne))
    (same_or_not v k)

-- both ends of a link are looked at
pub matched_up : {F : Type 0} (os : List (Out F)) (to : ℕ) (o p : Out F) (is : List (In F)) (from : ℕ) (i j : In F) (n : ℕ) → to < length os → from < length is
    → o ≡ get_or os to o → i ≡ get_or is from i → AreEnds p j → sent p ≡ sent o → received j ≡ received i
    → received j ++ known j ≡ sent p → n ≡ length (known j) → IsMatchedUp to from os (slice_set os to p) is (slice_set is from j) n
matched_up {F = F} os to o p is from i j n to_lt from_lt o_at i_at ends same_sent same_received left count =
    let in_lt : from < length (slice_set is from j) = subst (λ m. from < m) (sym (length-set is from j)) from_lt in
    let out_lt : to < length (slice_set os to p) = subst (λ m. to < m) (sym (length-set os to p)) to_lt in
    let r : (values : F → List ℕ) → received_from values (slice_set is from j) from ≡ map (message_of values) (received j) = λ values.
    received_at values (slice_set is from j) from j in_lt ∙ ap (λ (x : In F). map (message_of values) (received x)) (set_at is from j j from_lt) in
    let k : (values : F → List ℕ) → known_from values (slice_set is from j) from ≡ map (message_of values) (known j) = λ values.
    known_at values (slice_set is from j) from j in_lt ∙ ap (λ (x : In F). map (message_of values) (known x)) (set_at is from j j from_lt) in
    let s : (values : F → List ℕ) → sent_to values (slice_set os to p) to ≡ map (message_of values) (sent p) = λ values.
    sent_at values (slice_set os to p) to p out_lt ∙ ap (λ (x : Out F). map (message_of values) (sent x)) (set_at os to p p to_lt) in
    record {
      sender = p;
      receiver = j;
      outs_after = refl;
      ins_after = refl;
      ends = ends;
      sent_same = λ values v. sent_kept values os to o p v to_lt o_at same_sent;
      received_same = λ values u. received_kept values is from i j u from_lt i_at same_received;
      all = λ values. (λ x. r values x ++ k values x)
          ∙ (sym (map-append (message_of values) (received j) (known j)) ∙ (ap (map (message_of values)) left ∙ sym (s values)));
      counted = λ values. count ∙ sym (ap length (k values) ∙ length-map (known j) (message_of values));
    }

-- ---- the same ends, after two calls
pub outs_through : {F : Type 0} (a b c : List (Out F)) → AreSameOuts a b → AreSameOuts b c → AreSameOuts a c
outs_through a b c ab bc = record {
  len = bc.len ∙ ab.len;
  each = λ v o p at_a at_c.
      let lt = slice_get_within a v o at_a in
      let at_b = slice_get-get_or b v o (omega (arith, lt, ab.len)) in
      let q = ab.each v o (get_or b v o) at_a at_b in
      let r = bc.each v (get_or b v o) p at_b at_c in
      ((r.0.0 ∙ q.0.0, r.0.1 ∙ q.0.1, r.0.2 ∙ q.0.2, r.0.3 ∙ q.0.3), r.1 ∙ q.1);
}

pub ins_same : {F : Type 0} (a : List (In F)) → AreSameIns a a
ins_same {F = F} a = record { len = refl; each = λ v i j at at'. subst (λ x. SameIn i x) (some_once i j (sym at ∙ at')) ((refl, refl, refl, refl), refl) }
  where
    some_once : (i j : In F) → Some i ≡ Some j → i ≡ j
    some_once i j e = cc

pub outs_same : {F : Type 0} (a : List (Out F)) → AreSameOuts a a
outs_same {F = F} a = record { len = refl; each = λ v o p at at'. subst (λ x. SameOut o x) (some_once o p (sym at ∙ at')) ((refl, refl, refl, refl), refl) }
  where
    some_once : (o p : Out F) → Some o ≡ Some p → o ≡ p
    some_once o p e = cc

pub ins_through : {F : Type 0} (a b c : List (In F)) → AreSameIns a b → AreSameIns b c → AreSameIns a c
ins_through a b c ab bc = record {
  len = bc.len ∙ ab.len;
  each = λ v o p at_a at_c.
      let lt = slice_get_within a v o at_a in
      let at_b = slice_get-get_or b v o (omega (arith, lt, ab.len)) in
      let q = ab.each v o (get_or b v o) at_a at_b in
      let r = bc.each v (get_or b v o) p at_b at_c in
      ((r.0.0 ∙ q.0.0, r.0.1 ∙ q.0.1, r.0.2 ∙ q.0.2, r.0.3 ∙ q.0.3), r.1 ∙ q.1);
}
