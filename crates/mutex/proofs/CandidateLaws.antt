-- Parts, and the candidates of one to three of them.
use Rattle.std.proofs.Common.{◌≡◌, ℕ, zero, suc, ◌+◌, ◌-◌, ◌<◌, ◌≤◌, Bool, true, false, ◌&&◌, cond, List, [], ◌∷◌, ◌++◌, length, get_or, take, map, filter, refl, sym, ap, ◌∙◌, arith, eqb, ltb, leb, ⊎_elim, append_assoc}
use Rattle.std.specs.Prelude.{All, slice_index}
use Rattle.std.specs.List.{list_all, flat_map, range_with_len}
use Rattle.std.proofs.lemmas.Bool.{cases_lt, cond_both, lt-ltb, le-ltb, cases_Bool, ltb-true, ltb-false}
use Rattle.std.proofs.lemmas.List.{append-nil, take_all, take_more, length-take-le, map-append}
use Rattle.std.proofs.lemmas.List.Concat.{flat_map-append}
use Rattle.std.proofs.lemmas.List.Elements.{filter-append, filter_more, All-nil, All-cons, All-append, All-head, All-tail, All-filter, All-take}
use Rattle.std.proofs.lemmas.List.Folds.{list_all-append}
use Rattle.pddl_task.specs.Planning.{PlanningTask}
use Rattle.mutex.specs.declared.parts.Part.{Part}
use Rattle.mutex.specs.Candidates.{is_fluent, bound_at, bound_parts_of, free_part, free_parts_of, fluent_parts, Candidate, lists_of, is_increasing, candidates_of, candidates}
use Rattle.mutex.specs.Steps.{is_below, extensions}

-- the parts of the fluent predicates below a number
abbrev pub parts_below : (ℕ → ℕ → List Part) → PlanningTask → ℕ → List Part
parts_below parts_of task n = flat_map (λ q. cond (is_fluent task q) (parts_of q (slice_index task.arities q)) []) (range_with_len 0 n)

flat_map_range : {X : Type 0} (f : ℕ → List X) (a n j : ℕ) → a + n ≡ j → flat_map f (range_with_len a (n + 1)) ≡ flat_map f (range_with_len a n) ++ f j
flat_map_range f a zero j e = let same : a ≡ j = omega (arith, e) in rw same (append-nil (f j))
flat_map_range f a (suc n) j e =
    let more : suc n + 1 ≡ suc (n + 1) = omega arith in
    rw more (rw (flat_map_range f (a + 1) n j (omega (arith, e))) (sym (append_assoc (f a) (flat_map f (range_with_len (a + 1) n)) (f j))))

parts_more : (parts_of : ℕ → ℕ → List Part) (task : PlanningTask) (n : ℕ) (flag : Bool) → is_fluent task n ≡ flag
    → parts_below parts_of task (n + 1) ≡ parts_below parts_of task n ++ cond flag (parts_of n (slice_index task.arities n)) []
parts_more parts_of task n flag e =
    flat_map_range (λ q. cond (is_fluent task q) (parts_of q (slice_index task.arities q)) []) 0 n n (omega arith)
    ∙ ap (λ (b : Bool). parts_below parts_of task n ++ cond b (parts_of n (slice_index task.arities n)) []) e

pub parts_taken : (parts_of : ℕ → ℕ → List Part) (task : PlanningTask) (n arity : ℕ) (now after : List Part)
    → is_fluent task n ≡ true → arity ≡ slice_index task.arities n → now ≡ parts_below parts_of task n → after ≡ now ++ parts_of n arity
    → after ≡ parts_below parts_of task (n + 1)
parts_taken parts_of task n arity now after f a e g =
    g ∙ ap (λ (parts : List Part). parts ++ parts_of n arity) e ∙ ap (λ (m : ℕ). parts_below parts_of task n ++ parts_of n m) a ∙ sym (parts_more parts_of task n true f)

pub parts_skipped : (parts_of : ℕ → ℕ → List Part) (task : PlanningTask) (n : ℕ) (now after : List Part)
    → is_fluent task n ≡ false → now ≡ parts_below parts_of task n → after ≡ now → after ≡ parts_below parts_of task (n + 1)
parts_skipped parts_of task n now after f e g = g ∙ e ∙ sym (parts_more parts_of task n false f ∙ append-nil (parts_below parts_of task n))

-- fronts of lists

module _ {X : Type 0} where
  take_over : (r : ℕ) (xs ys : List X) → take r (take r xs ++ ys) ≡ take r (xs ++ ys)
  take_over zero xs ys = refl
  take_over (suc r) [] ys = refl
  take_over (suc r) (x ∷ xs) ys = ap (λ (l : List X). x ∷ l) (take_over r xs ys)

  take_push : (r : ℕ) (xs : List X) (z : X) → take r (xs ++ z ∷ []) ≡ cond (ltb (length (take r xs)) r) (take r xs ++ z ∷ []) (take r xs)
  take_push zero xs z = refl
  take_push (suc r) [] z = let room : ltb 0 (suc r) ≡ true = lt-ltb 0 (suc r) (omega arith) in rw room (take_all (suc r) (z ∷ []) (omega arith))
  take_push (suc r) (x ∷ xs) z = rw (take_push r xs z) (go (ltb (length (take r xs)) r) refl)
    where
      go : (b : Bool) → ltb (length (take r xs)) r ≡ b
          → (x ∷ cond b (take r xs ++ z ∷ []) (take r xs)) ≡ cond (ltb (suc (length (take r xs))) (suc r)) (x ∷ (take r xs ++ z ∷ [])) (x ∷ take r xs)
      go true e = rw (lt-ltb (suc (length (take r xs))) (suc r) (omega (arith, ltb-true (length (take r xs)) r e))) refl
      go false e = rw (le-ltb (suc (length (take r xs))) (suc r) (omega (arith, ltb-false (length (take r xs)) r e))) refl

  pub take_join : (r : ℕ) (xs ys : List X) → take r (xs ++ ys) ≡ take r xs ++ take (r - length (take r xs)) ys
  take_join zero xs ys = refl
  take_join (suc r) [] ys = let all : suc r - 0 ≡ suc r = omega arith in rw all refl
  take_join (suc r) (x ∷ xs) ys =
      let less : suc r - suc (length (take r xs)) ≡ r - length (take r xs) = omega arith in
      rw less (ap (λ (l : List X). x ∷ l) (take_join r xs ys))

  -- where a level was cut, no room is left for the next
  take_level : (f : X → List X) (r : ℕ) (xs : List X) → take (r - length (take r xs)) (flat_map f (take r xs)) ≡ take (r - length (take r xs)) (flat_map f xs)
  take_level f r xs = ⊎_elim cut whole (cases_lt r (length xs))
    where
      cut : r < length xs → take (r - length (take r xs)) (flat_map f (take r xs)) ≡ take (r - length (take r xs)) (flat_map f xs)
      cut l = let none : r - length (take r xs) ≡ 0 = omega (arith, length-take-le r xs (omega arith)) in rw none refl

      whole : length xs ≤ r → take (r - length (take r xs)) (flat_map f (take r xs)) ≡ take (r - length (take r xs)) (flat_map f xs)
      whole l = rw (take_all r xs l) refl

  filter_flat_map : {Y : Type 0} (p : X → Bool) (f : Y → List X) (ys : List Y) → filter p (flat_map f ys) ≡ flat_map (λ y. filter p (f y)) ys
  filter_flat_map p f [] = refl
  filter_flat_map p f (y ∷ ys) = filter-append p (f y) (flat_map f ys) ∙ ap (λ (l : List X). filter p (f y) ++ l) (filter_flat_map p f ys)

  flat_map_if : (q : X → Bool) (g : X → List X) (xs : List X) → flat_map (λ x. cond (q x) (g x) []) xs ≡ flat_map g (filter q xs)
  flat_map_if q g [] = refl
  flat_map_if q g (x ∷ xs) = rw (flat_map_if q g xs) (go (q x))
    where
      go : (b : Bool) → cond b (g x) [] ++ flat_map g (filter q xs) ≡ flat_map g (cond b (x ∷ filter q xs) (filter q xs))
      go true = refl
      go false = refl

  flat_map_same : (f g : X → List X) (xs : List X) → ((x : X) → f x ≡ g x) → flat_map f xs ≡ flat_map g xs
  flat_map_same f g [] h = refl
  flat_map_same f g (x ∷ xs) h = rw (h x, flat_map_same f g xs h) refl

-- one more part

increasing_more : (candidate : Candidate) (part : Part) → is_increasing (candidate ++ part ∷ []) ≡ (is_increasing candidate && is_below candidate part)
increasing_more [] part = refl
increasing_more (p ∷ ps) part =
    rw (increasing_more ps part, list_all-append (λ (other : Part). ltb p.predicate other.predicate) ps (part ∷ []))
    (go (list_all (λ (other : Part). ltb p.predicate other.predicate) ps) (ltb p.predicate part.predicate) (is_increasing ps) (is_below ps part))
  where
    go : (a b c d : Bool) → ((a && (b && true)) && (c && d)) ≡ ((a && c) && (b && d))
    go false b c d = refl
    go true false true d = refl
    go true false false d = refl
    go true true c d = refl

extensions_are : (parts : List Part) (candidate : Candidate)
    → filter is_increasing (map (λ part. candidate ++ part ∷ []) parts) ≡ cond (is_increasing candidate) (extensions parts candidate) []
extensions_are [] candidate = go (is_increasing candidate)
  where
    go : (b : Bool) → [] ≡ cond b (extensions [] candidate) []
    go true = refl
    go false = refl
extensions_are (p ∷ parts) candidate =
    rw (extensions_are parts candidate, increasing_more candidate p) (go (is_increasing candidate) (is_below candidate p))
  where
    go : (b c : Bool)
        → cond (b && c) ((candidate ++ p ∷ []) ∷ cond b (extensions parts candidate) []) (cond b (extensions parts candidate) [])
        ≡ cond b (map (λ part. candidate ++ part ∷ []) (cond c (p ∷ filter (is_below candidate) parts) (filter (is_below candidate) parts))) []
    go true true = refl
    go true false = refl
    go false c = refl

pub level : (parts : List Part) (n : ℕ) → filter is_increasing (lists_of (suc n) parts) ≡ flat_map (extensions parts) (filter is_increasing (lists_of n parts))
level parts n =
    filter_flat_map is_increasing (λ list. map (λ part. list ++ part ∷ []) parts) (lists_of n parts)
    ∙ flat_map_same (λ list. filter is_increasing (map (λ part. list ++ part ∷ []) parts)) (λ list. cond (is_increasing list) (extensions parts list) []) (lists_of n parts) (extensions_are parts)
    ∙ flat_map_if is_increasing (extensions parts) (lists_of n parts)

extensions_more : (parts : List Part) (candidate : Candidate) (i : ℕ) (part d : Part) → i < length parts → part ≡ get_or parts i d
    → extensions (take (i + 1) parts) candidate ≡ extensions (take i parts) candidate ++ cond (is_below candidate part) ((candidate ++ part ∷ []) ∷ []) []
extensions_more parts candidate i part d l e =
    ap (λ (ps : List Part). map (λ part. candidate ++ part ∷ []) ps)
    (filter_more (is_below candidate) parts i d l ∙ ap (λ (p : Part). filter (is_below candidate) (take i parts) ++ cond (is_below candidate p) (p ∷ []) []) (sym e))
    ∙ map-append (λ (part : Part). candidate ++ part ∷ []) (filter (is_below candidate) (take i parts)) (cond (is_below candidate part) (part ∷ []) [])
    ∙ ap (λ (es : List Candidate). extensions (take i parts) candidate ++ es) (split (is_below candidate part))
  where
    split : (b : Bool) → map (λ part. candidate ++ part ∷ []) (cond b (part ∷ []) []) ≡ cond b ((candidate ++ part ∷ []) ∷ []) []
    split true = refl
    split false = refl

module _ (parts : List Part) (candidate : Candidate) (i : ℕ) (part d : Part) (l : i < length parts) (e : part ≡ get_or parts i d) (room : ℕ) (old now after : List Candidate) (f : now ≡ take room (old ++ extensions (take i parts) candidate)) where
  more : (b : Bool) → is_below candidate part ≡ b
      → take room (old ++ extensions (take (i + 1) parts) candidate) ≡ take room ((old ++ extensions (take i parts) candidate) ++ cond b ((candidate ++ part ∷ []) ∷ []) [])
  more b k =
      ap (λ (es : List Candidate). take room (old ++ es))
      (extensions_more parts candidate i part d l e ∙ ap (λ (c : Bool). extensions (take i parts) candidate ++ cond c ((candidate ++ part ∷ []) ∷ []) []) k)
      ∙ ap (λ (es : List Candidate). take room es) (sym (append_assoc old (extensions (take i parts) candidate) (cond b ((candidate ++ part ∷ []) ∷ []) [])))

  pushed : is_below candidate part ≡ true
      → take room (old ++ extensions (take (i + 1) parts) candidate) ≡ cond (ltb (length now) room) (now ++ (candidate ++ part ∷ []) ∷ []) now
  pushed k =
      more true k ∙ take_push room (old ++ extensions (take i parts) candidate) (candidate ++ part ∷ [])
      ∙ ap (λ (ns : List Candidate). cond (ltb (length ns) room) (ns ++ (candidate ++ part ∷ []) ∷ []) ns) (sym f)

  -- the three ways through an iteration

  pub extend_pushed : length now < room → is_below candidate part ≡ true → after ≡ now ++ (candidate ++ part ∷ []) ∷ []
      → after ≡ take room (old ++ extensions (take (i + 1) parts) candidate)
  extend_pushed m k g = g ∙ sym (pushed k ∙ rw (lt-ltb (length now) room m) refl)

  pub extend_other : is_below candidate part ≡ false → after ≡ now → after ≡ take room (old ++ extensions (take (i + 1) parts) candidate)
  extend_other k g = g ∙ f ∙ sym (more false k ∙ ap (λ (es : List Candidate). take room es) (append-nil (old ++ extensions (take i parts) candidate)))

  pub extend_full : room ≤ length now → after ≡ now → after ≡ take room (old ++ extensions (take (i + 1) parts) candidate)
  extend_full m g = ⊎_elim (λ k. g ∙ sym (pushed k ∙ rw (le-ltb (length now) room m) refl)) (λ k. extend_other k g) (cases_Bool (is_below candidate part))

-- one more candidate extended
pub extended_more : (parts : List Part) (all : List Candidate) (i : ℕ) (candidate : Candidate) (room : ℕ) (now after : List Candidate) → i < length all
    → candidate ≡ get_or all i candidate → now ≡ take room (flat_map (extensions parts) (take i all)) → after ≡ take room (now ++ extensions parts candidate)
    → after ≡ take room (flat_map (extensions parts) (take (i + 1) all))
extended_more parts all i candidate room now after l e f g =
    g ∙ ap (λ (ns : List Candidate). take room (ns ++ extensions parts candidate)) f
    ∙ take_over room (flat_map (extensions parts) (take i all)) (extensions parts candidate)
    ∙ ap (λ (es : List Candidate). take room es)
    (sym (ap (λ (cs : List Candidate). flat_map (extensions parts) cs) (take_more all i candidate l ∙ ap (λ (c : Candidate). take i all ++ c ∷ []) (sym e))
    ∙ flat_map-append (extensions parts) (take i all) (candidate ∷ []) ∙ ap (λ (es : List Candidate). flat_map (extensions parts) (take i all) ++ es) (append-nil (extensions parts candidate))))

-- the candidates of this many parts

abbrev of_length : List Part → ℕ → List Candidate
of_length parts n = filter is_increasing (lists_of n parts)

-- a level, cut to the room that is left
cut : (parts : List Part) (n room : ℕ) (here next : List Candidate) → here ≡ take room (of_length parts n)
    → next ≡ take (room - length here) (flat_map (extensions parts) here) → next ≡ take (room - length here) (of_length parts (suc n))
cut parts n room here next e f =
    f ∙ ap (λ (cs : List Candidate). take (room - length cs) (flat_map (extensions parts) cs)) e
    ∙ take_level (extensions parts) room (of_length parts n)
    ∙ ap (λ (cs : List Candidate). take (room - length cs) (flat_map (extensions parts) (of_length parts n))) (sym e)
    ∙ ap (λ (cs : List Candidate). take (room - length here) cs) (sym (level parts n))

cut_join : (room : ℕ) (here xs ys : List Candidate) → here ≡ take room xs → take room (xs ++ ys) ≡ here ++ take (room - length here) ys
cut_join room here xs ys e = take_join room xs ys ∙ ap (λ (cs : List Candidate). cs ++ take (room - length cs) ys) (sym e)

-- the levels of one to three parts, each cut to the room that is left
pub levels : (parts : List Part) (room second third : ℕ) (one two three all : List Candidate)
    → one ≡ take room (flat_map (extensions parts) ([] ∷ [])) → second ≡ room - length one
    → two ≡ take second (flat_map (extensions parts) one) → third ≡ second - length two
    → three ≡ take third (flat_map (extensions parts) two) → all ≡ one ++ (two ++ three) → all ≡ take room (candidates_of parts)
levels parts room second third one two three all e s f t g h =
    let first : one ≡ take room (of_length parts 1) = e ∙ ap (λ (cs : List Candidate). take room cs) (sym (level parts 0)) in
    let next : two ≡ take (room - length one) (of_length parts 2) = cut parts 1 room one two first (rw (← s) f) in
    let last : three ≡ take (room - length one - length two) (of_length parts 3) = cut parts 2 (room - length one) two three next (rw (← s, ← t) g) in
    h ∙ ap (λ (cs : List Candidate). one ++ (two ++ cs)) (last ∙ ap (λ (cs : List Candidate). take (room - length one - length two) cs) (sym (append-nil (of_length parts 3))))
    ∙ ap (λ (cs : List Candidate). one ++ cs) (sym (cut_join (room - length one) two (of_length parts 2) (of_length parts 3 ++ []) next))
    ∙ sym (cut_join room one (of_length parts 1) (of_length parts 2 ++ (of_length parts 3 ++ [])) first)

-- the candidates with a parameter, and as many of those without one as there is room for
pub both_kinds : (bound free : List Part) (room left : ℕ) (first rest all : List Candidate)
    → first ≡ take room (candidates_of bound) → left ≡ room - length first → rest ≡ take left (candidates_of free) → all ≡ first ++ rest
    → all ≡ take room (candidates_of bound ++ candidates_of free)
both_kinds bound free room left first rest all e l f g =
    let other : rest ≡ take (room - length first) (candidates_of free) = rw (← l) f in
    g ∙ ap (λ (cs : List Candidate). first ++ cs) other ∙ sym (cut_join room first (candidates_of bound) (candidates_of free) e)

-- the predicates of candidates are those of the task

module _ (P : Part → Type 0) where
  all_flat_map : {X : Type 0} (f : X → List Part) → ((x : X) → All P (f x)) → (xs : List X) → All P (flat_map f xs)
  all_flat_map f h [] = All-nil P
  all_flat_map f h (x ∷ xs) = All-append P (f x) (flat_map f xs) (h x) (all_flat_map f h xs)

  all_extended : (parts : List Part) (candidate : Candidate) → All P parts → All P candidate → All (All P) (map (λ part. candidate ++ part ∷ []) parts)
  all_extended [] candidate h c = All-nil (All P)
  all_extended (p ∷ parts) candidate h c =
      All-cons (All P) (candidate ++ p ∷ []) (map (λ part. candidate ++ part ∷ []) parts)
      (All-append P candidate (p ∷ []) c (All-cons P p [] (All-head P p parts h) (All-nil P)))
      (all_extended parts candidate (All-tail P p parts h) c)

  all_longer : (parts : List Part) (lists : List Candidate) → All P parts → All (All P) lists → All (All P) (flat_map (λ list. map (λ part. list ++ part ∷ []) parts) lists)
  all_longer parts [] h c = All-nil (All P)
  all_longer parts (l ∷ lists) h c =
      All-append (All P) (map (λ part. l ++ part ∷ []) parts) (flat_map (λ list. map (λ part. list ++ part ∷ []) parts) lists)
      (all_extended parts l h (All-head (All P) l lists c)) (all_longer parts lists h (All-tail (All P) l lists c))

  all_lists : (n : ℕ) (parts : List Part) → All P parts → All (All P) (lists_of n parts)
  all_lists zero parts h = All-cons (All P) [] [] (All-nil P) (All-nil (All P))
  all_lists (suc n) parts h = all_longer parts (lists_of n parts) h (all_lists n parts h)

  all_candidates : (parts : List Part) → All P parts → All (All P) (candidates_of parts)
  all_candidates parts h =
      All-append (All P) (of_length parts 1) (of_length parts 2 ++ (of_length parts 3 ++ [])) (kept 1)
      (All-append (All P) (of_length parts 2) (of_length parts 3 ++ []) (kept 2) (All-append (All P) (of_length parts 3) [] (kept 3) (All-nil (All P))))
    where
      kept : (n : ℕ) → All (All P) (filter is_increasing (lists_of n parts))
      kept n = All-filter is_increasing (All P) (lists_of n parts) (all_lists n parts h)

module _ (task : PlanningTask) where
  abbrev IsKnown : Part → Type 0
  IsKnown part = part.predicate < length task.arities

  known_parts : (parts_of : ℕ → ℕ → List Part) → ((q arity : ℕ) → q < length task.arities → All IsKnown (parts_of q arity))
      → (a n : ℕ) → a + n ≤ length task.arities → All IsKnown (flat_map (λ q. cond (is_fluent task q) (parts_of q (slice_index task.arities q)) []) (range_with_len a n))
  known_parts parts_of h a zero l = All-nil IsKnown
  known_parts parts_of h a (suc n) l =
      All-append IsKnown (cond (is_fluent task a) (parts_of a (slice_index task.arities a)) [])
      (flat_map (λ q. cond (is_fluent task q) (parts_of q (slice_index task.arities q)) []) (range_with_len (a + 1) n))
      (cond_both (is_fluent task a) (parts_of a (slice_index task.arities a)) [] (All IsKnown) (λ e. h a (slice_index task.arities a) (omega arith)) (λ e. All-nil IsKnown))
      (known_parts parts_of h (a + 1) n (omega arith))

  one_known : (part : Part) → part.predicate < length task.arities → All IsKnown (part ∷ [])
  one_known part l = All-cons IsKnown part [] l (All-nil IsKnown)

  known_bound : (q arity : ℕ) → q < length task.arities → All IsKnown (bound_parts_of q arity)
  known_bound q arity l =
      cond_both (eqb arity 1) (bound_at q 0 ∷ []) (cond (eqb arity 2) (bound_at q 0 ∷ bound_at q 1 ∷ []) []) (All IsKnown) (λ e. one_known (bound_at q 0) l)
      (λ e. cond_both (eqb arity 2) (bound_at q 0 ∷ bound_at q 1 ∷ []) [] (All IsKnown)
      (λ f. All-cons IsKnown (bound_at q 0) (bound_at q 1 ∷ []) l (one_known (bound_at q 1) l)) (λ f. All-nil IsKnown))

  known_free : (q arity : ℕ) → q < length task.arities → All IsKnown (free_parts_of q arity)
  known_free q arity l =
      cond_both (leb arity 1) (free_part q ∷ []) [] (All IsKnown) (λ e. one_known (free_part q) l) (λ e. All-nil IsKnown)

  pub known_candidates : (n : ℕ) → All (λ candidate. All (λ part. part.predicate < length task.arities) candidate) (take n (candidates task))
  known_candidates n =
      All-take (All IsKnown) n (candidates task)
      (All-append (All IsKnown) (candidates_of (fluent_parts bound_parts_of task)) (candidates_of (fluent_parts free_parts_of task))
      (all_candidates IsKnown (fluent_parts bound_parts_of task) (known_parts bound_parts_of known_bound 0 (length task.arities) (omega arith)))
      (all_candidates IsKnown (fluent_parts free_parts_of task) (known_parts free_parts_of known_free 0 (length task.arities) (omega arith))))
