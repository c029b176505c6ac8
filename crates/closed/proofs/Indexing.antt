-- Rows and their index: how a form is looked up, and what writes do.
use Rattle.std.proofs.Common.{◌≡◌, ◌≢◌, ◌⊎◌, ℕ, zero, suc, ◌+◌, ◌-◌, ◌<◌, ◌≤◌, ◌^◌, Bool, true, false, cond, List, [], ◌∷◌, ◌++◌, length, take, replicate, Option, Some, None, position, inl, inr, refl, sym, ap, ◌∙◌, subst, arith}
use Rattle.std.specs.Prelude.{slice_get, slice_set, IsTrue, IfSome, IfNone}
use Rattle.std.specs.List.{position_from}
use Rattle.std.specs.Map.{keys_of}
use Rattle.std.specs.Cmp.{IsEquivalence}
use Rattle.std.specs.Hash.{HashWrites}
use Rattle.std.proofs.lemmas.Bool.{cases_lt, cases_eq, false_from_ne_true, true≢false}
use Rattle.std.proofs.lemmas.List.{length-map, length-append, map-append}
use Rattle.std.proofs.lemmas.Option.{same_Some, slice_get_within}
use Rattle.std.proofs.lemmas.Iterator.Adapters.{position_from-zero}
use Rattle.slots.specs.declared.probing.Slot.{Slot}
use Rattle.slots.specs.Slots.{links_of, empties, link_after, probed, home_of, IsFirstEmpty, IsFoundAfter, AddsSlot}
use Rattle.slots.proofs.Probes.{link_there, all_taken}
use Rattle.closed.specs.declared.small_entry.SmallEntry.{SmallEntry}
use Rattle.closed.specs.Entries.{set_entry_at}
use Rattle.closed.specs.Rows.{tag_of, tags_of, room_in, HasTag, Holds, AreIndexed}
use Rattle.closed.proofs.Holding.{empty, holds_none, holds_alike, holds_added, tag_read}
use Rattle.slots.proofs.Added.{empties_filled, empties_added, length_added}

-- ---- lists

-- what is at a place of a list with one more item
pub pushed_cases : {X : Type 0} (xs : List X) (y : X) (i : ℕ) (x : X) → slice_get (xs ++ y ∷ []) i ≡ Some x → (slice_get xs i ≡ Some x) ⊎ ((i ≡ length xs) × (x ≡ y))
pushed_cases [] y zero x h = let same : y ≡ x = cc in inr (refl, sym same)
pushed_cases [] y (suc i) x h = absurd (cc)
pushed_cases (z ∷ zs) y zero x h = inl h
pushed_cases (z ∷ zs) y (suc i) x h = go (pushed_cases zs y i x h)
  where
    go : (slice_get zs i ≡ Some x) ⊎ ((i ≡ length zs) × (x ≡ y)) → (slice_get zs i ≡ Some x) ⊎ ((suc i ≡ suc (length zs)) × (x ≡ y))
    go (inl e) = inl e
    go (inr (e, f)) = inr (ap suc e, f)

pub pushed_before : {X : Type 0} (xs : List X) (y : X) (i : ℕ) (x : X) → slice_get xs i ≡ Some x → slice_get (xs ++ y ∷ []) i ≡ Some x
pushed_before [] y i x h = absurd (cc)
pushed_before (z ∷ zs) y zero x h = h
pushed_before (z ∷ zs) y (suc i) x h = pushed_before zs y i x h

pub pushed_last : {X : Type 0} (xs : List X) (y : X) → slice_get (xs ++ y ∷ []) (length xs) ≡ Some y
pushed_last [] y = refl
pushed_last (z ∷ zs) y = pushed_last zs y

pub taken_before : {X : Type 0} (n : ℕ) (xs : List X) (i : ℕ) (x : X) → slice_get (take n xs) i ≡ Some x → slice_get xs i ≡ Some x
taken_before zero xs i x h = absurd (cc)
taken_before (suc n) [] i x h = absurd (cc)
taken_before (suc n) (y ∷ ys) zero x h = h
taken_before (suc n) (y ∷ ys) (suc i) x h = taken_before n ys i x h

pub taken_fewer : {X : Type 0} (n : ℕ) (xs : List X) → length (take n xs) ≤ length xs
taken_fewer zero xs = omega arith
taken_fewer (suc n) [] = omega arith
taken_fewer (suc n) (x ∷ xs) = let rest = taken_fewer n xs in omega (arith, rest)

-- ---- the row with a key

module _ {F : Type 0} (test : F → Bool) where
  none_from : (rows : List (F × SmallEntry)) (n : ℕ) → ((i : ℕ) (p : F × SmallEntry) → slice_get rows i ≡ Some p → test p.0 ≡ false) → position_from test n (keys_of rows) ≡ None
  none_from [] n none = refl
  none_from (p ∷ ps) n none =
      ap (λ (b : Bool). cond b (Some n) (position_from test (n + 1) (keys_of ps))) (none 0 p refl) ∙ none_from ps (n + 1) (λ i q h. none (suc i) q h)

  some_from : (rows : List (F × SmallEntry)) (n i : ℕ) (p : F × SmallEntry) → slice_get rows i ≡ Some p → test p.0 ≡ true
      → ((j : ℕ) (q : F × SmallEntry) → j < i → slice_get rows j ≡ Some q → test q.0 ≡ false) → position_from test n (keys_of rows) ≡ Some (n + i)
  some_from [] n i p h is before = absurd (cc)
  some_from (r ∷ rs) n zero p h is before =
      let same : r ≡ p = cc in
      ap (λ (b : Bool). cond b (Some n) (position_from test (n + 1) (keys_of rs))) (ap (λ (q : F × SmallEntry). test q.0) same ∙ is) ∙ ap Some (omega arith)
  some_from (r ∷ rs) n (suc i) p h is before =
      ap (λ (b : Bool). cond b (Some n) (position_from test (n + 1) (keys_of rs))) (before 0 r (omega arith) refl)
      ∙ some_from rs (n + 1) i p h is (λ j q l g. before (suc j) q (omega (arith, l)) g) ∙ ap Some (omega arith)

  found_none : (rows : List (F × SmallEntry)) (n : ℕ) → position_from test n (keys_of rows) ≡ None → (i : ℕ) (p : F × SmallEntry) → slice_get rows i ≡ Some p → test p.0 ≡ false
  found_none [] n none i p h = absurd (cc)
  found_none (r ∷ rs) n none i p h = go (test r.0) refl i none h (found_none rs (n + 1))
    where
      go : (b : Bool) → test r.0 ≡ b → (i : ℕ) → cond b (Some n) (position_from test (n + 1) (keys_of rs)) ≡ None → slice_get (r ∷ rs) i ≡ Some p
          → (position_from test (n + 1) (keys_of rs) ≡ None → (j : ℕ) (q : F × SmallEntry) → slice_get rs j ≡ Some q → test q.0 ≡ false) → test p.0 ≡ false
      go true e i none h rest = absurd (cc)
      go false e zero none h rest = let same : r ≡ p = cc in ap (λ (q : F × SmallEntry). test q.0) (sym same) ∙ e
      go false e (suc i) none h rest = rest none i p h

  pub position_none : (rows : List (F × SmallEntry)) → ((i : ℕ) (p : F × SmallEntry) → slice_get rows i ≡ Some p → test p.0 ≡ false) → position test (keys_of rows) ≡ None
  position_none rows none = position_from-zero test (keys_of rows) ∙ none_from rows 0 none

  pub position_some : (rows : List (F × SmallEntry)) (i : ℕ) (p : F × SmallEntry) → slice_get rows i ≡ Some p → test p.0 ≡ true
      → ((j : ℕ) (q : F × SmallEntry) → j < i → slice_get rows j ≡ Some q → test q.0 ≡ false) → position test (keys_of rows) ≡ Some i
  position_some rows i p h is before = position_from-zero test (keys_of rows) ∙ some_from rows 0 i p h is before ∙ ap Some (omega arith)

  pub absent : (rows : List (F × SmallEntry)) → position test (keys_of rows) ≡ None → (i : ℕ) (p : F × SmallEntry) → slice_get rows i ≡ Some p → test p.0 ≡ false
  absent rows none = found_none rows 0 (sym (position_from-zero test (keys_of rows)) ∙ none)

-- ---- a look-up

-- the row of a slot that is taken is one of the rows
pub row_within : {F : Type 0} (eq : F → F → Bool) (writes : F → HashWrites) (rows : List (F × SmallEntry)) (slots : List (Slot ℕ)) (k : ℕ) (slot : Slot ℕ)
    → AreIndexed eq writes rows slots → slice_get slots k ≡ Some slot → slot.link ≢ 0 → slot.link - 1 < length rows
row_within {F = F} eq writes rows slots k slot indexed read full =
    let within = slice_get_within (tags_of writes rows) (slot.link - 1) slot.note (indexed.holds.only k slot read full) in
    let long = length-map rows (λ (p : F × SmallEntry). tag_of (writes p.0)) in
    omega (arith, within, long)

module _ {F : Type 0} (eq : F → F → Bool) (writes : F → HashWrites) (laws : IsEquivalence eq) (respects : (f g : F) → IsTrue (eq f g) → writes f ≡ writes g)
    (rows : List (F × SmallEntry)) (slots : List (Slot ℕ)) (form : F) where
  abbrev pub home : ℕ
  home = home_of (tag_of (writes form)) (length slots)

  abbrev pub link : ℕ → ℕ
  link j = link_after (links_of slots) home j

  -- the slot that was read from the home that was computed
  pub read_home : (from tag steps : ℕ) (slot : Slot ℕ) → from ≡ home_of tag (length slots) → tag ≡ tag_of (writes form)
      → slice_get slots (probed (length slots) from steps) ≡ Some slot → slice_get slots (probed (length slots) home steps) ≡ Some slot
  read_home from tag steps slot at_home its read =
      subst (λ (h : ℕ). slice_get slots (probed (length slots) h steps) ≡ Some slot) (at_home ∙ ap (λ (t : ℕ). home_of t (length slots)) its) read

  -- the link that was read
  pub link_is : (steps : ℕ) (slot : Slot ℕ) → slice_get slots (probed (length slots) home steps) ≡ Some slot → link steps ≡ slot.link
  link_is steps slot read = link_there slots home steps slot read

  -- the slot this many steps after the home of the form is taken, and its row has another form
  pub record IsMissed (j : ℕ) : Type 0 where
    pub taken : link j ≢ 0
    pub other : (p : F × SmallEntry) → slice_get rows (link j - 1) ≡ Some p → eq form p.0 ≡ false

  -- this many slots were missed
  abbrev pub AreMissed : ℕ → Type 0
  AreMissed steps = (j : ℕ) → j < steps → IsMissed j

  -- one more slot is missed
  pub misses : (steps : ℕ) → AreMissed steps → IsMissed steps → AreMissed (steps + 1)
  misses steps missed one j l = go (cases_eq j steps)
    where
      go : (j ≡ steps) ⊎ (j ≡ steps → ⊥) → IsMissed j
      go (inl q) = subst IsMissed (sym q) one
      go (inr q) = missed j (omega (arith, l, q))

  -- the row of the slot that was read, which has another tag or another form
  pub other_row : (steps : ℕ) (slot : Slot ℕ) → AreIndexed eq writes rows slots → slice_get slots (probed (length slots) home steps) ≡ Some slot → slot.link ≢ 0
      → ((p : F × SmallEntry) → slice_get rows (slot.link - 1) ≡ Some p → tag_of (writes form) ≡ slot.note → eq form p.0 ≡ false) → IsMissed steps
  other_row steps slot indexed read full differs =
      record { taken = λ z. full (sym linked ∙ z); other = λ p there. go p (subst (λ (l : ℕ). slice_get rows (l - 1) ≡ Some p) linked there) }
    where
      linked : link steps ≡ slot.link
      linked = link_is steps slot read

      go : (p : F × SmallEntry) → slice_get rows (slot.link - 1) ≡ Some p → eq form p.0 ≡ false
      go p there = false_from_ne_true (eq form p.0) same_form
        where
          noted : HasTag (tags_of writes rows) (slot.link - 1) slot.note
          noted = indexed.holds.only (probed (length slots) home steps) slot read full

          same_form : eq form p.0 ≡ true → ⊥
          same_form e =
              let its : HasTag (tags_of writes rows) (slot.link - 1) (tag_of (writes p.0)) = tag_read writes rows (slot.link - 1) p there in
              let same : tag_of (writes form) ≡ tag_of (writes p.0) = ap tag_of (respects form p.0 e) in
              let note : tag_of (writes form) ≡ slot.note = same ∙ same_Some (tag_of (writes p.0)) slot.note (sym its ∙ noted) in
              true≢false (sym e ∙ differs p there note)

  -- no row has the form where all slots up to an empty one were missed, or all that there are
  pub search_end : (steps : ℕ) → AreIndexed eq writes rows slots → AreMissed steps → (link steps ≡ 0) ⊎ (length slots ≤ steps) → position (eq form) (keys_of rows) ≡ None
  search_end steps indexed missed stop = position_none (eq form) rows (λ i p there. false_from_ne_true (eq form p.0) (found i p there))
    where
      long : length (links_of slots) ≡ length slots
      long = length-map slots (λ s. s.link)

      found : (i : ℕ) (p : F × SmallEntry) → slice_get rows i ≡ Some p → eq form p.0 ≡ true → ⊥
      found i p there e = go (cases_lt after steps) stop
        where
          same : tag_of (writes p.0) ≡ tag_of (writes form)
          same = ap tag_of (sym (respects form p.0 e))

          has : HasTag (tags_of writes rows) i (tag_of (writes form))
          has = tag_read writes rows i p there ∙ ap Some same

          after : ℕ
          after = (indexed.holds.found i (tag_of (writes form)) has).0

          at : IsFoundAfter (links_of slots) home i after
          at = (indexed.holds.found i (tag_of (writes form)) has).1

          go : (after < steps) ⊎ (steps ≤ after) → (link steps ≡ 0) ⊎ (length slots ≤ steps) → ⊥
          go (inl m) stop =
              let back : i ≡ link after - 1 = omega (arith, at.here) in
              true≢false (sym e ∙ (missed after m).other p (subst (λ (k : ℕ). slice_get rows k ≡ Some p) back there))
          go (inr m) (inr all) = absurd (omega (arith, m, all, at.within, long))
          go (inr m) (inl z) = last (cases_eq steps after)
            where
              last : (steps ≡ after) ⊎ (steps ≡ after → ⊥) → ⊥
              last (inl q) = let zero_there : link after ≡ 0 = ap link (sym q) ∙ z in absurd (omega (arith, at.here, zero_there))
              last (inr q) = at.taken steps (omega (arith, m, q)) z

  -- an empty slot after slots that were missed is the first
  pub ends_first : (steps : ℕ) → steps < length slots → AreMissed steps → link steps ≡ 0 → IsFirstEmpty (links_of slots) home steps
  ends_first steps within missed free =
      record {
        within = omega (arith, within, length-map slots (λ (s : Slot ℕ). s.link));
        free = free;
        taken = λ j l. (missed j l).taken;
      }

  -- not all slots are missed, since some are empty
  pub never_all : (from tag steps : ℕ) → from ≡ home_of tag (length slots) → tag ≡ tag_of (writes form) → from < length slots
      → AreIndexed eq writes rows slots → AreMissed steps → length slots ≤ steps → ⊥
  never_all from tag steps at_home its inside indexed missed past =
      let long : length (links_of slots) ≡ length slots = length-map slots (λ (s : Slot ℕ). s.link) in
      let here : home < length slots =
      subst (λ (h : ℕ). h < length slots) (at_home ∙ ap (λ (t : ℕ). home_of t (length slots)) its) inside in
      let full : empties (links_of slots) ≡ 0 =
      all_taken (links_of slots) home (omega (arith, here, long)) (λ j l. (missed j (omega (arith, l, long, past))).taken) in
      absurd (omega (arith, full, indexed.count, indexed.some, indexed.room))

  -- a row that has it is the only one
  pub search_found : (i : ℕ) (p : F × SmallEntry) → AreIndexed eq writes rows slots → slice_get rows i ≡ Some p → eq form p.0 ≡ true → position (eq form) (keys_of rows) ≡ Some i
  search_found i p indexed there e = position_some (eq form) rows i p there e before
    where
      before : (j : ℕ) (q : F × SmallEntry) → j < i → slice_get rows j ≡ Some q → eq form q.0 ≡ false
      before j q l there_too = false_from_ne_true (eq form q.0) twice
        where
          twice : eq form q.0 ≡ true → ⊥
          twice f =
              let both : eq q.0 p.0 ≡ true = sym (laws.congr form q.0 p.0 f) ∙ e in
              let same : j ≡ i = indexed.distinct j i q p there_too there both in
              absurd (omega (arith, l, same))

-- ---- writes

module _ {F : Type 0} (eq : F → F → Bool) (writes : F → HashWrites) where
  -- no rows
  pub indexed_none : (rows : List (F × SmallEntry)) (slots : List (Slot ℕ)) (n : ℕ) → rows ≡ [] → slots ≡ replicate n empty → 0 < length slots → length slots < 2 ^ 32 → AreIndexed eq writes rows slots
  indexed_none rows slots n none is some few = subst (λ (rs : List (F × SmallEntry)). AreIndexed eq writes rs slots) (sym none) start
    where
      start : AreIndexed eq writes [] slots
      start =
          record {
            some = some;
            few = few;
            room = omega arith;
            count = omega (arith, empties_filled empty refl slots n is);
            holds = holds_none (HasTag []) slots (λ place tag has. absurd (cc)) (empties_filled empty refl slots n is);
            distinct = λ i j p q h. absurd (cc);
          }

  -- an entry is set
  tags_set : (rows : List (F × SmallEntry)) (i : ℕ) (e : SmallEntry) → tags_of writes (set_entry_at rows i e) ≡ tags_of writes rows
  tags_set [] i e = refl
  tags_set (p ∷ ps) zero e = refl
  tags_set (p ∷ ps) (suc i) e = ap (λ (ts : List ℕ). tag_of (writes p.0) ∷ ts) (tags_set ps i e)

  pub length_set : (rows : List (F × SmallEntry)) (i : ℕ) (e : SmallEntry) → length (set_entry_at rows i e) ≡ length rows
  length_set [] i e = refl
  length_set (p ∷ ps) zero e = refl
  length_set (p ∷ ps) (suc i) e = ap suc (length_set ps i e)

  form_kept : (rows : List (F × SmallEntry)) (i : ℕ) (e : SmallEntry) (j : ℕ) (p : F × SmallEntry) → slice_get (set_entry_at rows i e) j ≡ Some p
      → (q : F × SmallEntry) × (slice_get rows j ≡ Some q) × (q.0 ≡ p.0)
  form_kept [] i e j p h = absurd (cc)
  form_kept (r ∷ rs) zero e zero p h = let same : (r.0, e) ≡ p = cc in (r, refl, ap (λ (x : F × SmallEntry). x.0) same)
  form_kept (r ∷ rs) zero e (suc j) p h = (p, h, refl)
  form_kept (r ∷ rs) (suc i) e zero p h = let same : r ≡ p = cc in (r, refl, ap (λ (x : F × SmallEntry). x.0) same)
  form_kept (r ∷ rs) (suc i) e (suc j) p h = form_kept rs i e j p h

  pub indexed_set : (rows : List (F × SmallEntry)) (slots : List (Slot ℕ)) (i : ℕ) (e : SmallEntry) → AreIndexed eq writes rows slots → AreIndexed eq writes (set_entry_at rows i e) slots
  indexed_set rows slots i e indexed =
      record {
        some = indexed.some;
        few = indexed.few;
        room = omega (arith, length_set rows i e, indexed.room);
        count = omega (arith, length_set rows i e, indexed.count);
        holds = subst (λ (tags : List ℕ). Holds (HasTag tags) slots) (sym (tags_set rows i e)) indexed.holds;
        distinct = λ j k p q h g same.
            let first = form_kept rows i e j p h in
            let second = form_kept rows i e k q g in
            let both : IsTrue (eq first.0.0 second.0.0) =
            subst (λ (x : F). IsTrue (eq x second.0.0)) (sym first.2) (subst (λ (y : F). IsTrue (eq p.0 y)) (sym second.2) same) in
            indexed.distinct j k first.0 second.0 first.1 second.1 both;
      }

  -- slots were exchanged for others
  pub indexed_moved : (rows : List (F × SmallEntry)) (old new : List (Slot ℕ)) → AreIndexed eq writes rows old → 0 < length new → length new < 2 ^ 32
      → empties (links_of new) + length old ≡ length new + empties (links_of old) → length rows ≤ room_in (length new) → Holds (HasTag (tags_of writes rows)) new → AreIndexed eq writes rows new
  indexed_moved rows old new indexed some few count room holds =
      record {
        some = some;
        few = few;
        room = room;
        count = omega (arith, count, indexed.count);
        holds = holds;
        distinct = indexed.distinct;
      }

  -- a row is appended
  module _ (laws : IsEquivalence eq) (rows : List (F × SmallEntry)) (slots new : List (Slot ℕ)) (form : F) (e : SmallEntry) (home : ℕ) (slot : Slot ℕ) where
    pub indexed_pushed : AreIndexed eq writes rows slots → length rows + 1 ≤ room_in (length slots) → position (eq form) (keys_of rows) ≡ None → home < length slots
        → home ≡ home_of slot.note (length slots) → slot.link ≡ length rows + 1 → slot.note ≡ tag_of (writes form) → AddsSlot home slot slots new → AreIndexed eq writes (rows ++ (form, e) ∷ []) new
    indexed_pushed indexed room none inside at_home links note adds =
        record {
          some = omega (arith, size, indexed.some);
          few = omega (arith, size, indexed.few);
          room = subst (λ (n : ℕ). length (rows ++ (form, e) ∷ []) ≤ room_in n) (sym size) (omega (arith, more, room));
          count = omega (arith, size, more, fewer, indexed.count);
          holds = holds_alike (λ p t. HasTag (tags_of writes rows) p t ⊎ ((p ≡ length rows) × (t ≡ slot.note))) (HasTag (tags_of writes (rows ++ (form, e) ∷ []))) new there back
              (holds_added slots new home (length rows) slot inside links adds (HasTag (tags_of writes rows)) indexed.holds at_home);
          distinct = λ i j p q h g. apart i j p q (pushed_cases rows (form, e) i p h) (pushed_cases rows (form, e) j q g);
        }
      where
        size : length new ≡ length slots
        size = length_added slots new home (length rows) slot inside links adds

        fewer : empties (links_of slots) ≡ empties (links_of new) + 1
        fewer = empties_added slots new home (length rows) slot inside links adds

        more : length (rows ++ (form, e) ∷ []) ≡ length rows + 1
        more = length-append rows ((form, e) ∷ [])

        long : length (tags_of writes rows) ≡ length rows
        long = length-map rows (λ (p : F × SmallEntry). tag_of (writes p.0))

        tags : tags_of writes (rows ++ (form, e) ∷ []) ≡ tags_of writes rows ++ tag_of (writes form) ∷ []
        tags = map-append (λ (p : F × SmallEntry). tag_of (writes p.0)) rows ((form, e) ∷ [])

        there : (p t : ℕ) → HasTag (tags_of writes rows) p t ⊎ ((p ≡ length rows) × (t ≡ slot.note)) → HasTag (tags_of writes (rows ++ (form, e) ∷ [])) p t
        there p t (inl has) = ap (λ (ts : List ℕ). slice_get ts p) tags ∙ pushed_before (tags_of writes rows) (tag_of (writes form)) p t has
        there p t (inr (last, is)) =
            ap (λ (ts : List ℕ). slice_get ts p) tags
            ∙ ap (slice_get (tags_of writes rows ++ tag_of (writes form) ∷ [])) (last ∙ sym long)
            ∙ pushed_last (tags_of writes rows) (tag_of (writes form))
            ∙ ap Some (sym (is ∙ note))

        back : (p t : ℕ) → HasTag (tags_of writes (rows ++ (form, e) ∷ [])) p t → HasTag (tags_of writes rows) p t ⊎ ((p ≡ length rows) × (t ≡ slot.note))
        back p t has = go (pushed_cases (tags_of writes rows) (tag_of (writes form)) p t (ap (λ (ts : List ℕ). slice_get ts p) (sym tags) ∙ has))
          where
            go : (slice_get (tags_of writes rows) p ≡ Some t) ⊎ ((p ≡ length (tags_of writes rows)) × (t ≡ tag_of (writes form))) → HasTag (tags_of writes rows) p t ⊎ ((p ≡ length rows) × (t ≡ slot.note))
            go (inl before) = inl before
            go (inr (last, is)) = inr (last ∙ long, is ∙ sym note)

        missing : (i : ℕ) (p : F × SmallEntry) → slice_get rows i ≡ Some p → eq form p.0 ≡ true → ⊥
        missing i p h same = true≢false (sym same ∙ absent (eq form) rows none i p h)

        apart : (i j : ℕ) (p q : F × SmallEntry) → (slice_get rows i ≡ Some p) ⊎ ((i ≡ length rows) × (p ≡ (form, e))) → (slice_get rows j ≡ Some q) ⊎ ((j ≡ length rows) × (q ≡ (form, e)))
            → IsTrue (eq p.0 q.0) → i ≡ j
        apart i j p q (inl h) (inl g) same = indexed.distinct i j p q h g same
        apart i j p q (inl h) (inr (last, is)) same =
            let to_form : eq form p.0 ≡ true = laws.symm form p.0 ∙ sym (ap (λ (x : F × SmallEntry). eq p.0 x.0) is) ∙ same in
            absurd (missing i p h to_form)
        apart i j p q (inr (last, is)) (inl g) same =
            let to_form : eq form q.0 ≡ true = sym (ap (λ (x : F × SmallEntry). eq x.0 q.0) is) ∙ same in
            absurd (missing j q g to_form)
        apart i j p q (inr (last, is)) (inr (last_too, is_too)) same = last ∙ sym last_too

  -- the first rows are kept, and the slots are filled anew
  pub indexed_taken : (rows : List (F × SmallEntry)) (old new : List (Slot ℕ)) (n : ℕ) → AreIndexed eq writes rows old → length new ≡ length old
      → length (take n rows) + empties (links_of new) ≡ length old → Holds (HasTag (tags_of writes (take n rows))) new → AreIndexed eq writes (take n rows) new
  indexed_taken rows old new n indexed size count holds =
      record {
        some = omega (arith, size, indexed.some);
        few = omega (arith, size, indexed.few);
        room = subst (λ (m : ℕ). length (take n rows) ≤ room_in m) (sym size) (omega (arith, fewer, indexed.room));
        count = omega (arith, size, count);
        holds = holds;
        distinct = λ i j p q h g. indexed.distinct i j p q (taken_before n rows i p h) (taken_before n rows j q g);
      }
    where
      fewer : length (take n rows) ≤ length rows
      fewer = taken_fewer n rows

-- the row at the place, with another entry
pub set_is : {F : Type 0} (rows : List (F × SmallEntry)) (i : ℕ) (p : F × SmallEntry) (e : SmallEntry) → slice_get rows i ≡ Some p → slice_set rows i (p.0, e) ≡ set_entry_at rows i e
set_is [] i p e h = absurd (cc)
set_is {F = F} (r ∷ rs) zero p e h = let same : r ≡ p = cc in ap (λ (q : F × SmallEntry). (q.0, e) ∷ rs) (sym same)
set_is {F = F} (r ∷ rs) (suc i) p e h = ap (λ (ps : List (F × SmallEntry)). r ∷ ps) (set_is rs i p e h)

-- no row has a form that is equal to one that none has
pub absent_equal : {F : Type 0} (eq : F → F → Bool) (laws : IsEquivalence eq) (rows : List (F × SmallEntry)) (form copy : F) → eq form copy ≡ true
    → position (eq form) (keys_of rows) ≡ None → position (eq copy) (keys_of rows) ≡ None
absent_equal eq laws rows form copy same none =
    position_none (eq copy) rows (λ i p h. sym (laws.congr form copy p.0 same) ∙ absent (eq form) rows none i p h)

-- a row was appended where none was found
pub none_pushed : (index : Option ℕ) (Pushed : Type 0) → index ≡ None → IfNone index Pushed → Pushed
none_pushed None Pushed none is = is
none_pushed (Some i) Pushed none is = absurd (cc)

-- nothing was appended where one was found
pub some_same : (index : Option ℕ) (i : ℕ) (Same : Type 0) → index ≡ Some i → IfSome index (λ _. Same) → Same
some_same None i Same found same = absurd (cc)
some_same (Some j) i Same found same = same
