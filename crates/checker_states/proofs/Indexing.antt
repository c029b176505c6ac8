-- How the places of a closed list are put into the slots of a part one after another, and how a state is looked up in them.
use Rattle.std.proofs.Common.{◌≡◌, ◌≢◌, ◌⊎◌, ℕ, suc, ◌+◌, ◌-◌, ◌<◌, ◌≤◌, Bool, true, false, List, [], ◌∷◌, length, get_or, Option, Some, None, inl, inr, refl, sym, ap, ◌∙◌, subst, arith}
use Rattle.std.specs.Prelude.{All, IsSomeAnd, slice_get, nat_eq, nat_le, option_map}
use Rattle.std.specs.Option.{option_map_or}
use Rattle.std.specs.List.{list_any}
use Rattle.std.specs.Cmp.Lexicographic.{pointwise}
use Rattle.std.proofs.lemmas.Bool.{cases_lt, cases_eq, and_parts, false_from_ne_true, true≢false}
use Rattle.std.proofs.lemmas.Bool.Decides.{Decides-eqb}
use Rattle.std.proofs.lemmas.Slice.Eq.{slice_eq-Decides}
use Rattle.std.proofs.lemmas.List.{length-map}
use Rattle.std.proofs.lemmas.List.Folds.{list_any_at}
use Rattle.std.proofs.lemmas.Option.{slice_get-get_or, same_Some}
use Rattle.cert_value.specs.Certificates.{Entry}
use Rattle.checker_clauses.specs.Clauses.{is_listed}
use Rattle.slots.specs.declared.probing.Slot.{Slot}
use Rattle.slots.specs.Slots.{links_of, empties, link_after, home_of, IsFoundAfter, AddsSlot}
use Rattle.slots.proofs.Added.{none_taken, length_added, found_still, found_now, read_now}
use Rattle.checker_states.specs.declared.note.Note.{Note}
use Rattle.checker_states.specs.Hashes.{hash_of, part_of, number_of}
use Rattle.checker_states.specs.Lists.{lists}
use Rattle.checker_states.specs.Indexes.{empty, note_of, IsIn, IsNoted, IndexesPart, IsPart}

-- the entry whose state and cost were read
pub entry_read : (closed : List Entry) (place cost : ℕ) (state : List ℕ) → option_map (λ (e : Entry). e.state) (slice_get closed place) ≡ Some state
    → option_map (λ (e : Entry). e.cost) (slice_get closed place) ≡ Some cost → slice_get closed place ≡ Some (record { cost = cost; state = state })
entry_read closed place cost state = go (slice_get closed place)
  where
    go : (r : Option Entry) → option_map (λ (e : Entry). e.state) r ≡ Some state → option_map (λ (e : Entry). e.cost) r ≡ Some cost → r ≡ Some (record { cost = cost; state = state })
    go None e f = cc
    go (Some x) e f =
        let same : x.state ≡ state = cc in
        let cheap : x.cost ≡ cost = cc in
        λ i. Some (record { cost = cheap i; state = same i })

-- a slot with the parts of an empty one is that
pub is_empty : (slot : Slot Note) → (slot.link ≡ 0) × (slot.note ≡ empty.note) → slot ≡ empty
is_empty slot (link, note) = λ i. record { link = link i; note = note i }

-- a buffer of the width of all states is as wide as the one at a place
pub buffer_fits : (closed : List Entry) (place wide width : ℕ) → place < length closed → All (λ e. length e.state ≡ wide) closed → width ≡ wide
    → IsSomeAnd (slice_get closed place) (λ e. length e.state ≡ width)
buffer_fits closed place wide width l all same =
    let none : Entry = record { cost = 0; state = [] } in
    subst (λ (r : Option Entry). IsSomeAnd r (λ e. length e.state ≡ width)) (sym (slice_get-get_or closed place none l)) (all place none l ∙ sym same)

module _ (parts part : ℕ) (multipliers : List ℕ) (closed : List Entry) where
  -- slots that are empty index no place
  pub part_begins : (slots : List (Slot Note)) → empties (links_of slots) ≡ length slots → IndexesPart parts part multipliers closed 0 slots
  part_begins slots all =
      record {
        found = λ i e l read here. absurd (omega (arith, l));
        noted = λ k slot read taken. absurd (taken (none_taken slots all k slot read));
      }

  -- what is noted stays so
  noted_further : (place : ℕ) (slot : Slot Note) → IsNoted multipliers closed place slot → IsNoted multipliers closed (place + 1) slot
  noted_further place slot (e, l, read, note) = (e, omega (arith, l), read, note)

  module _ (slots : List (Slot Note)) (place : ℕ) (state : List ℕ) (so_far : IndexesPart parts part multipliers closed place slots) where
    -- a place of another part is left out
    pub part_skips : option_map (λ (e : Entry). e.state) (slice_get closed place) ≡ Some state → part_of (hash_of multipliers state) parts ≢ part
        → IndexesPart parts part multipliers closed (place + 1) slots
    part_skips read other =
        record {
          found = λ i e l at here. go i e l at here (cases_eq i place);
          noted = λ k slot at taken. noted_further place slot (so_far.noted k slot at taken);
        }
      where
        go : (i : ℕ) (e : Entry) → i < place + 1 → slice_get closed i ≡ Some e → part_of (hash_of multipliers e.state) parts ≡ part → (i ≡ place) ⊎ (i ≡ place → ⊥)
            → IsIn slots parts (hash_of multipliers e.state) i
        go i e l at here (inr q) = so_far.found i e (omega (arith, l, q)) at here
        go i e l at here (inl q) =
            let there : slice_get closed place ≡ Some e = ap (slice_get closed) (sym q) ∙ at in
            let same : e.state ≡ state = same_Some e.state state (sym (ap (option_map (λ (x : Entry). x.state)) there) ∙ read) in
            absurd (other (ap (λ (s : List ℕ). part_of (hash_of multipliers s) parts) (sym same) ∙ here))

    -- and one of this part is added
    pub part_grows : (cost : ℕ) → slice_get closed place ≡ Some (record { cost = cost; state = state }) → (home : ℕ) (slot : Slot Note) (new : List (Slot Note)) → home < length slots → home ≡ home_of (number_of (hash_of multipliers state) parts) (length slots) → slot.link ≡ place + 1
        → slot.note ≡ note_of (hash_of multipliers state) cost → AddsSlot home slot slots new → IndexesPart parts part multipliers closed (place + 1) new
    part_grows cost read home slot new inside at_home links note adds =
        record {
          found = λ i e l at here. found i e l at here (cases_eq i place);
          noted = λ k s at taken. noted k s at taken (read_now slots new home place slot inside links adds k s at);
        }
      where
        size : length new ≡ length slots
        size = length_added slots new home place slot inside links adds

        found : (i : ℕ) (e : Entry) → i < place + 1 → slice_get closed i ≡ Some e → part_of (hash_of multipliers e.state) parts ≡ part → (i ≡ place) ⊎ (i ≡ place → ⊥)
            → IsIn new parts (hash_of multipliers e.state) i
        found i e l at here (inr q) =
            let before = so_far.found i e (omega (arith, l, q)) at here in
            let number = number_of (hash_of multipliers e.state) parts in (
              before.0,
              subst (λ (n : ℕ). IsFoundAfter (links_of new) (home_of number n) i before.0) (sym size)
                  (found_still slots new home place slot inside links adds (home_of number (length slots)) i before.0 before.1),
            )
        found i e l at here (inl q) =
            let there : slice_get closed place ≡ Some e = ap (slice_get closed) (sym q) ∙ at in
            let same : record { cost = cost; state = state } ≡ e = cc in
            let now = found_now slots new home place slot inside links adds in
            let home_is : home ≡ home_of (number_of (hash_of multipliers e.state) parts) (length new) =
            at_home ∙ ap (λ (x : Entry). home_of (number_of (hash_of multipliers x.state) parts) (length slots)) same
            ∙ ap (home_of (number_of (hash_of multipliers e.state) parts)) (sym size) in
            (adds.0, subst (λ (p : ℕ). IsFoundAfter (links_of new) (home_of (number_of (hash_of multipliers e.state) parts) (length new)) p adds.0) (sym q) (subst (λ (h : ℕ). IsFoundAfter (links_of new) h place adds.0) home_is now))

        noted : (k : ℕ) (s : Slot Note) → slice_get new k ≡ Some s → s.link ≢ 0 → (s ≡ slot) ⊎ (slice_get slots k ≡ Some s) → IsNoted multipliers closed (place + 1) s
        noted k s at taken (inr before) = noted_further place s (so_far.noted k s before taken)
        noted k s at taken (inl same) =
            let link : s.link ≡ place + 1 = ap (λ (x : Slot Note). x.link) same ∙ links in
            let back : s.link - 1 ≡ place = omega (arith, link) in
            (record { cost = cost; state = state }, omega (arith, link), ap (slice_get closed) back ∙ read, ap (λ (x : Slot Note). x.note) same ∙ note)

-- whether the entry at a place lists the state
abbrev pub lists_there : List Entry → List ℕ → ℕ → ℕ → Bool
lists_there closed state cost place = option_map_or (lists state cost) (slice_get closed place) false

-- the link is of a taken slot, and not that of an entry that lists the state
pub record IsOther (closed : List Entry) (state : List ℕ) (cost link : ℕ) : Type 0 where
  pub taken : link ≢ 0
  pub other : lists_there closed state cost (link - 1) ≡ false

-- the slots fewer steps after the home than these are those of others
abbrev pub AreMissed : List Entry → List (Slot Note) → ℕ → List ℕ → ℕ → ℕ → Type 0
AreMissed closed slots home state cost steps = (j : ℕ) → j < steps → IsOther closed state cost (link_after (links_of slots) home j)

-- one more slot is missed
pub misses : (closed : List Entry) (slots : List (Slot Note)) (home : ℕ) (state : List ℕ) (cost steps : ℕ) → AreMissed closed slots home state cost steps
    → IsOther closed state cost (link_after (links_of slots) home steps) → AreMissed closed slots home state cost (steps + 1)
misses closed slots home state cost steps missed one = λ j l. go j l (cases_eq j steps)
  where
    go : (j : ℕ) → j < steps + 1 → (j ≡ steps) ⊎ (j ≡ steps → ⊥) → IsOther closed state cost (link_after (links_of slots) home j)
    go j l (inl q) = rw q one
    go j l (inr q) = missed j (omega (arith, l, q))

module _ (closed : List Entry) (state : List ℕ) (cost : ℕ) where
  none : Entry
  none = record { cost = 0; state = [] }

  here : (i : ℕ) → i < length closed → slice_get closed i ≡ Some (get_or closed i none)
  here i l = slice_get-get_or closed i none l

  -- an entry that lists it settles the answer
  pub search_found : (place : ℕ) → place < length closed → lists_there closed state cost place ≡ true → is_listed closed state cost ≡ true
  search_found place l e =
      list_any_at (lists state cost) closed place none l (ap (λ (r : Option Entry). option_map_or (lists state cost) r false) (sym (here place l)) ∙ e)

  module _ (parts hash home : ℕ) (multipliers : List ℕ) (slots : List (Slot Note)) (is : IsPart parts (part_of hash parts) multipliers closed slots) (hash_is : hash ≡ hash_of multipliers state)
      (home_is : home ≡ home_of (number_of hash parts) (length slots)) where
    -- an entry that lists the state is not missed where all slots up to an empty one were looked at, or all that there are
    is_missed : (steps : ℕ) → AreMissed closed slots home state cost steps → (link_after (links_of slots) home steps ≡ 0) ⊎ (length slots ≤ steps)
        → (i : ℕ) → i < length closed → lists state cost (get_or closed i none) ≡ false
    is_missed steps missed stop i l = false_from_ne_true (lists state cost (get_or closed i none)) found
      where
        found : lists state cost (get_or closed i none) ≡ true → ⊥
        found e = go (cases_lt after steps) stop
          where
            same : (get_or closed i none).state ≡ state
            same =
                (slice_eq-Decides Decides-eqb (get_or closed i none).state state (pointwise nat_eq (get_or closed i none).state state) refl).0
                (and_parts (pointwise nat_eq (get_or closed i none).state state) (nat_le (get_or closed i none).cost cost) e).0

            hashed : hash_of multipliers (get_or closed i none).state ≡ hash
            hashed = ap (hash_of multipliers) same ∙ sym hash_is

            at_all : IsIn slots parts (hash_of multipliers (get_or closed i none).state) i
            at_all = is.holds.found i (get_or closed i none) l (here i l) (ap (λ (h : ℕ). part_of h parts) hashed)

            after : ℕ
            after = at_all.0

            at : IsFoundAfter (links_of slots) home i after
            at =
                subst (λ (h : ℕ). IsFoundAfter (links_of slots) h i after) (sym home_is)
                (subst (λ (h : ℕ). IsFoundAfter (links_of slots) (home_of (number_of h parts) (length slots)) i after) hashed at_all.1)

            go : (after < steps) ⊎ (steps ≤ after) → (link_after (links_of slots) home steps ≡ 0) ⊎ (length slots ≤ steps) → ⊥
            go (inl m) stop =
                let back : link_after (links_of slots) home after - 1 ≡ i = omega (arith, at.here) in
                let lists_it : lists_there closed state cost i ≡ true = ap (λ (r : Option Entry). option_map_or (lists state cost) r false) (here i l) ∙ e in
                true≢false (sym lists_it ∙ ap (lists_there closed state cost) (sym back) ∙ (missed after m).other)
            go (inr m) (inr all) = absurd (omega (arith, m, all, at.within, length-map slots (λ (s : Slot Note). s.link)))
            go (inr m) (inl z) = last (cases_eq steps after)
              where
                last : (steps ≡ after) ⊎ (steps ≡ after → ⊥) → ⊥
                last (inl q) = let zero_there : link_after (links_of slots) home after ≡ 0 = ap (link_after (links_of slots) home) (sym q) ∙ z in absurd (omega (arith, at.here, zero_there))
                last (inr q) = at.taken steps (omega (arith, m, q)) z

    -- then it is not listed
    pub search_end : (steps : ℕ) → AreMissed closed slots home state cost steps → (link_after (links_of slots) home steps ≡ 0) ⊎ (length slots ≤ steps) → is_listed closed state cost ≡ false
    search_end steps missed stop = any closed (is_missed steps missed stop)
      where
        any : (es : List Entry) → ((i : ℕ) → i < length es → lists state cost (get_or es i none) ≡ false) → list_any (lists state cost) es ≡ false
        any [] h = refl
        any (x ∷ xs) h = rw (h 0 (omega arith)) (any xs (λ i l. h (suc i) (omega (arith, l))))
