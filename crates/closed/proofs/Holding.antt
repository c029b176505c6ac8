-- Places and tags as they lie in slots: what adding one does, and what stays where all are added to other slots.
use Rattle.std.proofs.Common.{◌≡◌, ◌≢◌, ◌⊎◌, ℕ, zero, suc, ◌+◌, ◌-◌, ◌<◌, ◌≤◌, cond, eqb, List, [], ◌∷◌, ◌++◌, length, get_or, take, drop, Some, inl, inr, sym, ap, ◌∙◌, subst, arith}
use Rattle.std.specs.Prelude.{slice_get}
use Rattle.std.proofs.lemmas.Bool.{cases_lt, cases_eq, eq-eqb, ne_eqb}
use Rattle.std.proofs.lemmas.List.{length-map, length-drop, get_or_past, take_all, drop_all, append-nil}
use Rattle.std.proofs.lemmas.List.Sums.{sum_by-take-drop, count_by-le-length, count_by_more_yes, count_by_more_no}
use Rattle.std.proofs.lemmas.Option.{slice_get_within, slice_get-get_or}
use Rattle.slots.specs.declared.probing.Slot.{Slot}
use Rattle.slots.specs.Slots.{links_of, empties, probed, home_of, IsFoundAfter, AddsSlot}
use Rattle.slots.proofs.Probes.{link_read}
use Rattle.slots.proofs.Added.{none_taken, length_added, found_still, found_now, read_now}
use Rattle.std.specs.Hash.{HashWrites}
use Rattle.closed.specs.declared.small_entry.SmallEntry.{SmallEntry}
use Rattle.closed.specs.Rows.{tag_of, tags_of, HasTag, IsAmongFirst, Holds}

-- ---- empty slots

-- 1 for the link of an empty slot
abbrev counted : ℕ → ℕ
counted link = cond (eqb link 0) 1 0

-- the number of empty slots among the first ones, and among all
pub empties_behind : (links : List ℕ) (k : ℕ) → k ≤ length links → empties links + k ≤ empties (take k links) + length links
empties_behind links k l =
    let split = sum_by-take-drop counted links k in
    let few = count_by-le-length (λ l. eqb l 0) (drop k links) in
    omega (arith, split, few, length-drop k links, l)

-- ---- what is held

-- the same places and tags, told in another way
pub holds_alike : (In Other : ℕ → ℕ → Type 0) (slots : List (Slot ℕ)) → ((place tag : ℕ) → In place tag → Other place tag)
    → ((place tag : ℕ) → Other place tag → In place tag) → Holds In slots → Holds Other slots
holds_alike In Other slots there back holds =
    record {
      found = λ place tag is. holds.found place tag (back place tag is);
      only = λ k slot read taken. there (slot.link - 1) slot.note (holds.only k slot read taken);
    }

-- slots that are empty hold nothing
pub holds_none : (In : ℕ → ℕ → Type 0) (slots : List (Slot ℕ)) → ((place tag : ℕ) → In place tag → ⊥) → empties (links_of slots) ≡ length slots → Holds In slots
holds_none In slots none all =
    record {
      found = λ place tag is. absurd (none place tag is);
      only = λ k slot read taken. absurd (taken (none_taken slots all k slot read));
    }

-- one slot is added
pub holds_added : (slots new : List (Slot ℕ)) (home place : ℕ) (slot : Slot ℕ) → home < length slots → slot.link ≡ place + 1 → AddsSlot home slot slots new → (In : ℕ → ℕ → Type 0) → Holds In slots
    → home ≡ home_of slot.note (length slots) → Holds (λ p t. In p t ⊎ ((p ≡ place) × (t ≡ slot.note))) new
holds_added slots new home place slot inside links adds In holds at_home =
    record { found = found; only = λ k s read. only k s read (read_now slots new home place slot inside links adds k s read) }
  where
    size : length new ≡ length slots
    size = length_added slots new home place slot inside links adds

    found : (p t : ℕ) → In p t ⊎ ((p ≡ place) × (t ≡ slot.note)) → (s : ℕ) × IsFoundAfter (links_of new) (home_of t (length new)) p s
    found p t (inl is) =
        let before = holds.found p t is in (
          before.0,
          subst (λ (n : ℕ). IsFoundAfter (links_of new) (home_of t n) p before.0) (sym size)
              (found_still slots new home place slot inside links adds (home_of t (length slots)) p before.0 before.1),
        )
    found p t (inr (is_place, is_note)) =
        let there : home ≡ home_of t (length new) = at_home ∙ ap (λ (m : ℕ). home_of m (length slots)) (sym is_note) ∙ ap (home_of t) (sym size) in (
          adds.0,
          subst (λ (q : ℕ). IsFoundAfter (links_of new) (home_of t (length new)) q adds.0) (sym is_place)
              (subst (λ (h : ℕ). IsFoundAfter (links_of new) h place adds.0) there (found_now slots new home place slot inside links adds)),
        )

    only : (k : ℕ) (s : Slot ℕ) → slice_get new k ≡ Some s → (s ≡ slot) ⊎ (slice_get slots k ≡ Some s) → s.link ≢ 0 → In (s.link - 1) s.note ⊎ ((s.link - 1 ≡ place) × (s.note ≡ slot.note))
    only k s read (inl same) taken = inr (omega (arith, ap (λ (x : Slot ℕ). x.link) same, links), ap (λ (x : Slot ℕ). x.note) same)
    only k s read (inr before) taken = inl (holds.only k s before taken)

-- ---- slots that are taken, added to others one after another

module _ (taken : List (Slot ℕ)) (k : ℕ) (slot : Slot ℕ) (read : slice_get taken k ≡ Some slot) where
  inside_taken : k < length taken
  inside_taken = slice_get_within taken k slot read

  earlier : (place tag : ℕ) → IsAmongFirst k taken place tag → IsAmongFirst (k + 1) taken place tag
  earlier place tag (j, s, l, there, link, note) = (j, s, omega (arith, l), there, link, note)

  -- one of the first is that slot or an earlier one
  first_or : (place tag : ℕ) → IsAmongFirst (k + 1) taken place tag → IsAmongFirst k taken place tag ⊎ ((place + 1 ≡ slot.link) × (tag ≡ slot.note))
  first_or place tag (j, s, l, there, link, note) = go (cases_eq j k)
    where
      go : (j ≡ k) ⊎ (j ≡ k → ⊥) → IsAmongFirst k taken place tag ⊎ ((place + 1 ≡ slot.link) × (tag ≡ slot.note))
      go (inl e) =
          let here : slice_get taken j ≡ Some slot = ap (slice_get taken) e ∙ read in
          let same : s ≡ slot = cc in
          inr (sym link ∙ ap (λ (x : Slot ℕ). x.link) same, sym note ∙ ap (λ (x : Slot ℕ). x.note) same)
      go (inr n) = inl (j, s, omega (arith, l, n), there, link, note)

  -- an empty one adds nothing
  pub first_empty : (slots : List (Slot ℕ)) → slot.link ≡ 0 → Holds (IsAmongFirst k taken) slots → Holds (IsAmongFirst (k + 1) taken) slots
  first_empty slots free = holds_alike (IsAmongFirst k taken) (IsAmongFirst (k + 1) taken) slots earlier back
    where
      back : (place tag : ℕ) → IsAmongFirst (k + 1) taken place tag → IsAmongFirst k taken place tag
      back place tag is = go (first_or place tag is)
        where
          go : IsAmongFirst k taken place tag ⊎ ((place + 1 ≡ slot.link) × (tag ≡ slot.note)) → IsAmongFirst k taken place tag
          go (inl before) = before
          go (inr (link, note)) = absurd (omega (arith, link, free))

  pub count_empty : slot.link ≡ 0 → empties (take (k + 1) (links_of taken)) ≡ empties (take k (links_of taken)) + 1
  count_empty free =
      count_by_more_yes (λ l. eqb l 0) (links_of taken) k 0 (omega (arith, inside_taken, length-map taken (λ s. s.link)))
      (eq-eqb (get_or (links_of taken) k 0) 0 (link_read taken k slot read ∙ free))

  -- and another one is added
  pub first_added : (slots : List (Slot ℕ)) → slot.link ≢ 0 → Holds (λ p t. IsAmongFirst k taken p t ⊎ ((p ≡ slot.link - 1) × (t ≡ slot.note))) slots
      → Holds (IsAmongFirst (k + 1) taken) slots
  first_added slots full = holds_alike (λ p t. IsAmongFirst k taken p t ⊎ ((p ≡ slot.link - 1) × (t ≡ slot.note))) (IsAmongFirst (k + 1) taken) slots there back
    where
      there : (place tag : ℕ) → IsAmongFirst k taken place tag ⊎ ((place ≡ slot.link - 1) × (tag ≡ slot.note)) → IsAmongFirst (k + 1) taken place tag
      there place tag (inl before) = earlier place tag before
      there place tag (inr (is, note)) = (k, slot, omega arith, read, omega (arith, is, full), sym note)

      back : (place tag : ℕ) → IsAmongFirst (k + 1) taken place tag → IsAmongFirst k taken place tag ⊎ ((place ≡ slot.link - 1) × (tag ≡ slot.note))
      back place tag is = go (first_or place tag is)
        where
          go : IsAmongFirst k taken place tag ⊎ ((place + 1 ≡ slot.link) × (tag ≡ slot.note)) → IsAmongFirst k taken place tag ⊎ ((place ≡ slot.link - 1) × (tag ≡ slot.note))
          go (inl before) = inl before
          go (inr (link, note)) = inr (omega (arith, link), note)

  pub count_full : slot.link ≢ 0 → empties (take (k + 1) (links_of taken)) ≡ empties (take k (links_of taken))
  count_full full =
      count_by_more_no (λ l. eqb l 0) (links_of taken) k 0 (omega (arith, inside_taken, length-map taken (λ s. s.link)))
      (ne_eqb (get_or (links_of taken) k 0) 0 (λ e. full (sym (link_read taken k slot read) ∙ e)))

-- what slots held is held by those to which all were added
pub holds_moved : (tags : List ℕ) (old new : List (Slot ℕ)) → Holds (HasTag tags) old → Holds (IsAmongFirst (length old) old) new → Holds (HasTag tags) new
holds_moved tags old new was = holds_alike (IsAmongFirst (length old) old) (HasTag tags) new there back
  where
    there : (place tag : ℕ) → IsAmongFirst (length old) old place tag → HasTag tags place tag
    there place tag (k, slot, l, read, link, note) =
        let is = was.only k slot read (λ z. absurd (omega (arith, link, z))) in
        let same : slot.link - 1 ≡ place = omega (arith, link) in
        subst (λ (p : ℕ). HasTag tags p tag) same (subst (λ (t : ℕ). HasTag tags (slot.link - 1) t) note is)

    back : (place tag : ℕ) → HasTag tags place tag → IsAmongFirst (length old) old place tag
    back place tag is = go (cases_lt at (length old))
      where
        found : (steps : ℕ) × IsFoundAfter (links_of old) (home_of tag (length old)) place steps
        found = was.found place tag is

        at : ℕ
        at = probed (length (links_of old)) (home_of tag (length old)) found.0

        go : (at < length old) ⊎ (length old ≤ at) → IsAmongFirst (length old) old place tag
        go (inr past) =
            let none : get_or (links_of old) at 0 ≡ 0 = get_or_past (links_of old) at 0 (omega (arith, past, length-map old (λ (s : Slot ℕ). s.link))) in
            absurd (omega (arith, none, found.1.here))
        go (inl l) =
            let slot = get_or old at (record { link = 0; note = 0 }) in
            let read : slice_get old at ≡ Some slot = slice_get-get_or old at (record { link = 0; note = 0 }) l in
            let link : slot.link ≡ place + 1 = sym (link_read old at slot read) ∙ found.1.here in
            let noted = was.only at slot read (λ z. absurd (omega (arith, link, z))) in
            let here : slot.link - 1 ≡ place = omega (arith, link) in
            let there : HasTag tags place slot.note = subst (λ (p : ℕ). HasTag tags p slot.note) here noted in
            let note : slot.note ≡ tag = cc in
            (at, slot, l, read, link, note)

-- a slot without a row
abbrev pub empty : Slot ℕ
empty = record { link = 0; note = 0 }

-- what a vector has after all its items were written
pub whole : {X : Type 0} (new old : List X) (n : ℕ) → length new ≡ length old → n ≡ length old → take n (new ++ drop (length new) old) ≡ new
whole new old n long all =
    ap (λ ys. take n (new ++ ys)) (drop_all (length new) old (omega (arith, long)))
    ∙ ap (take n) (append-nil new)
    ∙ take_all n new (omega (arith, long, all))

pub is_empty : (slot : Slot ℕ) → (slot.link ≡ 0) × (slot.note ≡ 0) → slot ≡ empty
is_empty slot (link, note) = λ i. record { link = link i; note = note i }

-- ---- rows

-- the place is below the end and has the tag
abbrev pub IsTagBelow : ℕ → List ℕ → ℕ → ℕ → Type 0
IsTagBelow end tags place tag = (place < end) × HasTag tags place tag

module _ (tags : List ℕ) where
  -- one more tag is added
  pub tag_added : (k tag : ℕ) (slots : List (Slot ℕ)) → HasTag tags k tag → Holds (λ p t. IsTagBelow k tags p t ⊎ ((p ≡ k) × (t ≡ tag))) slots → Holds (IsTagBelow (k + 1) tags) slots
  tag_added k tag slots has = holds_alike (λ p t. IsTagBelow k tags p t ⊎ ((p ≡ k) × (t ≡ tag))) (IsTagBelow (k + 1) tags) slots there back
    where
      there : (p t : ℕ) → IsTagBelow k tags p t ⊎ ((p ≡ k) × (t ≡ tag)) → IsTagBelow (k + 1) tags p t
      there p t (inl (below, is)) = (omega (arith, below), is)
      there p t (inr (place, same)) = (omega (arith, place), ap (slice_get tags) place ∙ has ∙ ap Some (sym same))

      back : (p t : ℕ) → IsTagBelow (k + 1) tags p t → IsTagBelow k tags p t ⊎ ((p ≡ k) × (t ≡ tag))
      back p t (below, is) = go (cases_eq p k)
        where
          go : (p ≡ k) ⊎ (p ≡ k → ⊥) → IsTagBelow k tags p t ⊎ ((p ≡ k) × (t ≡ tag))
          go (inl e) = let there : HasTag tags k t = ap (slice_get tags) (sym e) ∙ is in let same : t ≡ tag = cc in inr (e, same)
          go (inr n) = inl (omega (arith, below, n), is)

  -- all are there in the end
  pub tags_all : (end : ℕ) (slots : List (Slot ℕ)) → length tags ≤ end → Holds (IsTagBelow end tags) slots → Holds (HasTag tags) slots
  tags_all end slots all =
      holds_alike (IsTagBelow end tags) (HasTag tags) slots (λ p t is. is.1)
      (λ p t is. let within = slice_get_within tags p t is in (omega (arith, within, all), is))

-- the tag of a row that was read
pub tag_read : {F : Type 0} (writes : F → HashWrites) (rows : List (F × SmallEntry)) (k : ℕ) (row : F × SmallEntry) → slice_get rows k ≡ Some row
    → HasTag (tags_of writes rows) k (tag_of (writes row.0))
tag_read {F = F} writes [] k row read = absurd (cc)
tag_read {F = F} writes (p ∷ ps) zero row read = let same : p ≡ row = cc in ap (λ (q : F × SmallEntry). Some (tag_of (writes q.0))) same
tag_read {F = F} writes (p ∷ ps) (suc k) row read = tag_read writes ps k row read
