-- Slots that are looked at one after another from a home.
use Rattle.std.proofs.Common.{◌≡◌, ◌≢◌, ◌⊎◌, ℕ, suc, ◌+◌, ◌-◌, ◌<◌, ◌≤◌, cond, eqb, ltb, List, [], ◌∷◌, length, get_or, set, Some, inl, inr, refl, sym, ap, ◌∙◌, arith}
use Rattle.std.specs.Prelude.{slice_get}
use Rattle.std.proofs.lemmas.Bool.{cond-true, cond-false, cases_lt, lt-ltb, le-ltb, eq-eqb, ne_eqb}
use Rattle.std.proofs.lemmas.List.{get_or-set_same, get_or-set_other, length-set, length-map, get_or-map}
use Rattle.std.proofs.lemmas.List.Sums.{sum_by-set}
use Rattle.std.proofs.lemmas.Option.{slice_get_within, get_or_from_slice_get}
use Rattle.slots.specs.declared.probing.Slot.{Slot}
use Rattle.slots.specs.Slots.{links_of, empties, link_after, probed, AreTaken, IsFirstEmpty, IsFoundAfter}

-- the link of a slot that was read
pub link_read : {N : Type 0} (slots : List (Slot N)) (k : ℕ) (slot : Slot N) → slice_get slots k ≡ Some slot → get_or (links_of slots) k 0 ≡ slot.link
link_read {N = N} slots k slot read =
    get_or-map (λ s. s.link) slots k slot 0 (slice_get_within slots k slot read)
    ∙ ap (λ (s : Slot N). s.link) (get_or_from_slice_get slots k slot slot read)

-- and of one that is as many steps after the home
pub link_there : {N : Type 0} (slots : List (Slot N)) (home steps : ℕ) (slot : Slot N) → slice_get slots (probed (length slots) home steps) ≡ Some slot
    → link_after (links_of slots) home steps ≡ slot.link
link_there {N = N} slots home steps slot read =
    ap (λ (n : ℕ). get_or (links_of slots) (probed n home steps) 0) (length-map slots (λ s. s.link))
    ∙ link_read slots (probed (length slots) home steps) slot read

-- each slot is reached
probed_before : (size home k : ℕ) → home ≤ k → k < size → probed size home (k - home) ≡ k
probed_before size home k l m =
    cond-true (ltb (home + (k - home)) size) (home + (k - home)) (home + (k - home) - size) (lt-ltb (home + (k - home)) size (omega (arith, l, m))) ∙ omega (arith, l)

probed_around : (size home k : ℕ) → k < home → home < size → probed size home (k + size - home) ≡ k
probed_around size home k l m =
    cond-false (ltb (home + (k + size - home)) size) (home + (k + size - home)) (home + (k + size - home) - size) (le-ltb (home + (k + size - home)) size (omega (arith, l, m))) ∙ omega (arith, l, m)

-- it is one of the slots
pub probed_below : (size home steps : ℕ) → home < size → steps < size → probed size home steps < size
probed_below size home steps l m = go (cases_lt (home + steps) size)
  where
    go : (home + steps < size) ⊎ (size ≤ home + steps) → probed size home steps < size
    go (inl k) = rw (cond-true (ltb (home + steps) size) (home + steps) (home + steps - size) (lt-ltb (home + steps) size k)) k
    go (inr k) = rw (cond-false (ltb (home + steps) size) (home + steps) (home + steps - size) (le-ltb (home + steps) size k)) (omega (arith, k, l, m))

-- where all slots from the home on are taken, none is empty
none_empty : (links : List ℕ) → ((k : ℕ) → k < length links → get_or links k 0 ≢ 0) → empties links ≡ 0
none_empty [] taken = refl
none_empty (link ∷ links) taken =
    let first : link ≢ 0 = taken 0 (omega arith) in
    rw (ne_eqb link 0 first) (none_empty links (λ k l. taken (suc k) (omega (arith, l))))

pub all_taken : (links : List ℕ) (home : ℕ) → home < length links → AreTaken links home (length links) → empties links ≡ 0
all_taken links home l taken = none_empty links (λ k m. go k m (cases_lt k home))
  where
    go : (k : ℕ) → k < length links → (k < home) ⊎ (home ≤ k) → get_or links k 0 ≢ 0
    go k m (inl b) = λ e. taken (k + length links - home) (omega (arith, l, m, b)) (ap (λ (n : ℕ). get_or links n 0) (probed_around (length links) home k b l) ∙ e)
    go k m (inr b) = λ e. taken (k - home) (omega (arith, m, b)) (ap (λ (n : ℕ). get_or links n 0) (probed_before (length links) home k b m) ∙ e)

-- 1 for the link of an empty slot
abbrev counted : ℕ → ℕ
counted link = cond (eqb link 0) 1 0

-- a slot is put in the place of an empty one
module _ (links : List ℕ) (at link : ℕ) (inside : at < length links) (free : get_or links at 0 ≡ 0) (full : link ≢ 0) where
  -- one fewer is empty
  pub empties_fewer : empties links ≡ empties (set links at link) + 1
  empties_fewer =
      let sums = sum_by-set counted links at link 0 inside in
      let was : counted (get_or links at 0) ≡ 1 = cond-true (eqb (get_or links at 0) 0) 1 0 (eq-eqb (get_or links at 0) 0 free) in
      let is : counted link ≡ 0 = cond-false (eqb link 0) 1 0 (ne_eqb link 0 full) in
      omega (arith, sums, was, is)

  -- what was taken stays as it was
  pub stays : (k : ℕ) → get_or links k 0 ≢ 0 → get_or (set links at link) k 0 ≡ get_or links k 0
  stays k taken = get_or-set_other links at k link 0 (λ e. taken (ap (λ (n : ℕ). get_or links n 0) e ∙ free))

  pub stays_taken : (home steps : ℕ) → AreTaken links home steps → AreTaken (set links at link) home steps
  stays_taken home steps taken j l =
      let same : probed (length (set links at link)) home j ≡ probed (length links) home j = ap (λ (n : ℕ). probed n home j) (length-set links at link) in
      λ e. taken j l (sym (stays (probed (length links) home j) (taken j l)) ∙ ap (λ (k : ℕ). get_or (set links at link) k 0) (sym same) ∙ e)

  pub stays_found : (home place steps : ℕ) → IsFoundAfter links home place steps → IsFoundAfter (set links at link) home place steps
  stays_found home place steps found =
      let same : probed (length (set links at link)) home steps ≡ probed (length links) home steps = ap (λ (n : ℕ). probed n home steps) (length-set links at link) in
      let taken : link_after links home steps ≢ 0 = λ e. absurd (omega (arith, found.here, e)) in
      record {
        within = omega (arith, length-set links at link, found.within);
        here =
            ap (λ (k : ℕ). get_or (set links at link) k 0) same
            ∙ stays (probed (length links) home steps) taken
            ∙ found.here;
        taken = stays_taken home steps found.taken;
      }

-- and is then found there
pub found_there : (links : List ℕ) (home steps place link : ℕ) → home < length links → IsFirstEmpty links home steps → link ≡ place + 1
    → IsFoundAfter (set links (probed (length links) home steps) link) home place steps
found_there links home steps place link l first e =
    let at = probed (length links) home steps in
    let inside : at < length links = probed_below (length links) home steps l first.within in
    let full : link ≢ 0 = λ z. absurd (omega (arith, e, z)) in
    let same : probed (length (set links at link)) home steps ≡ at = ap (λ (n : ℕ). probed n home steps) (length-set links at link) in
    record {
      within = omega (arith, length-set links at link, first.within);
      here = ap (λ (k : ℕ). get_or (set links at link) k 0) same ∙ get_or-set_same links at link 0 inside ∙ e;
      taken = stays_taken links at link inside first.free full home steps first.taken;
    }
