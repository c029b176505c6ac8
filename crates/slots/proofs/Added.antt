-- What becomes of slots when one more is added.
use Rattle.std.proofs.Common.{◌≡◌, ◌≢◌, ◌⊎◌, ℕ, zero, suc, ◌+◌, ◌<◌, ◌≤◌, cond, eqb, List, [], ◌∷◌, length, get_or, set, replicate, Some, inl, inr, refl, sym, ap, ◌∙◌, subst, arith}
use Rattle.std.specs.Prelude.{slice_get}
use Rattle.std.proofs.lemmas.Bool.{cond-true, cond-false, cases_eq, eq-eqb, ne_eqb}
use Rattle.std.proofs.lemmas.List.{length-set, length-map, length-replicate, map-set}
use Rattle.std.proofs.lemmas.List.Sums.{sum_by-cons, count_by-le-length}
use Rattle.slots.specs.declared.probing.Slot.{Slot}
use Rattle.slots.specs.Slots.{links_of, empties, probed, IsFoundAfter, AddsSlot}
use Rattle.slots.proofs.Probes.{link_read, probed_below, empties_fewer, stays_found, found_there}

-- ---- lists

pub get_set-same : {X : Type 0} (xs : List X) (i : ℕ) (x : X) → i < length xs → slice_get (set xs i x) i ≡ Some x
get_set-same [] i x l = absurd (omega (arith, l))
get_set-same (y ∷ ys) zero x l = refl
get_set-same (y ∷ ys) (suc i) x l = get_set-same ys i x (omega (arith, l))

pub get_set-other : {X : Type 0} (xs : List X) (i k : ℕ) (x : X) → k ≢ i → slice_get (set xs i x) k ≡ slice_get xs k
get_set-other [] i k x other = refl
get_set-other (y ∷ ys) zero zero x other = absurd (other refl)
get_set-other (y ∷ ys) zero (suc k) x other = refl
get_set-other (y ∷ ys) (suc i) zero x other = refl
get_set-other (y ∷ ys) (suc i) (suc k) x other = get_set-other ys i k x (λ e. other (ap suc e))

-- ---- slots that are all empty

-- 1 for the link of an empty slot
abbrev counted : ℕ → ℕ
counted link = cond (eqb link 0) 1 0

-- where as many are empty as there are, each is
all_empty : (links : List ℕ) → empties links ≡ length links → (k : ℕ) → get_or links k 0 ≡ 0
all_empty [] all k = refl
all_empty (link ∷ links) all k = go (cases_eq link 0) k (all_empty links)
  where
    few : empties links ≤ length links
    few = count_by-le-length (λ l. eqb l 0) links

    cons : empties (link ∷ links) ≡ counted link + empties links
    cons = sum_by-cons counted link links

    go : (link ≡ 0) ⊎ (link ≡ 0 → ⊥) → (k : ℕ) → (empties links ≡ length links → (i : ℕ) → get_or links i 0 ≡ 0) → get_or (link ∷ links) k 0 ≡ 0
    go (inl e) zero rest = e
    go (inl e) (suc k) rest =
        let one : counted link ≡ 1 = cond-true (eqb link 0) 1 0 (eq-eqb link 0 e) in
        rest (omega (arith, all, cons, one)) k
    go (inr n) k rest =
        let none : counted link ≡ 0 = cond-false (eqb link 0) 1 0 (ne_eqb link 0 n) in
        absurd (omega (arith, all, cons, none, few))

-- then no slot that is read is taken
pub none_taken : {N : Type 0} (slots : List (Slot N)) → empties (links_of slots) ≡ length slots → (k : ℕ) (slot : Slot N) → slice_get slots k ≡ Some slot → slot.link ≡ 0
none_taken {N = N} slots all k slot read =
    sym (link_read slots k slot read) ∙ all_empty (links_of slots) (all ∙ sym (length-map slots (λ s. s.link))) k

-- copies of an empty slot are
pub empties_filled : {N : Type 0} (slot : Slot N) → slot.link ≡ 0 → (slots : List (Slot N)) (n : ℕ) → slots ≡ replicate n slot → empties (links_of slots) ≡ length slots
empties_filled {N = N} slot free slots n is =
    ap (λ (ss : List (Slot N)). empties (links_of ss)) is ∙ all n ∙ sym (ap length is ∙ length-replicate n slot)
  where
    all : (n : ℕ) → empties (links_of (replicate n slot)) ≡ n
    all zero = refl
    all (suc n) =
        let more : empties (links_of (replicate (suc n) slot)) ≡ counted slot.link + empties (links_of (replicate n slot)) =
        sum_by-cons counted slot.link (links_of (replicate n slot)) in
        let one : counted slot.link ≡ 1 = cond-true (eqb slot.link 0) 1 0 (eq-eqb slot.link 0 free) in
        more ∙ omega (arith, all n, one)

-- ---- one slot is added

module _ {N : Type 0} (slots new : List (Slot N)) (home place : ℕ) (slot : Slot N) (inside : home < length slots) (links : slot.link ≡ place + 1)
    (adds : AddsSlot home slot slots new) where
  abbrev steps : ℕ
  steps = adds.0

  long : length (links_of slots) ≡ length slots
  long = length-map slots (λ s. s.link)

  abbrev at : ℕ
  at = probed (length (links_of slots)) home steps

  same_at : probed (length slots) home steps ≡ at
  same_at = ap (λ (n : ℕ). probed n home steps) (sym long)

  becomes : new ≡ set slots at slot
  becomes = adds.2 ∙ ap (λ (k : ℕ). set slots k slot) same_at

  links_become : links_of new ≡ set (links_of slots) at slot.link
  links_become = ap links_of becomes ∙ map-set (λ s. s.link) slots at slot

  below : at < length (links_of slots)
  below = probed_below (length (links_of slots)) home steps (omega (arith, inside, long)) adds.1.within

  full : slot.link ≢ 0
  full = λ z. absurd (omega (arith, links, z))

  pub length_added : length new ≡ length slots
  length_added = ap length becomes ∙ length-set slots at slot

  -- one fewer is empty
  pub empties_added : empties (links_of slots) ≡ empties (links_of new) + 1
  empties_added =
      let fewer = empties_fewer (links_of slots) at slot.link below adds.1.free full in
      let now = ap empties links_become in
      omega (arith, fewer, now)

  -- what was found is found
  pub found_still : (h p s : ℕ) → IsFoundAfter (links_of slots) h p s → IsFoundAfter (links_of new) h p s
  found_still h p s is =
      subst (λ (ls : List ℕ). IsFoundAfter ls h p s) (sym links_become) (stays_found (links_of slots) at slot.link below adds.1.free full h p s is)

  -- and so is what was added
  pub found_now : IsFoundAfter (links_of new) home place steps
  found_now =
      subst (λ (ls : List ℕ). IsFoundAfter ls home place steps) (sym links_become) (found_there (links_of slots) home steps place slot.link (omega (arith, inside, long)) adds.1 links)

  -- a slot that is read was there before, or is the one that was added
  pub read_now : (k : ℕ) (s : Slot N) → slice_get new k ≡ Some s → (s ≡ slot) ⊎ (slice_get slots k ≡ Some s)
  read_now k s read = go (cases_eq k at)
    where
      go : (k ≡ at) ⊎ (k ≡ at → ⊥) → (s ≡ slot) ⊎ (slice_get slots k ≡ Some s)
      go (inl e) =
          let there : slice_get new k ≡ Some slot =
          ap (λ (xs : List (Slot N)). slice_get xs k) becomes ∙ ap (slice_get (set slots at slot)) e ∙ get_set-same slots at slot (omega (arith, below, long)) in
          inl (cc)
      go (inr other) = inr (sym (get_set-other slots at k slot other) ∙ ap (λ (xs : List (Slot N)). slice_get xs k) (sym becomes) ∙ read)
