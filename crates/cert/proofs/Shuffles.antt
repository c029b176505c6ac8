-- What does not depend on the order of a list.
use Rattle.std.proofs.Common.{◌≡◌, ◌⊎◌, ℕ, ◌+◌, ◌∙◌, ◌<◌, ◌≤◌, true, List, length, get_or, refl, sym, inl, inr, ⊎_elim, arith}
use Rattle.std.specs.Prelude.{Any, AllPairs}
use Rattle.std.specs.List.{swap}
use Rattle.std.specs.List.Sorted.{IsPermutation}
use Rattle.std.proofs.lemmas.Bool.{cases_eq, cases_order}
use Rattle.std.proofs.lemmas.List.Edits.{length-swap, Swapped, swapped_from_swap}
use Rattle.std.proofs.lemmas.List.Elements.{All-weaker}
use Rattle.std.proofs.lemmas.List.Sorted.{All-permutation, Contains-permutation, IsPermutation-keeps}
use Rattle.std.proofs.lemmas.Option.{IfSome_then}
use Rattle.cost.specs.Distances.{Distance, Finite, ◌≤ᵈ◌, ◌+ᵈ◌}
use Rattle.fdr.specs.Tasks.{FiniteDomainTask, ranges, IsState, step, is_goal_state, cost_of}
use Rattle.cert_value.specs.Certificates.{Entry}
use Rattle.checker_clauses.specs.ClosedLists.{IsListed, IsCovered, CoversSuccessors, IsFinished}
use Rattle.owner_theory.specs.Families.{NoTwice}

any_again : {X : Type 0} (P : X → Type 0) (xs ys : List X) → IsPermutation xs ys → Any P xs → Any P ys
any_again P xs ys moved (k, x, low, is, p) = let there = Contains-permutation xs ys x moved (k, low, is) in (there.0, x, there.1, there.2, p)

-- ---- finished closed lists

module _ (task : FiniteDomainTask) (h : List ℕ → Distance) (bound : Distance) (closed again : List Entry) (moved : IsPermutation closed again) where
  covered_again : (s : List ℕ) (g : ℕ) → IsCovered closed h bound s g → IsCovered again h bound s g
  covered_again s g covered =
      ⊎_elim
      (λ (listed : IsListed closed s g). inl (any_again (λ e. (e.state ≡ s) × (e.cost ≤ g)) closed again moved listed))
      (λ (above : bound ≤ᵈ Finite g +ᵈ h s). inr above)
      covered

  covers_again : (e : Entry) → CoversSuccessors task closed h bound e.state e.cost → CoversSuccessors task again h bound e.state e.cost
  covers_again e covers o = IfSome_then (step task e.state o) (covers o) (λ s. covered_again s (e.cost + cost_of task o))

  pub finished_again : IsFinished task h bound closed → IsFinished task h bound again
  finished_again finished = record {
    states = All-permutation (λ e. IsState (ranges task) e.state) closed again moved finished.states;
    start = covered_again task.initial 0 finished.start;
    goals = All-permutation (λ e. is_goal_state task e.state ≡ true → bound ≤ᵈ Finite e.cost) closed again moved finished.goals;
    successors = All-permutation (λ e. CoversSuccessors task again h bound e.state e.cost) closed again moved
        (All-weaker (λ e. CoversSuccessors task closed h bound e.state e.cost) (λ e. CoversSuccessors task again h bound e.state e.cost) covers_again closed finished.successors);
  }

-- ---- pairs

-- R holds of the elements at any two places
abbrev Apart : {X : Type 0} → (X → X → Type 0) → List X → Type 0
Apart {X} R xs = (i j : ℕ) (d : X) → i < length xs → j < length xs → (i ≡ j → ⊥) → R (get_or xs i d) (get_or xs j d)

-- where the element at a place was before the exchange of two
record Was {X : Type 0} (f g : ℕ → X) (a b n p : ℕ) : Type 0 where
  place : ℕ
  within : place < n
  is : g p ≡ f place
  first : p ≡ a → place ≡ b
  second : p ≡ b → place ≡ a
  other : (p ≡ a → ⊥) → (p ≡ b → ⊥) → place ≡ p

was_at : {X : Type 0} (f g : ℕ → X) (a b n : ℕ) → Swapped f g a b → a < n → b < n → (p : ℕ) → p < n → Was f g a b n p
was_at f g a b n swapped low_a low_b p low = go (cases_eq p a) (cases_eq p b)
  where
    go : (p ≡ a) ⊎ (p ≡ a → ⊥) → (p ≡ b) ⊎ (p ≡ b → ⊥) → Was f g a b n p
    go (inl e) second = record { place = b; within = low_b; is = rw e swapped.0; first = λ _. refl; second = λ e'. sym e' ∙ e; other = λ ne _. absurd (ne e) }
    go (inr ne) (inl e) = record { place = a; within = low_a; is = rw e swapped.1; first = λ e'. absurd (ne e'); second = λ _. refl; other = λ _ ne'. absurd (ne' e) }
    go (inr ne) (inr ne') = record { place = p; within = low; is = swapped.2 p ne ne'; first = λ e. absurd (ne e); second = λ e. absurd (ne' e); other = λ _ _. refl }

apart_before : {X : Type 0} (f g : ℕ → X) (a b n i j : ℕ) (x : Was f g a b n i) (y : Was f g a b n j) → (i ≡ j → ⊥) → x.place ≡ y.place → ⊥
apart_before f g a b n i j x y ne same = go (cases_eq i a) (cases_eq i b) (cases_eq j a) (cases_eq j b)
  where
    go : (i ≡ a) ⊎ (i ≡ a → ⊥) → (i ≡ b) ⊎ (i ≡ b → ⊥) → (j ≡ a) ⊎ (j ≡ a → ⊥) → (j ≡ b) ⊎ (j ≡ b → ⊥) → ⊥
    go (inl ia) ib (inl ja) jb = ne (ia ∙ sym ja)
    go (inl ia) ib (inr nja) (inl jb) = ne (ia ∙ sym (y.second jb) ∙ sym same ∙ x.first ia ∙ sym jb)
    go (inl ia) ib (inr nja) (inr njb) = njb (sym (y.other nja njb) ∙ sym same ∙ x.first ia)
    go (inr nia) (inl ib) (inl ja) jb = ne (ib ∙ sym (y.first ja) ∙ sym same ∙ x.second ib ∙ sym ja)
    go (inr nia) (inl ib) (inr nja) (inl jb) = ne (ib ∙ sym jb)
    go (inr nia) (inl ib) (inr nja) (inr njb) = nja (sym (y.other nja njb) ∙ sym same ∙ x.second ib)
    go (inr nia) (inr nib) (inl ja) jb = nib (sym (x.other nia nib) ∙ same ∙ y.first ja)
    go (inr nia) (inr nib) (inr nja) (inl jb) = nia (sym (x.other nia nib) ∙ same ∙ y.second jb)
    go (inr nia) (inr nib) (inr nja) (inr njb) = ne (sym (x.other nia nib) ∙ same ∙ y.other nja njb)

module _ {X : Type 0} (R : X → X → Type 0) where
  apart_swapped : (xs : List X) (a b : ℕ) → a < length xs → b < length xs → Apart R xs → Apart R (swap xs a b)
  apart_swapped xs a b low_a low_b apart i j d low_i low_j ne =
      let f : ℕ → X = λ k. get_or xs k d in
      let g : ℕ → X = λ k. get_or (swap xs a b) k d in
      let n : ℕ = length xs in
      let swapped : Swapped f g a b = swapped_from_swap xs (swap xs a b) a b d low_a low_b refl in
      let long = length-swap xs a b in
      let x = was_at f g a b n swapped low_a low_b i (omega (arith, low_i, long)) in
      let y = was_at f g a b n swapped low_a low_b j (omega (arith, low_j, long)) in
      rw (x.is, y.is) (apart x.place y.place d x.within y.within (apart_before f g a b n i j x y ne))

  pairs_apart : ((x y : X) → R x y → R y x) → (xs : List X) → AllPairs R xs → Apart R xs
  pairs_apart back xs pairs i j d low_i low_j ne = go (cases_order i j)
    where
      go : (i ≡ j) ⊎ ((i < j) ⊎ (j < i)) → R (get_or xs i d) (get_or xs j d)
      go (inl e) = absurd (ne e)
      go (inr (inl l)) = pairs i j d l low_j
      go (inr (inr l)) = back _ _ (pairs j i d l low_i)

  pub pairs_again : ((x y : X) → R x y → R y x) → (xs ys : List X) → IsPermutation xs ys → AllPairs R xs → AllPairs R ys
  pairs_again back xs ys moved pairs i j d low within =
      let apart : Apart R ys = IsPermutation-keeps xs (Apart R) (pairs_apart back xs pairs) apart_swapped ys moved in
      apart i j d (omega (arith, low, within)) within (λ e. omega (arith, e, low))

pub once_again : (closed again : List Entry) → IsPermutation closed again → NoTwice closed → NoTwice again
once_again closed again moved once = pairs_again (λ d e. d.state ≡ e.state → ⊥) (λ d e differ same. differ (sym same)) closed again moved once
