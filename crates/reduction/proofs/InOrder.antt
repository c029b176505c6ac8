-- Numbers that are marked, and listed in their order.
use Rattle.std.proofs.Common.{◌≡◌, ℕ, ◌+◌, ◌<◌, ◌≤◌, Bool, true, false, List, [], ◌∷◌, ◌++◌, length, take, filter, get_or, replicate, sym, ap, subst, ◌∙◌, arith, ⊎_elim}
use Rattle.std.specs.Prelude.{◌↔◌, All, Contains, slice_set}
use Rattle.std.specs.List.{range_with_len}
use Rattle.std.proofs.lemmas.List.{length-set, length-replicate, take_more, take_all, get_or-set_same}
use Rattle.std.proofs.lemmas.List.Elements.{All-nil, All-more, All-weaker, All-contains, Contains-push, Contains-append_left}
use Rattle.reduction.specs.Closing.{is_marked}
use Rattle.reduction.proofs.ClosingLaws.{marked_after, marks_retained, unmarked}
use Rattle.reduction.proofs.LoopLaws.{in_filter, of_filter}

-- the first numbers are marked, and no others
pub record AreListed (count i : ℕ) (numbers : List ℕ) (marks : List Bool) : Type 0 where
  pub long : length marks ≡ count
  pub all : All (λ n. is_marked marks n ≡ true) (take i numbers)
  pub only : (n : ℕ) → is_marked marks n ≡ true → Contains (take i numbers) n

pub listed_none : (count : ℕ) (numbers : List ℕ) (marks : List Bool) → marks ≡ replicate count false → AreListed count 0 numbers marks
listed_none count numbers marks e =
    record {
      long = ap (λ (bs : List Bool). length bs) e ∙ length-replicate count false;
      all = All-nil (λ (n : ℕ). is_marked marks n ≡ true);
      only = λ n h. absurd (unmarked count n (subst (λ (bs : List Bool). is_marked bs n ≡ true) e h));
    }

pub listed_more : (count i d : ℕ) (numbers : List ℕ) (marks : List Bool) → i < length numbers → get_or numbers i d < count → AreListed count i numbers marks → AreListed count (i + 1) numbers (slice_set marks (get_or numbers i d) true)
listed_more count i d numbers marks l within are =
    record {
      long = length-set marks (get_or numbers i d) true ∙ are.long;
      all = All-more (λ (n : ℕ). is_marked after n ≡ true) numbers i d l
          (All-weaker (λ (n : ℕ). is_marked marks n ≡ true) (λ (n : ℕ). is_marked after n ≡ true) (marks_retained marks (get_or numbers i d) inside) (take i numbers) are.all)
          (get_or-set_same marks (get_or numbers i d) true false inside);
      only = λ n h. subst (λ (xs : List ℕ). Contains xs n) (sym (take_more numbers i d l))
          (⊎_elim
          (λ (e : n ≡ get_or numbers i d). subst (Contains (take i numbers ++ get_or numbers i d ∷ [])) (sym e) (Contains-push (take i numbers) (get_or numbers i d)))
          (λ (m : is_marked marks n ≡ true). Contains-append_left (take i numbers) (get_or numbers i d ∷ []) n (are.only n m))
          (marked_after marks (get_or numbers i d) n inside h));
    }
  where
    after : List Bool
    after = slice_set marks (get_or numbers i d) true

    inside : get_or numbers i d < length marks
    inside = omega (arith, within, are.long)

pub same_numbers : (count i n : ℕ) (numbers ordered : List ℕ) (marks : List Bool) → length numbers ≤ i → AreListed count i numbers marks → All (λ x. x < count) numbers → n ≡ count → ordered ≡ filter (is_marked marks) (range_with_len 0 n) →
    (x : ℕ) → Contains ordered x ↔ Contains numbers x
same_numbers count i n numbers ordered marks l are below e made x = (
  λ h. subst (λ (xs : List ℕ). Contains xs x) whole (are.only x (of_filter (is_marked marks) n x (subst (λ (xs : List ℕ). Contains xs x) made h)).1),
  λ h.
      let within : x < count = All-contains (λ (y : ℕ). y < count) numbers x below h in
      let marked : is_marked marks x ≡ true = All-contains (λ (y : ℕ). is_marked marks y ≡ true) numbers x (subst (All (λ (y : ℕ). is_marked marks y ≡ true)) whole are.all) h in
      subst (λ (xs : List ℕ). Contains xs x) (sym made) (in_filter (is_marked marks) n x (omega (arith, within, e)) marked),
)
  where
    whole : take i numbers ≡ numbers
    whole = take_all i numbers l
