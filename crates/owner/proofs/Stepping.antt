-- Successors by one operator after the other.
use Rattle.std.proofs.Common.{◌≡◌, ℕ, zero, suc, ◌+◌, ◌<◌, ◌≤◌, List, [], ◌∷◌, length, refl, arith, get_or, drop, Option, Some, sym, ap, ◌∙◌, add-one, drop-cons}
use Rattle.std.specs.Prelude.{filter_map}
use Rattle.std.specs.List.{cons_option}
use Rattle.owner_theory.specs.Owners.{SearchSpace, Message, Owner, treat, treat_all}
use Rattle.owner_space.specs.Spaces.{searched}
use Rattle.owner.specs.Owned.{OwnerOf, space_of}

-- one more of the operators
pub one_more : (space : SearchSpace) (me : ℕ) (f : ℕ → Option Message) (os : List ℕ) (i o : ℕ) (m : Message) (old new : Owner)
    → i < length os → o ≡ get_or os i 0 → f o ≡ Some m → new ≡ treat space me old m
    → treat_all space me new (filter_map f (drop (i + 1) os)) ≡ treat_all space me old (filter_map f (drop i os))
one_more space me f os i o m old new lt at is done =
    let rest : drop i os ≡ o ∷ drop (i + 1) os = rw add-one (drop-cons os i 0 lt ∙ ap (λ k. k ∷ drop (suc i) os) (sym at)) in
    ap (λ x. treat_all space me x (filter_map f (drop (i + 1) os))) done
    ∙ sym (ap (λ l. treat_all space me old (filter_map f l)) rest
    ∙ ap (λ r. treat_all space me old (cons_option r (filter_map f (drop (i + 1) os)))) is)

-- none of the operators is left
pub none_left : (space : SearchSpace) (me : ℕ) (f : ℕ → Option Message) (os : List ℕ) (i : ℕ) (o : Owner) → length os ≤ i
    → o ≡ treat_all space me o (filter_map f (drop i os))
none_left space me f os i o le = ap (λ (l : List ℕ). treat_all space me o (filter_map f l)) (sym (drop_all os i le))
  where
    drop_all : (xs : List ℕ) (k : ℕ) → length xs ≤ k → drop k xs ≡ []
    drop_all [] zero le = refl
    drop_all [] (suc k) le = refl
    drop_all (x ∷ xs) zero le = absurd (omega arith)
    drop_all (x ∷ xs) (suc k) le = drop_all xs k (omega arith)

pub same_space : {S : Type 0} (owner : S → List ℕ → ℕ → ℕ) (a b : OwnerOf S) → a.space ≡ b.space → length a.outboxes ≡ length b.outboxes
    → space_of owner a ≡ space_of owner b
same_space owner a b p q = λ j. searched owner (p j) (q j)
