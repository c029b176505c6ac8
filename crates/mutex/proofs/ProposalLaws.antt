-- Lists of groups, and the places that may be proposed.
use Rattle.std.proofs.Common.{◌≡◌, ◌≢◌, ℕ, ◌+◌, Bool, true, false, cond, List, [], ◌∷◌, ◌++◌, length, take, map, filter, refl, sym, ap, ◌∙◌, arith, eqb, leb}
use Rattle.std.specs.Prelude.{AllPairs, All}
use Rattle.std.specs.List.{list_any, flat_map, fold, range_with_len, IsDistinct}
use Rattle.std.proofs.lemmas.Bool.{and_parts, and_from, eqb-true, eq-eqb, cond_both, leb-true}
use Rattle.std.proofs.lemmas.List.Elements.{All-nil, All-cons, All-push, All-append, All-head, All-tail, All-same, filter-append}
use Rattle.std.proofs.lemmas.List.FromFn.{filter_of_map_range_with_len_more}
use Rattle.std.proofs.lemmas.List.Sums.{fold-append}
use Rattle.std.proofs.lemmas.Map.Made.{AllPairs-from_IsDistinct}
use Rattle.pddl_task.specs.Atoms.{same_numbers}
use Rattle.mutex_index.specs.Groups.{is_usable}
use Rattle.mutex_index.specs.Places.{Indexed, atoms_at}
use Rattle.mutex.specs.Candidates.{Candidate, candidates, count_of_instances, instance, instances, is_proposal, proposed_groups}
use Rattle.mutex.specs.Proposals.{IsProposal, with_group}
use Rattle.mutex.proofs.InstanceLaws.{instance_rises, instance_moves}

same_numbers_true : (xs ys : List ℕ) → same_numbers xs ys ≡ true → xs ≡ ys
same_numbers_true [] [] h = refl
same_numbers_true [] (y ∷ ys) h = cc h
same_numbers_true (x ∷ xs) [] h = cc h
same_numbers_true (x ∷ xs) (y ∷ ys) h =
    let parts = and_parts (eqb x y) (same_numbers xs ys) h in
    rw (eqb-true x y parts.0, same_numbers_true xs ys parts.1)

same_numbers_self : (xs : List ℕ) → same_numbers xs xs ≡ true
same_numbers_self [] = refl
same_numbers_self (x ∷ xs) = and_from (eqb x x) (same_numbers xs xs) (eq-eqb x x refl) (same_numbers_self xs)

pub distinct_groups : (groups : List (List ℕ)) → IsDistinct same_numbers groups → AllPairs (λ g h. g ≢ h) groups
distinct_groups groups h = AllPairs-from_IsDistinct (λ p q. (same_numbers_true p q, λ e. rw (← e) (same_numbers_self p))) groups h

-- one more instance is offered
pub offer_more : (index : Indexed) (candidate : Candidate) (n : ℕ) (groups now after : List (List ℕ))
    → now ≡ fold with_group groups (filter (is_proposal index) (map (instance index candidate) (range_with_len 0 n)))
    → after ≡ cond (is_proposal index (instance index candidate n)) (with_group now (instance index candidate n)) now
    → after ≡ fold with_group groups (filter (is_proposal index) (map (instance index candidate) (range_with_len 0 (n + 1))))
offer_more index candidate n groups now after e f =
    f ∙ last (is_proposal index (instance index candidate n))
    ∙ ap (λ (g : List (List ℕ)). fold with_group g (cond (is_proposal index (instance index candidate n)) (instance index candidate n ∷ []) [])) e
    ∙ sym (ap (λ (lists : List (List ℕ)). fold with_group groups lists) (filter_of_map_range_with_len_more (is_proposal index) (instance index candidate) 0 n n (omega arith))
    ∙ fold-append with_group groups (filter (is_proposal index) (map (instance index candidate) (range_with_len 0 n))) (cond (is_proposal index (instance index candidate n)) (instance index candidate n ∷ []) []))
  where
    last : (b : Bool) → cond b (with_group now (instance index candidate n)) now ≡ fold with_group now (cond b (instance index candidate n ∷ []) [])
    last true = refl
    last false = refl

-- the groups are proposals

module _ (index : Indexed) where
  folded : (lists groups : List (List ℕ)) → All (IsProposal index) lists → All (IsProposal index) groups → All (IsProposal index) (fold with_group groups lists)
  folded [] groups h g = g
  folded (l ∷ lists) groups h g =
      folded lists (with_group groups l) (All-tail (IsProposal index) l lists h)
      (cond_both (list_any (same_numbers l) groups) groups (groups ++ l ∷ []) (All (IsProposal index)) (λ e. g)
      (λ e. All-push (IsProposal index) groups l g (All-head (IsProposal index) l lists h)))

  one : (candidate : Candidate) (object : ℕ) → is_proposal index (instance index candidate object) ≡ true → IsProposal index (instance index candidate object)
  one candidate object h =
      let parts = and_parts (leb 2 (length (instance index candidate object))) (is_usable index.task index.actions (atoms_at index.atoms (instance index candidate object))) h in
      record {
        rising = instance_rises index candidate object;
        several = leb-true 2 (length (instance index candidate object)) parts.0;
        movable = instance_moves index candidate object;
        usable = parts.1;
      }

  of_one : (candidate : Candidate) (objects : List ℕ) → All (IsProposal index) (filter (is_proposal index) (map (instance index candidate) objects))
  of_one candidate [] = All-nil (IsProposal index)
  of_one candidate (o ∷ objects) =
      cond_both (is_proposal index (instance index candidate o))
      (instance index candidate o ∷ filter (is_proposal index) (map (instance index candidate) objects)) (filter (is_proposal index) (map (instance index candidate) objects))
      (All (IsProposal index))
      (λ e. All-cons (IsProposal index) (instance index candidate o) (filter (is_proposal index) (map (instance index candidate) objects)) (one candidate o e) (of_one candidate objects))
      (λ e. of_one candidate objects)

  of_all : (candidates : List Candidate) → All (IsProposal index) (filter (is_proposal index) (flat_map (instances index) candidates))
  of_all [] = All-nil (IsProposal index)
  of_all (c ∷ candidates) =
      All-same (IsProposal index) (filter (is_proposal index) (instances index c ++ flat_map (instances index) candidates))
      (filter (is_proposal index) (instances index c) ++ filter (is_proposal index) (flat_map (instances index) candidates))
      (filter-append (is_proposal index) (instances index c) (flat_map (instances index) candidates))
      (All-append (IsProposal index) (filter (is_proposal index) (instances index c)) (filter (is_proposal index) (flat_map (instances index) candidates))
      (of_one c (range_with_len 0 (count_of_instances index.task c))) (of_all candidates))

  pub all_proposals : All (IsProposal index) (proposed_groups index)
  unfolding proposed_groups
  all_proposals = folded (filter (is_proposal index) (flat_map (instances index) (take 4096 (candidates index.task)))) [] (of_all (take 4096 (candidates index.task))) (All-nil (IsProposal index))
