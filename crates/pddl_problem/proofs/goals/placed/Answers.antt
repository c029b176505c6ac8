use Rattle.std.proofs.Common.{◌≡◌, ◌≤◌, ℕ, zero, suc, min, List, [], ◌∷◌, ◌++◌, length, drop, sym, ap, ◌∙◌, rules, arith}
use Rattle.std.proofs.Math.ListN.{drop_of_length-le}
use Rattle.std.proofs.lemmas.List.{append-nil}
use Rattle.std.proofs.lemmas.Slice.Zip.{zip_end}
use Rattle.pddl_task.specs.declared.schema.Condition.{Condition}
use Rattle.pddl_problem.specs.Goals.{Placed, placed}
use Rattle.pddl_problem.proofs.Steps.{no_conditions}
use Rattle.pddl_problem.proofs.goals.placed.Goals as goal

-- behind the end of one of the lists there are no literals
none_left : (ss : List ℕ) (cs : List Condition) (n : ℕ) → min (length ss) (length cs) ≤ n → placed (drop n ss) (drop n cs) ≡ []
none_left [] cs n le = ap (λ (xs : List ℕ). placed xs (drop n cs)) (drop_of_length-le [] (omega arith))
none_left (s ∷ ss) [] n le = ap (λ (xs : List Condition). placed (drop n (s ∷ ss)) xs) (drop_of_length-le [] (omega arith)) ∙ no_conditions (drop n (s ∷ ss))
none_left (s ∷ ss) (c ∷ cs) zero le = absurd (omega (arith, le))
none_left (s ∷ ss) (c ∷ cs) (suc n) le = none_left ss cs n (omega (arith, le))

pub returns : goal.returns
returns c =
    let ss = c.args.places.now in let cs = c.args.conditions.now in let n = length c.loop-place.yielded in
    let ended : n ≡ min (length ss) (length cs) =
    zip_end ss cs c.loop-place.yielded c.into_iter-place-iterator.result c.loop-place.place-iterator c.next.new.self c.next.result (search rules) (search rules) c.loop-place.yielded_by c.in-None.is c.next.ensures.steps in
    sym (append-nil c.loop-place.literals.items) ∙ ap (λ (ls : List Placed). c.loop-place.literals.items ++ ls) (sym (none_left ss cs n (omega (arith, ended)))) ∙ c.loop-place.invariant
