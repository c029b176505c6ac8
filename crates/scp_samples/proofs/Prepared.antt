-- Values that are collected, where each result may be an error, and each value is of what its item is of.
use Rattle.std.proofs.Common.{◌≡◌, List, [], ◌∷◌, map, sym, subst, ◌∙◌}
use Rattle.std.specs.Prelude.{Vec, All, IfOk, MatchResult, Contains, Ok, Err}
use Rattle.std.specs.List.{AllZip}
use Rattle.std.specs.Global.{Global}
use Rattle.std.specs.declared.result.Result.{Result}
use Rattle.std.proofs.lemmas.List.Elements.{All-head, All-tail, All-cons, All-nil}

module _ {X Y T : Type 0} (E : Type 0) (of_item : X → T) (of_value : Y → T) (t : T) where
  abbrev IsOfItem : X → Result Y E → Type 0
  IsOfItem x r = IfOk r (λ y. of_value y ≡ of_item x)

  each_value : (xs : List X) (ys : List Y) → AllZip IsOfItem xs (map Ok ys) → All (λ x. of_item x ≡ t) xs → All (λ y. of_value y ≡ t) ys
  each_value [] [] h all = All-nil (λ y. of_value y ≡ t)
  each_value [] (y ∷ ys) h all = absurd h
  each_value (x ∷ xs) [] h all = absurd h
  each_value (x ∷ xs) (y ∷ ys) h all =
      All-cons (λ y. of_value y ≡ t) y ys (h.0 ∙ All-head (λ x. of_item x ≡ t) x xs all) (each_value xs ys h.1 (All-tail (λ x. of_item x ≡ t) x xs all))

  -- if no result is an error, and all items are of one thing, all values are of it
  pub all_prepared : (xs : List X) (answers : List (Result Y E)) (made : Result (Vec Y Global) E) → AllZip IsOfItem xs answers
      → All (λ x. of_item x ≡ t) xs
      → MatchResult made (λ v. (ys : List Y) × (answers ≡ map Ok ys) × (v.items ≡ ys)) (λ e. Contains answers (Err e))
      → IfOk made (λ v. All (λ y. of_value y ≡ t) v.items)
  all_prepared xs answers (Err e) each all said = tt
  all_prepared xs answers (Ok v) each all said =
      subst (λ ys. All (λ y. of_value y ≡ t) ys) (sym said.2) (each_value xs said.0 (subst (AllZip IsOfItem xs) said.1 each) all)
