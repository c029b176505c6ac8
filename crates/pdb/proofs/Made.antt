-- Results that are collected, where each may be an error.
use Rattle.std.proofs.Common.{◌≡◌, List, [], ◌∷◌, map, sym, subst}
use Rattle.std.specs.Prelude.{Vec, IfOk, MatchResult, Contains, Ok, Err}
use Rattle.std.specs.List.{AllZip}
use Rattle.std.specs.Global.{Global}
use Rattle.std.specs.declared.result.Result.{Result}

module _ {X Y : Type 0} (E : Type 0) (R : X → Y → Type 0) where
  abbrev Fulfils : X → Result Y E → Type 0
  Fulfils x r = IfOk r (R x)

  of_values : (xs : List X) (ys : List Y) → AllZip Fulfils xs (map Ok ys) → AllZip R xs ys
  of_values [] [] h = tt
  of_values [] (y ∷ ys) h = absurd h
  of_values (x ∷ xs) [] h = absurd h
  of_values (x ∷ xs) (y ∷ ys) h = (h.0, of_values xs ys h.1)

  -- if there is no error among the results, what holds of each result that is no error holds of the values
  pub all_made : (xs : List X) (answers : List (Result Y E)) (made : Result (Vec Y Global) E) → AllZip Fulfils xs answers
      → MatchResult made (λ v. (ys : List Y) × (answers ≡ map Ok ys) × (v.items ≡ ys)) (λ e. Contains answers (Err e)) → IfOk made (λ v. AllZip R xs v.items)
  all_made xs answers (Err e) each said = tt
  all_made xs answers (Ok v) each said =
      subst (AllZip R xs) (sym said.2) (of_values xs said.0 (subst (AllZip Fulfils xs) said.1 each))
