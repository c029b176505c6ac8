-- Results that are collected, where each may be an error.
use Rattle.std.proofs.Common.{◌≡◌, ℕ, List, [], ◌∷◌, map, length, suc, refl, sym, ap, subst}
use Rattle.std.specs.Prelude.{Vec, All, IfOk, MatchResult, Contains, Ok, Err}
use Rattle.std.specs.List.{AllZip}
use Rattle.std.specs.Global.{Global}
use Rattle.std.specs.declared.result.Result.{Result}
use Rattle.std.proofs.lemmas.List.Elements.{All-nil, All-cons}

module _ {X Y : Type 0} (E : Type 0) (P : Y → Type 0) where
  abbrev Fulfils : X → Result Y E → Type 0
  Fulfils x r = IfOk r P

  each_value : (xs : List X) (ys : List Y) → AllZip Fulfils xs (map Ok ys) → All P ys × (length ys ≡ length xs)
  each_value [] [] h = (All-nil P, refl)
  each_value [] (y ∷ ys) h = absurd h
  each_value (x ∷ xs) [] h = absurd h
  each_value (x ∷ xs) (y ∷ ys) h = let rest = each_value xs ys h.1 in (All-cons P y ys h.0 rest.0, ap suc rest.1)

  -- what holds of each result that is no error holds of the values, as many as results, where there is no error
  pub collected : (xs : List X) (answers : List (Result Y E)) (made : Result (Vec Y Global) E) → AllZip Fulfils xs answers
      → MatchResult made (λ v. (ys : List Y) × (answers ≡ map Ok ys) × (v.items ≡ ys)) (λ e. Contains answers (Err e))
      → IfOk made (λ v. All P v.items × (length v.items ≡ length xs))
  collected xs answers (Err e) each said = tt
  collected xs answers (Ok v) each said =
      subst (λ ys. All P ys × (length ys ≡ length xs)) (sym said.2) (each_value xs said.0 (subst (AllZip Fulfils xs) said.1 each))
