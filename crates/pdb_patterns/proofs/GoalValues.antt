-- For each variable the value that the goal asks for, if it names the variable.
use Rattle.std.proofs.Common.{◌≡◌, ◌≢◌, ℕ, zero, suc, ◌+◌, ◌<◌, true, List, [], ◌∷◌, Option, Some, None, get_or, set, take, length, arith, ⊎_elim}
use Rattle.std.specs.Prelude.{All, is_some}
use Rattle.std.proofs.lemmas.Bool.{cases_eq}
use Rattle.std.proofs.lemmas.List.{take_more, get_or-set_same, get_or-set_other}
use Rattle.std.proofs.lemmas.List.Elements.{All-nil, All-cons, All-append}
use Rattle.fdr.specs.declared.fact.Fact.{Fact}

-- the fact's variable has a value
abbrev pub IsNamed : List (Option ℕ) → Fact → Type 0
IsNamed values f = is_some (get_or values f.variable None) ≡ true

-- a variable with a value is in the list
pub named_within : (values : List (Option ℕ)) (v : ℕ) → is_some (get_or values v None) ≡ true → v < length values
named_within [] v named = cc named
named_within (o ∷ os) zero named = omega arith
named_within (o ∷ os) (suc v) named = let rest = named_within os v named in omega (arith, rest)

module _ (values : List (Option ℕ)) (place value : ℕ) (within : place < length values) where
  there : (f : Fact) → f.variable ≡ place → IsNamed (set values place (Some value)) f
  there f same = rw (same, get_or-set_same values place (Some value) None within) (λ i. true)

  still : (f : Fact) → IsNamed values f → IsNamed (set values place (Some value)) f
  still f named =
      ⊎_elim
      (λ (same : f.variable ≡ place). there f same)
      (λ (other : f.variable ≢ place). rw (get_or-set_other values place f.variable (Some value) None other) named)
      (cases_eq f.variable place)

  pub one_more_named : (facts : List Fact) (i : ℕ) (d : Fact) → i < length facts → (get_or facts i d).variable ≡ place → All (IsNamed values) (take i facts)
      → All (IsNamed (set values place (Some value))) (take (i + 1) facts)
  one_more_named facts i d here same named =
      let values' = set values place (Some value) in
      rw (take_more facts i d here)
      (All-append (IsNamed values') (take i facts) (get_or facts i d ∷ []) (λ k e l. still (get_or (take i facts) k e) (named k e l))
      (All-cons (IsNamed values') (get_or facts i d) [] (there (get_or facts i d) same) (All-nil (IsNamed values'))))
