-- Facts in the order of their variables, at most one for each, and how one is set.
use Rattle.std.specs.Prelude.{ℕ, ◌+◌, Bool, true, false, ◌&&◌, ◌==◌, nat_lt, nat_le, if◌then◌else◌, List, [], ◌∷◌, Option, Some, None, Result, Ok, Err, fold}
use Rattle.std.specs.Option.{option_map_or}
use Rattle.fdr.specs.declared.fact.Fact.{Fact}

-- the variables are strictly increasing, and at least this number
abbrev pub are_from : ℕ → List Fact → Bool
are_from n [] = true
are_from n (f ∷ fs) = nat_le n f.variable && are_from (f.variable + 1) fs

-- the value of the fact on the variable, if there is one
abbrev pub value_at : List Fact → ℕ → Option ℕ
value_at [] k = None
value_at (f ∷ fs) k = if f.variable == k then Some f.value else value_at fs k

-- whether the fact is one of these
abbrev pub has_fact : List Fact → Fact → Bool
has_fact facts f = option_map_or (λ x. f.value == x) (value_at facts f.variable) false

-- the facts with `new`, which replaces the one on its variable
abbrev pub set_fact : List Fact → Fact → List Fact
set_fact [] new = new ∷ []
set_fact (f ∷ fs) new =
    if nat_lt f.variable new.variable then f ∷ set_fact fs new
    else if f.variable == new.variable then new ∷ fs else new ∷ f ∷ fs

abbrev pub with_fact : List Fact → Option Fact → List Fact
with_fact facts None = facts
with_fact facts (Some f) = set_fact facts f

-- the facts after setting those that `given` has for the elements, in their order
abbrev pub assigned : {X : Type 0} → (X → Option Fact) → List Fact → List X → List Fact
assigned given facts xs = fold (λ fs x. with_fact fs (given x)) facts xs

-- the index of the fact on this variable, or the index at which it would be inserted
abbrev pub one_more : Result ℕ ℕ → Result ℕ ℕ
one_more (Ok i) = Ok (i + 1)
one_more (Err i) = Err (i + 1)

abbrev pub place_in : List Fact → ℕ → Result ℕ ℕ
place_in [] k = Err 0
place_in (f ∷ fs) k = if nat_lt f.variable k then one_more (place_in fs k) else if f.variable == k then Ok 0 else Err 0
