-- The value that the facts of a condition or an effect have for one variable.
use Rattle.std.specs.Prelude.{ℕ, List, Option, option_map, nat_eq}
use Rattle.std.specs.List.{find}
use Rattle.fdr.specs.declared.fact.Fact.{Fact}

-- the value of the first fact on the variable, if there is one
abbrev pub value_in : List Fact → ℕ → Option ℕ
value_in facts v = option_map (λ f. f.value) (find (λ f. nat_eq f.variable v) facts)
