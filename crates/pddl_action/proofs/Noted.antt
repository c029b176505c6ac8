-- Faults that were noted, and lists that grow.
use Rattle.std.proofs.Common.{◌≡◌, List, [], ◌∷◌, ◌++◌, sym, ap, ◌∙◌, append_assoc}
use Rattle.std.specs.Prelude.{Option}
use Rattle.pddl_syntax.specs.declared.fault.Fault.{Fault}
use Rattle.pddl_syntax.specs.Faults.{first_of}
use Rattle.pddl_syntax.proofs.Trees.{noted}

-- a step, and what is left behind it
pub noted_step : (old new last : Option Fault) (fs gs : List Fault) → new ≡ first_of old fs → first_of old (fs ++ gs) ≡ last → first_of new gs ≡ last
noted_step old new last fs gs e all = sym (noted old new fs gs e) ∙ all

-- one more item, and those behind it
pub grown_step : {A : Type 0} (old new all rest : List A) (x : A) → new ≡ old ++ x ∷ [] → old ++ x ∷ rest ≡ all → new ++ rest ≡ all
grown_step old new all rest x e whole = ap (λ ys. ys ++ rest) e ∙ append_assoc old (x ∷ []) rest ∙ whole
