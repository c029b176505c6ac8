-- Small typed lists.
use Rattle.std.proofs.Common.{◌≡◌, ℕ, ◌+◌, true, false, List, [], ◌∷◌, codes, refl}
use Rattle.std.specs.Prelude.{Some}
use Rattle.sexp.specs.Forms.{none, word}
use Rattle.pddl_syntax.specs.declared.fault.FaultKind.TheVariants.{Shape}
use Rattle.pddl_syntax.specs.Faults.{fault}
use Rattle.pddl_syntax.specs.Typed.{declared, typed_faults}
use Rattle.pddl_grammar.specs.Runs.{Placed, TypedList, forms_of, declarations}

abbrev placed : ℕ → List ℕ → Placed
placed n t = record { start = n; stop = n + 1; text = t }

-- a b - t c
abbrev two_and_one : TypedList
two_and_one = record {
  runs = record { first = placed 0 (codes "a"); others = placed 2 (codes "b") ∷ []; hyphen_start = 4; hyphen_stop = 5; type = placed 6 (codes "t") } ∷ [];
  last = placed 8 (codes "c") ∷ [];
}

its_forms : forms_of two_and_one ≡ word 0 1 (codes "a") (word 2 3 (codes "b") (word 4 5 (codes "-") (word 6 7 (codes "t") (word 8 9 (codes "c") none))))
its_forms = refl

its_declarations : declarations two_and_one
    ≡ record { name = codes "a"; at = 0; parent = Some (codes "t") }
    ∷ record { name = codes "b"; at = 2; parent = Some (codes "t") }
    ∷ record { name = codes "c"; at = 8; parent = Some (codes "object") }
    ∷ []
its_declarations = refl

read_alike : declared false (forms_of two_and_one) ≡ declarations two_and_one
read_alike = refl

faultless : typed_faults false (λ (t : List ℕ). true) 0 true (forms_of two_and_one) ≡ []
faultless = refl

-- - t
no_names : typed_faults false (λ (t : List ℕ). true) 0 true (word 1 2 (codes "-") (word 3 4 (codes "t") none)) ≡ fault Shape 1 ∷ []
no_names = refl
