-- Steps through a typed list.
use Rattle.std.proofs.Common.{◌≡◌, ℕ, Bool, true, false, List, [], ◌∷◌, ◌++◌, map, refl, sym, ap, ◌∙◌, append_assoc}
use Rattle.std.specs.Prelude.{Option}
use Rattle.sexp.specs.declared.tree.Tree.{Tree}
use Rattle.sexp.specs.Forms.{Forms, group, before}
use Rattle.pddl_syntax.specs.declared.fault.Fault.{Fault}
use Rattle.pddl_syntax.specs.declared.fault.FaultKind.TheVariants.{Shape}
use Rattle.pddl_syntax.specs.declared.typed.Named.{Named}
use Rattle.pddl_syntax.specs.declared.typed.Run.{Run}
use Rattle.pddl_syntax.specs.Faults.{fault, first_of}
use Rattle.pddl_syntax.specs.Typed.{Declared, type_at, with_type, spread, declared, declared_behind, reading, complaints}
use Rattle.pddl_syntax.proofs.Trees.{at_tree}

-- one tree is stepped over in a type's place
behind : (v : Bool) (t : Tree) (rest : Forms) → declared_behind v (before t rest) ≡ declared v rest
behind v = at_tree (λ f rest. declared_behind v f ≡ declared v rest) (λ s e text rest. refl) (λ s e inner rest. refl)

pub ends_run : (v : Bool) (old_runs new_runs : List Run) (old_names new_names : List Named) (p : Option (List ℕ)) (old_wants new_wants : Bool) (t : Tree) (rest : Forms)
    → old_wants ≡ true → new_wants ≡ false → new_names ≡ [] → spread new_runs ≡ spread old_runs ++ map (with_type p) old_names → p ≡ type_at (before t rest)
    → reading v old_runs old_names old_wants (before t rest) ≡ reading v new_runs new_names new_wants rest
ends_run v old_runs new_runs old_names new_names p old_wants new_wants t rest old_is new_is none_left spread_is p_is =
    rw (old_is, new_is, none_left) (
    ap (λ (q : Option (List ℕ)). spread old_runs ++ (map (with_type q) old_names ++ declared_behind v (before t rest))) (sym p_is)
    ∙ ap (λ (ds : List Declared). spread old_runs ++ (map (with_type p) old_names ++ ds)) (behind v t rest)
    ∙ sym (append_assoc (spread old_runs) (map (with_type p) old_names) (declared v rest))
    ∙ ap (λ (ds : List Declared). ds ++ declared v rest) (sym spread_is))

pub passes_list : (v : Bool) (runs : List Run) (names : List Named) (wants : Bool) (s e : ℕ) (inner rest : Forms) → wants ≡ false
    → reading v runs names wants (group s e inner rest) ≡ reading v runs names wants rest
passes_list v runs names wants s e inner rest is = rw is refl

pub blames_list : (v : Bool) (known : List ℕ → Bool) (home : ℕ) (names : List Named) (wants : Bool) (s e : ℕ) (inner rest : Forms) (old : Option Fault) → wants ≡ false
    → first_of old (complaints v known home names wants (group s e inner rest)) ≡ first_of old (fault Shape s ∷ complaints v known home names wants rest)
blames_list v known home names wants s e inner rest old is = rw is refl
