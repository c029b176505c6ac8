-- What is read as a predicate with terms names what is there.
use Rattle.std.proofs.Common.{◌≡◌, ◌==◌, ◌≤◌, ◌<◌, ℕ, Bool, true, false, List, length, refl, sym, ◌∙◌, ap, arith, eqb-true, if◌then◌else◌}
use Rattle.std.specs.Prelude.{Option, Some, None, slice_get, option_and_then, All}
use Rattle.std.specs.Option.{option_map, IfSome}
use Rattle.std.proofs.lemmas.List.{length-map}
use Rattle.std.proofs.lemmas.List.Elements.{All-nil, All-cons, All-map, All-weaker}
use Rattle.std.proofs.lemmas.Option.{slice_get_within}
use Rattle.sexp.specs.Forms.{Forms, none, word, group}
use Rattle.pddl_names.specs.Names.{place_of}
use Rattle.pddl_names.proofs.NameLists.{slice_get-place}
use Rattle.pddl_task.specs.declared.schema.Term.{Term}
use Rattle.pddl_task.specs.declared.schema.Term.TheVariants.{Parameter, Object}
use Rattle.pddl_task.specs.Lifted.{Lifted}
use Rattle.pddl_task.specs.Planning.{PlanningTask, IsAtomOf, object_of, ground_atom}
use Rattle.pddl_syntax.specs.declared.word.WordKind.{WordKind}
use Rattle.pddl_syntax.specs.declared.word.WordKind.TheVariants.{Dash, Name, Variable, Other}
use Rattle.pddl_syntax.specs.Words.{word_kind}
use Rattle.pddl_syntax.specs.Heads.{Heads}
use Rattle.pddl_terms.specs.Terms.{Scope, term_by_kind, term_of, with_term, terms, lifted_of, lifted}

-- one of this many parameters, or one of this many objects
abbrev pub IsTerm : ℕ → ℕ → Term → Type 0
IsTerm variables objects (Parameter i) = i < variables
IsTerm variables objects (Object o) = o < objects

-- a head with as many terms as it has parameters
pub record IsLifted (arities : List ℕ) (variables objects : ℕ) (a : Lifted) : Type 0 where
  pub places : slice_get arities a.predicate ≡ Some (length a.terms)
  pub terms : All (IsTerm variables objects) a.terms

-- ---- what is read

place_within : (names : List (List ℕ)) (t : List ℕ) (n : ℕ) → place_of names t ≡ Some n → n < length names
place_within names t n e = slice_get_within names n t (slice_get-place names t n e)

module _ (scope : Scope) where
  abbrev IsTermIn : Term → Type 0
  IsTermIn x = IsTerm (length scope.variables) (length scope.objects) x

  one_term : (t : List ℕ) (k : WordKind) → IfSome (term_by_kind scope t k) IsTermIn
  one_term t Variable = by (place_of scope.variables t) refl where
    by : (o : Option ℕ) → place_of scope.variables t ≡ o → IfSome (option_map Parameter o) IsTermIn
    by (Some i) e = place_within scope.variables t i e
    by None e = tt
  one_term t Name = by (place_of scope.objects t) refl where
    by : (o : Option ℕ) → place_of scope.objects t ≡ o → IfSome (option_map Object o) IsTermIn
    by (Some i) e = place_within scope.objects t i e
    by None e = tt
  one_term t Dash = tt
  one_term t Other = tt

  one_more : (x : Option Term) (xs : Option (List Term)) → IfSome x IsTermIn → IfSome xs (All IsTermIn) → IfSome (with_term x xs) (All IsTermIn)
  one_more (Some x) (Some xs) h k = All-cons IsTermIn x xs h k
  one_more (Some x) None h k = tt
  one_more None xs h k = tt

  all_terms : (f : Forms) → IfSome (terms scope f) (All IsTermIn)
  all_terms none = All-nil IsTermIn
  all_terms (word s e t f) = one_more (term_of scope t) (terms scope f) (one_term t (word_kind t)) (all_terms f)
  all_terms (group s e i f) = tt

  pub is_lifted : (heads : Heads) (t : List ℕ) (f : Forms) → IfSome (lifted heads scope t f) (IsLifted heads.arities (length scope.variables) (length scope.objects))
  is_lifted heads t f = by (place_of heads.names t) (terms scope f) (all_terms f) where
    as_many : (n arity : ℕ) (ts : List Term) (b : Bool) → slice_get heads.arities n ≡ Some arity → (arity == length ts) ≡ b → All IsTermIn ts
        → IfSome (if b then Some (record { predicate = n; terms = ts }) else None) (IsLifted heads.arities (length scope.variables) (length scope.objects))
    as_many n arity ts true e b h = record { places = e ∙ ap (λ (k : ℕ). Some k) (eqb-true arity (length ts) b); terms = h }
    as_many n arity ts false e b h = tt

    with_arity : (n : ℕ) (arity : Option ℕ) (ts : Option (List Term)) → slice_get heads.arities n ≡ arity → IfSome ts (All IsTermIn)
        → IfSome (lifted_of (Some n) arity ts) (IsLifted heads.arities (length scope.variables) (length scope.objects))
    with_arity n (Some arity) (Some ts) e h = as_many n arity ts (arity == length ts) e refl h
    with_arity n (Some arity) None e h = tt
    with_arity n None ts e h = tt

    by : (n : Option ℕ) (ts : Option (List Term)) → IfSome ts (All IsTermIn)
        → IfSome (lifted_of n (option_and_then (slice_get heads.arities) n) ts) (IsLifted heads.arities (length scope.variables) (length scope.objects))
    by (Some n) ts h = with_arity n (slice_get heads.arities n) ts refl h
    by None ts h = tt

-- ---- with objects for the parameters

pub is_atom : (task : PlanningTask) (variables objects : ℕ) (os : List ℕ) (a : Lifted) → variables ≤ length os → objects ≤ length task.object_types
    → All (λ o. o < length task.object_types) os → IsLifted task.arities variables objects a → IsAtomOf task (ground_atom os a)
is_atom task variables objects os a few fewer there h = record {
  places = h.places ∙ ap (λ (k : ℕ). Some k) (sym (length-map a.terms (object_of os)));
  objects = All-map (λ (o : ℕ). o < length task.object_types) (object_of os) a.terms
      (All-weaker (IsTerm variables objects) (λ (x : Term). object_of os x < length task.object_types) each_there a.terms h.terms);
} where
  each_there : (x : Term) → IsTerm variables objects x → object_of os x < length task.object_types
  each_there (Parameter i) k = there i 0 (omega (arith, few, k))
  each_there (Object o) k = omega (arith, fewer, k)
