-- How atoms are written: the name of a declared head, and as many terms as it has parameters, each a variable or an
-- object in scope.
use Rattle.std.specs.Prelude.{◌≡◌, ◌≢◌, ℕ, ◌<◌, List, [], ◌∷◌, length, slice_get, Some}
use Rattle.sexp.specs.Forms.{Forms, none, word, group}
use Rattle.pddl_task.specs.Lifted.{Lifted}
use Rattle.pddl_task.specs.declared.schema.Term.{Term}
use Rattle.pddl_task.specs.declared.schema.Term.TheVariants.{Parameter, Object}
use Rattle.pddl_syntax.specs.declared.word.WordKind.TheVariants.{Name, Variable}
use Rattle.pddl_syntax.specs.Words.{word_kind}
use Rattle.pddl_syntax.specs.Heads.{Heads}
use Rattle.pddl_terms.specs.Terms.{Scope}

-- the first occurrence of the text in the list is at index `k`
pub record IsFirstAt (texts : List (List ℕ)) (t : List ℕ) (k : ℕ) : Type 0 where
  pub there : slice_get texts k ≡ Some t
  pub not_before : (j : ℕ) → j < k → slice_get texts j ≢ Some t

-- the word names the term: a variable names the parameter at its index in the scope, and a name the object at its index
abbrev pub NamesTerm : Scope → List ℕ → Term → Type 0
NamesTerm scope t (Parameter k) = (word_kind t ≡ Variable) × IsFirstAt scope.variables t k
NamesTerm scope t (Object k) = (word_kind t ≡ Name) × IsFirstAt scope.objects t k

-- the expressions are words that name these terms, one each, in their order
abbrev pub NameTerms : Scope → Forms → List Term → Type 0
NameTerms scope none [] = Unit {0}
NameTerms scope none (x ∷ xs) = ⊥
NameTerms scope (word s e t f) [] = ⊥
NameTerms scope (word s e t f) (x ∷ xs) = NamesTerm scope t x × NameTerms scope f xs
NameTerms scope (group s e i f) xs = ⊥

-- the head and the expressions after it are an atom of the declared heads
pub record SpellsAtom (heads : Heads) (scope : Scope) (t : List ℕ) (f : Forms) (a : Lifted) : Type 0 where
  pub declared : IsFirstAt heads.names t a.predicate
  pub arity : slice_get heads.arities a.predicate ≡ Some (length a.terms)
  pub terms : NameTerms scope f a.terms
