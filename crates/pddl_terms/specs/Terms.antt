-- Terms, and predicates and functions with their terms: their meaning and their faults.
use Rattle.std.specs.Prelude.{ℕ, ◌+◌, ◌==◌, not, Bool, true, false, codes, if◌then◌else◌, List, [], ◌∷◌, ◌++◌, length, Option, Some, None}
use Rattle.std.specs.Option.{option_map}
use Rattle.sexp.specs.declared.tree.Tree.{Tree}
use Rattle.sexp.specs.Forms.{Forms, none, word, group}
use Rattle.pddl_names.specs.Names.{same_text, place_of, is_there}
use Rattle.pddl_task.specs.declared.schema.Term.{Term}
use Rattle.pddl_task.specs.declared.schema.Term.TheVariants.{Parameter, Object}
use Rattle.pddl_task.specs.Lifted.{Lifted}
use Rattle.pddl_syntax.specs.declared.word.WordKind.{WordKind}
use Rattle.pddl_syntax.specs.declared.word.WordKind.TheVariants.{Name, Variable}
use Rattle.pddl_syntax.specs.declared.fault.Fault.{Fault}
use Rattle.pddl_syntax.specs.declared.fault.FaultKind.TheVariants.{Shape, UnknownName, Arity}
use Rattle.pddl_syntax.specs.Faults.{fault, faults_if}
use Rattle.pddl_syntax.specs.Words.{word_kind}
use Rattle.pddl_syntax.specs.Heads.{Heads, arity_of}

-- the declarations that are visible to an expression
pub record Scope : Type 0 where
  pub predicates : Heads
  pub functions : Heads
  pub variables : List (List ℕ)
  pub objects : List (List ℕ)

-- a list that begins with a word: the byte offset of the list, the word and its byte offset, and the items after it
pub record HeadedList : Type 0 where
  pub start : ℕ
  pub head : List ℕ
  pub head_start : ℕ
  pub rest : List Tree

-- ---- terms

abbrev pub term_by_kind : Scope → List ℕ → WordKind → Option Term
term_by_kind scope t Variable = option_map Parameter (place_of scope.variables t)
term_by_kind scope t Name = option_map Object (place_of scope.objects t)
term_by_kind scope t kind = None

-- the word as a term, if it is a declared variable or a declared object
abbrev pub term_of : Scope → List ℕ → Option Term
term_of scope t = term_by_kind scope t (word_kind t)

abbrev pub with_term : Option Term → Option (List Term) → Option (List Term)
with_term (Some x) (Some xs) = Some (x ∷ xs)
with_term (Some x) None = None
with_term None xs = None

-- the expressions as terms, if each is one
abbrev pub terms : Scope → Forms → Option (List Term)
terms scope none = Some []
terms scope (word s e t f) = with_term (term_of scope t) (terms scope f)
terms scope (group s e i f) = None

-- the first expression as a term, if it is one
abbrev pub first_term : Scope → Forms → Option Term
first_term scope none = None
first_term scope (word s e t f) = term_of scope t
first_term scope (group s e i f) = None

abbrev pub term_faults_by_kind : Scope → ℕ → List ℕ → WordKind → List Fault
term_faults_by_kind scope s t Variable = faults_if (not (is_there scope.variables t)) (fault UnknownName s) []
term_faults_by_kind scope s t Name = faults_if (not (is_there scope.objects t)) (fault UnknownName s) []
term_faults_by_kind scope s t kind = fault Shape s ∷ []

-- the fault of a word in the position of a term
abbrev pub term_faults : Scope → ℕ → List ℕ → List Fault
term_faults scope s t = term_faults_by_kind scope s t (word_kind t)

-- the fault of the first expression, if there is one, which must be a term
abbrev pub first_term_faults : Scope → Forms → List Fault
first_term_faults scope none = []
first_term_faults scope (word s e t f) = term_faults scope s t
first_term_faults scope (group s e i f) = fault Shape s ∷ []

-- the faults of expressions that must all be terms
abbrev pub terms_faults : Scope → Forms → List Fault
terms_faults scope none = []
terms_faults scope (word s e t f) = term_faults scope s t ++ terms_faults scope f
terms_faults scope (group s e i f) = fault Shape s ∷ terms_faults scope f

-- ---- heads with terms

-- the number of expressions
abbrev pub count : Forms → ℕ
count none = 0
count (word s e t f) = count f + 1
count (group s e i f) = count f + 1

-- the head with this number and these terms, if the number of terms is its arity
abbrev pub lifted_of : Option ℕ → Option ℕ → Option (List Term) → Option Lifted
lifted_of (Some number) (Some arity) (Some ts) = if arity == length ts then Some (record { predicate = number; terms = ts }) else None
lifted_of (Some number) (Some arity) None = None
lifted_of (Some number) None ts = None
lifted_of None arity ts = None

-- the declared head with this name and these expressions as its terms
abbrev pub lifted : Heads → Scope → List ℕ → Forms → Option Lifted
lifted heads scope t f = lifted_of (place_of heads.names t) (arity_of heads t) (terms scope f)

-- the fault of a head at offset `hs`, in the list at `home`, with this arity, if it is declared, and `given` terms
abbrev pub arity_faults : Option ℕ → ℕ → ℕ → ℕ → List Fault
arity_faults None home hs given = fault UnknownName hs ∷ []
arity_faults (Some n) home hs given = faults_if (not (n == given)) (fault Arity home) []

-- the faults of a head at offset `hs` with its terms, in the list at `home`
abbrev pub lifted_faults : Heads → Scope → ℕ → ℕ → List ℕ → Forms → List Fault
lifted_faults heads scope home hs t f = arity_faults (arity_of heads t) home hs (count f) ++ terms_faults scope f

-- ---- the total cost, and whether there are expressions

-- the predefined function `total-cost`
abbrev pub is_total_cost : List ℕ → Bool
is_total_cost t = same_text t (codes "total-cost")

abbrev pub not_empty : Forms → Bool
not_empty none = false
not_empty (word s e t f) = true
not_empty (group s e i f) = true
