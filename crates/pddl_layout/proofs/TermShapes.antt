-- Terms, and predicates and functions with their terms, of one shape.
use Rattle.std.proofs.Common.{◌≡◌, ℕ, ◌+◌, ◌==◌, not, List, refl, sym, ap}
use Rattle.std.specs.Prelude.{Option, Some, None}
use Rattle.sexp.specs.Forms.{Forms, none, word, group}
use Rattle.pddl_names.specs.Names.{place_of, is_there}
use Rattle.pddl_syntax.specs.declared.word.WordKind.{WordKind}
use Rattle.pddl_syntax.specs.declared.word.WordKind.TheVariants.{Name, Variable}
use Rattle.pddl_syntax.specs.declared.fault.FaultKind.TheVariants.{UnknownName, Arity}
use Rattle.pddl_syntax.specs.Faults.{fault}
use Rattle.pddl_syntax.specs.Words.{word_kind}
use Rattle.pddl_syntax.specs.Heads.{Heads, arity_of}
use Rattle.pddl_terms.specs.Terms.{Scope, term_of, with_term, terms, term_faults_by_kind, term_faults, first_term_faults, terms_faults, count, lifted_of, lifted, arity_faults, lifted_faults, not_empty}
use Rattle.pddl_layout.specs.Shapes.{erased}
use Rattle.pddl_layout.proofs.Alike.{Alike, faulty, clear, both, tested, tested_both}

pub terms_erased : (scope : Scope) (f : Forms) → terms scope (erased f) ≡ terms scope f
terms_erased scope none = refl
terms_erased scope (word s e t f) = ap (with_term (term_of scope t)) (terms_erased scope f)
terms_erased scope (group s e i f) = refl

pub lifted_erased : (heads : Heads) (scope : Scope) (t : List ℕ) (f : Forms) → lifted heads scope t (erased f) ≡ lifted heads scope t f
lifted_erased heads scope t f = ap (lifted_of (place_of heads.names t) (arity_of heads t)) (terms_erased scope f)

count_erased : (f : Forms) → count (erased f) ≡ count f
count_erased none = refl
count_erased (word s e t f) = ap (λ (n : ℕ). n + 1) (count_erased f)
count_erased (group s e i f) = ap (λ (n : ℕ). n + 1) (count_erased f)

pub not_empty_erased : (f : Forms) → not_empty (erased f) ≡ not_empty f
not_empty_erased none = refl
not_empty_erased (word s e t f) = refl
not_empty_erased (group s e i f) = refl

-- ---- the faults

by_kind_alike : (scope : Scope) (s z : ℕ) (t : List ℕ) (k : WordKind) → Alike (term_faults_by_kind scope s t k) (term_faults_by_kind scope z t k)
by_kind_alike scope s z t Name = tested (not (is_there scope.objects t)) (fault UnknownName s) (fault UnknownName z) clear
by_kind_alike scope s z t Variable = tested (not (is_there scope.variables t)) (fault UnknownName s) (fault UnknownName z) clear
by_kind_alike scope s z t kind = faulty

term_alike : (scope : Scope) (s z : ℕ) (t : List ℕ) → Alike (term_faults scope s t) (term_faults scope z t)
term_alike scope s z t = by_kind_alike scope s z t (word_kind t)

pub first_term_alike : (scope : Scope) (f : Forms) → Alike (first_term_faults scope f) (first_term_faults scope (erased f))
first_term_alike scope none = clear
first_term_alike scope (word s e t f) = term_alike scope s 0 t
first_term_alike scope (group s e i f) = faulty

terms_alike : (scope : Scope) (f : Forms) → Alike (terms_faults scope f) (terms_faults scope (erased f))
terms_alike scope none = clear
terms_alike scope (word s e t f) = both (term_alike scope s 0 t) (terms_alike scope f)
terms_alike scope (group s e i f) = faulty

arity_alike : (o : Option ℕ) (h hs k ks n m : ℕ) → m ≡ n → Alike (arity_faults o h hs n) (arity_faults o k ks m)
arity_alike None h hs k ks n m e = faulty
arity_alike (Some a) h hs k ks n m e = tested_both (not (a == n)) (not (a == m)) (fault Arity h) (fault Arity k) (ap (λ (x : ℕ). not (a == x)) (sym e)) clear

pub lifted_alike : (heads : Heads) (scope : Scope) (h hs k ks : ℕ) (t : List ℕ) (f : Forms) → Alike (lifted_faults heads scope h hs t f) (lifted_faults heads scope k ks t (erased f))
lifted_alike heads scope h hs k ks t f = both (arity_alike (arity_of heads t) h hs k ks (count f) (count (erased f)) (count_erased f)) (terms_alike scope f)
