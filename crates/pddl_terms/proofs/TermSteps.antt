-- Terms, one tree after another.
use Rattle.std.proofs.Common.{◌≡◌, ◌+◌, ℕ, Bool, true, false, List, [], ◌∷◌, ◌++◌, length, refl, sym, ap, ◌∙◌, append_assoc}
use Rattle.std.proofs.Math.Numerals.{add-one}
use Rattle.std.specs.Prelude.{Option, Some, None}
use Rattle.std.specs.Option.{option_map}
use Rattle.sexp.specs.declared.tree.Tree.{Tree}
use Rattle.sexp.specs.Forms.{Forms, before, views}
use Rattle.sexp.proofs.Walking.{at_tree}
use Rattle.pddl_task.specs.declared.schema.Term.{Term}
use Rattle.pddl_terms.specs.Terms.{Scope, with_term, terms, first_term, terms_faults, first_term_faults, count, not_empty}

pub terms_step : (scope : Scope) (t : Tree) (g : Forms) → terms scope (before t g) ≡ with_term (first_term scope (before t g)) (terms scope g)
terms_step scope = at_tree (λ f g. terms scope f ≡ with_term (first_term scope f) (terms scope g)) (λ s e text g. refl) (λ s e inner g. refl)

pub terms_faults_step : (scope : Scope) (t : Tree) (g : Forms) → terms_faults scope (before t g) ≡ first_term_faults scope (before t g) ++ terms_faults scope g
terms_faults_step scope = at_tree (λ f g. terms_faults scope f ≡ first_term_faults scope f ++ terms_faults scope g) (λ s e text g. refl) (λ s e inner g. refl)

pub ruleset steps = (terms_step, terms_faults_step)

pub not_empty_before : (t : Tree) (g : Forms) → not_empty (before t g) ≡ true
not_empty_before = at_tree (λ f g. not_empty f ≡ true) (λ s e text g. refl) (λ s e inner g. refl)

-- ---- terms that were read, and those behind them

-- some terms, if all so far were read, and others behind them
abbrev pub with_terms : Bool → List Term → Option (List Term) → Option (List Term)
with_terms true xs later = option_map (λ ys. xs ++ ys) later
with_terms false xs later = None

pub with_terms_some : (b : Bool) (xs : List Term) (x : Term) (later : Option (List Term)) → with_terms b xs (with_term (Some x) later) ≡ with_terms b (xs ++ x ∷ []) later
with_terms_some true xs x (Some ys) = ap (λ (zs : List Term). Some zs) (sym (append_assoc xs (x ∷ []) ys))
with_terms_some true xs x None = refl
with_terms_some false xs x later = refl

pub with_terms_none : (b : Bool) (xs ys : List Term) (later : Option (List Term)) → with_terms b xs (with_term None later) ≡ with_terms false ys later
with_terms_none true xs ys later = refl
with_terms_none false xs ys later = refl

pub ruleset reading = (with_terms_some, with_terms_none)

count_before : (t : Tree) (rest : Forms) → count (before t rest) ≡ count rest + 1
count_before t rest = at_tree (λ f g. count f ≡ count g + 1) (λ s e text g. refl) (λ s e inner g. refl) t rest

-- there are as many expressions as trees
pub count_views : (ts : List Tree) → count (views ts) ≡ length ts
count_views [] = refl
count_views (t ∷ ts) = count_before t (views ts) ∙ ap (λ (n : ℕ). n + 1) (count_views ts) ∙ add-one (length ts)
