-- Atoms are read as they are written.
use Rattle.std.proofs.Common.{◌≡◌, ◌==◌, ℕ, ◌+◌, not, Bool, true, false, ltb, List, [], ◌∷◌, ◌++◌, length, slice_get, refl, sym, ap, subst, ◌∙◌, arith, if◌then◌else◌}
use Rattle.std.specs.Prelude.{Option, Some, None, option_and_then}
use Rattle.std.specs.Option.{option_map}
use Rattle.std.proofs.lemmas.Bool.{eqb-true, eq-eqb, ltb-true, ltb-false}
use Rattle.sexp.specs.Forms.{Forms, none, word, group}
use Rattle.pddl_names.specs.Names.{is_there, number_of, place_of}
use Rattle.pddl_names.proofs.NameLists.{place_of-there, is_there-place, is_there-at, number_of-place, number_of-at_most, slice_get-number, slice_get-place}
use Rattle.pddl_task.specs.Lifted.{Lifted}
use Rattle.pddl_task.specs.declared.schema.Term.{Term}
use Rattle.pddl_task.specs.declared.schema.Term.TheVariants.{Parameter, Object}
use Rattle.pddl_syntax.specs.declared.word.WordKind.{WordKind}
use Rattle.pddl_syntax.specs.declared.word.WordKind.TheVariants.{Dash, Name, Variable, Other}
use Rattle.pddl_syntax.specs.declared.fault.Fault.{Fault}
use Rattle.pddl_syntax.specs.declared.fault.FaultKind.TheVariants.{UnknownName, Arity}
use Rattle.pddl_syntax.specs.Faults.{fault, faults_if}
use Rattle.pddl_syntax.specs.Words.{word_kind}
use Rattle.pddl_syntax.specs.Heads.{Heads, arity_of}
use Rattle.pddl_terms.specs.Terms.{Scope, term_of, term_by_kind, with_term, terms, term_faults, term_faults_by_kind, terms_faults, count, lifted_of, lifted, arity_faults, lifted_faults}
use Rattle.pddl_grammar.specs.Atoms.{IsFirstAt, NamesTerm, NameTerms, SpellsAtom}
use Rattle.pddl_grammar.proofs.Runs.{parts_empty}

-- ---- first places

module _ (texts : List (List ℕ)) (t : List ℕ) (k : ℕ) where
  place_first : place_of texts t ≡ Some k → IsFirstAt texts t k
  place_first h = record {
    there = slice_get-place texts t k h;
    not_before = λ j lt at. omega (arith, lt, number_of-at_most texts j t at, number_of-place texts t k h);
  }

  first_place : IsFirstAt texts t k → place_of texts t ≡ Some k
  first_place h = place_of-there texts t there ∙ ap Some (by (ltb (number_of texts t) k) refl)
    where
      there : is_there texts t ≡ true
      there = is_there-at texts k t h.there

      by : (b : Bool) → ltb (number_of texts t) k ≡ b → number_of texts t ≡ k
      by true e = absurd (h.not_before (number_of texts t) (ltb-true (number_of texts t) k e) (slice_get-number texts t there))
      by false e = omega (arith, ltb-false (number_of texts t) k e, number_of-at_most texts k t h.there)

-- ---- terms

module _ (scope : Scope) where
  term_named : (t : List ℕ) (x : Term) → term_of scope t ≡ Some x → NamesTerm scope t x
  term_named t x h = by (word_kind t) refl h
    where
      variable_named : word_kind t ≡ Variable → (o : Option ℕ) → place_of scope.variables t ≡ o → option_map Parameter o ≡ Some x → NamesTerm scope t x
      variable_named is None e k = absurd cc
      variable_named is (Some n) e k = let same : Parameter n ≡ x = cc in subst (NamesTerm scope t) same (is, place_first scope.variables t n e)

      object_named : word_kind t ≡ Name → (o : Option ℕ) → place_of scope.objects t ≡ o → option_map Object o ≡ Some x → NamesTerm scope t x
      object_named is None e k = absurd cc
      object_named is (Some n) e k = let same : Object n ≡ x = cc in subst (NamesTerm scope t) same (is, place_first scope.objects t n e)

      by : (k : WordKind) → word_kind t ≡ k → term_by_kind scope t k ≡ Some x → NamesTerm scope t x
      by Variable is k = variable_named is (place_of scope.variables t) refl k
      by Name is k = object_named is (place_of scope.objects t) refl k
      by Dash is k = absurd cc
      by Other is k = absurd cc

  named_term : (t : List ℕ) (x : Term) → NamesTerm scope t x → term_of scope t ≡ Some x
  named_term t (Parameter k) h = ap (term_by_kind scope t) h.0 ∙ ap (option_map Parameter) (first_place scope.variables t k h.1)
  named_term t (Object k) h = ap (term_by_kind scope t) h.0 ∙ ap (option_map Object) (first_place scope.objects t k h.1)

  terms_named : (f : Forms) (xs : List Term) → terms scope f ≡ Some xs → NameTerms scope f xs
  terms_named none xs h = let same : [] ≡ xs = cc in subst (NameTerms scope none) same tt
  terms_named (word s e t f) xs h = by (term_of scope t) (terms scope f) refl refl h (terms_named f)
    where
      by : (o : Option Term) (os : Option (List Term)) → term_of scope t ≡ o → terms scope f ≡ os → with_term o os ≡ Some xs
          → ((ys : List Term) → terms scope f ≡ Some ys → NameTerms scope f ys) → NameTerms scope (word s e t f) xs
      by (Some y) (Some ys) p q k later =
          let same : y ∷ ys ≡ xs = cc in subst (NameTerms scope (word s e t f)) same (term_named t y p, later ys q)
      by (Some y) None p q k later = absurd cc
      by None os p q k later = absurd cc
  terms_named (group s e i f) xs h = absurd cc

  named_terms : (f : Forms) (xs : List Term) → NameTerms scope f xs → terms scope f ≡ Some xs
  named_terms none [] h = refl
  named_terms none (x ∷ xs) h = absurd h
  named_terms (word s e t f) [] h = absurd h
  named_terms (word s e t f) (x ∷ xs) h =
      ap (λ (o : Option Term). with_term o (terms scope f)) (named_term t x h.0) ∙ ap (with_term (Some x)) (named_terms f xs h.1)
  named_terms (group s e i f) xs h = absurd h

-- ---- atoms

module _ (heads : Heads) (scope : Scope) (t : List ℕ) (f : Forms) (a : Lifted) where
  pub atom_read : SpellsAtom heads scope t f a → lifted heads scope t f ≡ Some a
  atom_read h =
      ap (λ (o : Option ℕ). lifted_of o (option_and_then (slice_get heads.arities) o) (terms scope f)) (first_place heads.names t a.predicate h.declared)
      ∙ ap (λ (o : Option ℕ). lifted_of (Some a.predicate) o (terms scope f)) h.arity
      ∙ ap (lifted_of (Some a.predicate) (Some (length a.terms))) (named_terms scope f a.terms h.terms)
      ∙ ap (λ (b : Bool). if b then Some a else None) (eq-eqb (length a.terms) (length a.terms) refl)

  pub read_atom : lifted heads scope t f ≡ Some a → SpellsAtom heads scope t f a
  read_atom h = by (place_of heads.names t) (arity_of heads t) (terms scope f) refl refl refl h
    where
      fits : (p n : ℕ) (ts : List Term) → place_of heads.names t ≡ Some p → arity_of heads t ≡ Some n → terms scope f ≡ Some ts → (b : Bool) → (n == length ts) ≡ b
          → (if b then Some (record { predicate = p; terms = ts }) else None) ≡ Some a → SpellsAtom heads scope t f a
      fits p n ts at has are true e k =
          let same : record { predicate = p; terms = ts } ≡ a = cc in
          subst (SpellsAtom heads scope t f) same record {
            declared = place_first heads.names t p at;
            arity = sym (ap (option_and_then (slice_get heads.arities)) at) ∙ has ∙ ap Some (eqb-true n (length ts) e);
            terms = terms_named scope f ts are;
          }
      fits p n ts at has are false e k = absurd cc

      by : (p n : Option ℕ) (ts : Option (List Term)) → place_of heads.names t ≡ p → arity_of heads t ≡ n → terms scope f ≡ ts → lifted_of p n ts ≡ Some a → SpellsAtom heads scope t f a
      by (Some p) (Some n) (Some ts) at has are k = fits p n ts at has are (n == length ts) refl k
      by (Some p) (Some n) None at has are k = absurd cc
      by (Some p) None ts at has are k = absurd cc
      by None n ts at has are k = absurd cc

-- ---- faults of both

pub none_in_both : (xs ys : List Fault) → xs ≡ [] → ys ≡ [] → xs ++ ys ≡ []
none_in_both xs ys p q = ap (λ (zs : List Fault). zs ++ ys) p ∙ q

-- ---- terms without faults

pub term_clear : (scope : Scope) (s : ℕ) (t : List ℕ) (k : WordKind) → term_faults_by_kind scope s t k ≡ [] → (x : Term) × (term_by_kind scope t k ≡ Some x)
term_clear scope s t Dash h = absurd cc
term_clear scope s t Other h = absurd cc
term_clear scope s t Variable h = by (is_there scope.variables t) refl h where
  by : (b : Bool) → is_there scope.variables t ≡ b → faults_if (not b) (fault UnknownName s) [] ≡ [] → (x : Term) × (option_map Parameter (place_of scope.variables t) ≡ Some x)
  by true e k = (Parameter (number_of scope.variables t), ap (option_map Parameter) (place_of-there scope.variables t e))
  by false e k = absurd cc
term_clear scope s t Name h = by (is_there scope.objects t) refl h where
  by : (b : Bool) → is_there scope.objects t ≡ b → faults_if (not b) (fault UnknownName s) [] ≡ [] → (x : Term) × (option_map Object (place_of scope.objects t) ≡ Some x)
  by true e k = (Object (number_of scope.objects t), ap (option_map Object) (place_of-there scope.objects t e))
  by false e k = absurd cc

term_known : (scope : Scope) (s : ℕ) (t : List ℕ) (k : WordKind) (x : Term) → term_by_kind scope t k ≡ Some x → term_faults_by_kind scope s t k ≡ []
term_known scope s t Dash x h = absurd cc
term_known scope s t Other x h = absurd cc
term_known scope s t Variable x h = by (place_of scope.variables t) refl h where
  by : (o : Option ℕ) → place_of scope.variables t ≡ o → option_map Parameter o ≡ Some x → faults_if (not (is_there scope.variables t)) (fault UnknownName s) [] ≡ []
  by None e k = absurd cc
  by (Some n) e k = ap (λ (b : Bool). faults_if (not b) (fault UnknownName s) []) (is_there-place scope.variables t n e)
term_known scope s t Name x h = by (place_of scope.objects t) refl h where
  by : (o : Option ℕ) → place_of scope.objects t ≡ o → option_map Object o ≡ Some x → faults_if (not (is_there scope.objects t)) (fault UnknownName s) [] ≡ []
  by None e k = absurd cc
  by (Some n) e k = ap (λ (b : Bool). faults_if (not b) (fault UnknownName s) []) (is_there-place scope.objects t n e)

terms_clear : (scope : Scope) (f : Forms) → terms_faults scope f ≡ [] → (ts : List Term) × (terms scope f ≡ Some ts) × (length ts ≡ count f)
terms_clear scope none h = ([], refl, refl)
terms_clear scope (word s e t f) h =
    let parts = parts_empty (term_faults scope s t) (terms_faults scope f) h in
    let x = term_clear scope s t (word_kind t) parts.0 in
    let later = terms_clear scope f parts.1 in (
      x.0 ∷ later.0,
      ap (λ (o : Option Term). with_term o (terms scope f)) x.1 ∙ ap (with_term (Some x.0)) later.1,
      omega (arith, later.2),
    )
terms_clear scope (group s e i f) h = absurd cc

pub terms_known : (scope : Scope) (f : Forms) (ts : List Term) → terms scope f ≡ Some ts → (terms_faults scope f ≡ []) × (length ts ≡ count f)
terms_known scope none ts h = let same : [] ≡ ts = cc in (refl, sym (ap length same))
terms_known scope (word s e t f) ts h = by (term_of scope t) (terms scope f) refl refl h (terms_known scope f)
  where
    by : (x : Option Term) (xs : Option (List Term)) → term_of scope t ≡ x → terms scope f ≡ xs → with_term x xs ≡ Some ts
        → ((us : List Term) → terms scope f ≡ Some us → (terms_faults scope f ≡ []) × (length us ≡ count f))
        → (term_faults scope s t ++ terms_faults scope f ≡ []) × (length ts ≡ count f + 1)
    by (Some y) (Some us) p q k later =
        let same : y ∷ us ≡ ts = cc in
        let l = later us q in
        let long : length (y ∷ us) ≡ count f + 1 = omega (arith, l.1) in
        (none_in_both (term_faults scope s t) (terms_faults scope f) (term_known scope s t (word_kind t) y p) l.0, sym (ap length same) ∙ long)
    by (Some y) None p q k later = absurd cc
    by None xs p q k later = absurd cc
terms_known scope (group s e i f) ts h = absurd cc

-- ---- atoms without faults

module _ (heads : Heads) (scope : Scope) (home hs : ℕ) (t : List ℕ) (f : Forms) where
  placed : (n : ℕ) → arity_of heads t ≡ Some n → (p : ℕ) × (place_of heads.names t ≡ Some p)
  placed n h = by (place_of heads.names t) refl h where
    by : (o : Option ℕ) → place_of heads.names t ≡ o → option_and_then (slice_get heads.arities) o ≡ Some n → (p : ℕ) × (place_of heads.names t ≡ Some p)
    by None e k = absurd cc
    by (Some p) e k = (p, e)

  lifted_clear : lifted_faults heads scope home hs t f ≡ [] → (a : Lifted) × (lifted heads scope t f ≡ Some a)
  lifted_clear h = by (arity_of heads t) refl parts.0
    where
      parts : (arity_faults (arity_of heads t) home hs (count f) ≡ []) × (terms_faults scope f ≡ [])
      parts = parts_empty (arity_faults (arity_of heads t) home hs (count f)) (terms_faults scope f) h

      fits : (n : ℕ) (b : Bool) → (n == count f) ≡ b → faults_if (not b) (fault Arity home) [] ≡ [] → n ≡ count f
      fits n true e k = eqb-true n (count f) e
      fits n false e k = absurd cc

      by : (o : Option ℕ) → arity_of heads t ≡ o → arity_faults o home hs (count f) ≡ [] → (a : Lifted) × (lifted heads scope t f ≡ Some a)
      by None e k = absurd cc
      by (Some n) e k =
          let p = placed n e in
          let ts = terms_clear scope f parts.1 in
          let same : n ≡ length ts.0 = fits n (n == count f) refl k ∙ sym ts.2 in (
            record { predicate = p.0; terms = ts.0 },
            ap (λ (o : Option ℕ). lifted_of o (arity_of heads t) (terms scope f)) p.1
                ∙ ap (λ (o : Option ℕ). lifted_of (Some p.0) o (terms scope f)) e
                ∙ ap (lifted_of (Some p.0) (Some n)) ts.1
                ∙ ap (λ (b : Bool). if b then Some (record { predicate = p.0; terms = ts.0 }) else None) (eq-eqb n (length ts.0) same),
          )

  lifted_known : (a : Lifted) → lifted heads scope t f ≡ Some a → lifted_faults heads scope home hs t f ≡ []
  lifted_known a h = by (place_of heads.names t) (arity_of heads t) (terms scope f) refl refl h
    where
      fits : (n p : ℕ) (ts : List Term) (b : Bool) → (n == length ts) ≡ b → (if b then Some (record { predicate = p; terms = ts }) else None) ≡ Some a → n ≡ length ts
      fits n p ts true e k = eqb-true n (length ts) e
      fits n p ts false e k = absurd cc

      by : (p n : Option ℕ) (ts : Option (List Term)) → arity_of heads t ≡ n → terms scope f ≡ ts → lifted_of p n ts ≡ Some a → arity_faults (arity_of heads t) home hs (count f) ++ terms_faults scope f ≡ []
      by (Some p) (Some n) (Some ts) e q k =
          let known = terms_known scope f ts q in
          none_in_both (arity_faults (arity_of heads t) home hs (count f)) (terms_faults scope f)
          (ap (λ (o : Option ℕ). arity_faults o home hs (count f)) e
          ∙ ap (λ (b : Bool). faults_if (not b) (fault Arity home) []) (eq-eqb n (count f) (fits n p ts (n == length ts) refl k ∙ known.1)))
          known.0
      by (Some p) (Some n) None e q k = absurd cc
      by (Some p) None ts e q k = absurd cc
      by None n ts e q k = absurd cc

  pub atom_faultless : (a : Lifted) → SpellsAtom heads scope t f a → lifted_faults heads scope home hs t f ≡ []
  atom_faultless a h = lifted_known a (atom_read heads scope t f a h)

  pub faultless_atom : lifted_faults heads scope home hs t f ≡ [] → (a : Lifted) × SpellsAtom heads scope t f a
  faultless_atom h = let a = lifted_clear h in (a.0, read_atom heads scope t f a.0 a.1)
