-- What a condition's expressions give are the literals of its tree.
use Rattle.std.proofs.Common.{◌≡◌, ℕ, Bool, true, false, inl, inr, List, [], ◌∷◌, ◌++◌, codes, refl, sym, ap, ◌∙◌, arith, if◌then◌else◌}
use Rattle.std.specs.Prelude.{Option, Some, option_to_list}
use Rattle.std.specs.Option.{option_map}
use Rattle.sexp.specs.Forms.{Forms, none, word, group}
use Rattle.pddl_names.specs.Names.{same_text}
use Rattle.pddl_names.proofs.NameLists.{same_text-true}
use Rattle.pddl_task.specs.Lifted.{Lifted}
use Rattle.pddl_task.specs.declared.schema.Term.{Term}
use Rattle.pddl_task.specs.declared.schema.Condition.{Condition}
use Rattle.pddl_task.specs.declared.schema.Condition.TheVariants.{Positive, Negative, Equal, Different}
use Rattle.pddl_syntax.specs.declared.word.WordKind.{WordKind}
use Rattle.pddl_syntax.specs.declared.word.WordKind.TheVariants.{Dash, Name, Variable, Other}
use Rattle.pddl_syntax.specs.declared.fault.Fault.{Fault}
use Rattle.pddl_syntax.specs.declared.fault.FaultKind.TheVariants.{Shape}
use Rattle.pddl_syntax.specs.Faults.{fault}
use Rattle.pddl_syntax.specs.Words.{word_kind, is_one_of}
use Rattle.pddl_syntax.specs.Sections.{more_faults}
use Rattle.pddl_terms.specs.declared.beginning.Beginning.{Beginning}
use Rattle.pddl_terms.specs.declared.beginning.Beginning.TheVariants.{Conjunction, Negation, Equality, GoalEquality, Increasing, Unread, Atom, NoName}
use Rattle.pddl_terms.specs.declared.beginning.Setting.TheVariants.{InCondition}
use Rattle.pddl_terms.specs.Beginnings.{unsupported_heads, by_kind, beginning}
use Rattle.pddl_terms.specs.Terms.{Scope, term_of, with_term, terms, term_faults, terms_faults, lifted_faults}
use Rattle.pddl_effect.specs.Conditions.{equality, negated_condition, negated_inside, negated_conditions, group_conditions, conditions, second_term_faults, two_terms_faults, negated_group_faults, negated_inside_faults, negated_faults, group_faults, conditions_faults}
use Rattle.pddl_grammar.specs.ConditionTrees.{Trees, nothing, leaf, all_of, in_order, IsPlain, IsNegationOf, IsNegated, IsLiteral, SpellTrees}
use Rattle.pddl_grammar.proofs.Runs.{parts_empty}
use Rattle.pddl_grammar.proofs.Atoms.{none_in_both, term_clear, terms_known, atom_read, atom_faultless, faultless_atom}

-- ---- heads

-- the word that the construct is named by
abbrev HasWord : List ℕ → Beginning → Type 0
HasWord t Conjunction = t ≡ codes "and"
HasWord t Equality = t ≡ codes "="
HasWord t Negation = t ≡ codes "not"
HasWord t GoalEquality = Unit {0}
HasWord t Increasing = Unit {0}
HasWord t Unread = Unit {0}
HasWord t Atom = Unit {0}
HasWord t NoName = Unit {0}

word_by_kind : (t : List ℕ) (k : WordKind) → HasWord t (by_kind k)
word_by_kind t Name = tt
word_by_kind t Dash = tt
word_by_kind t Variable = tt
word_by_kind t Other = tt

has_word : (t : List ℕ) → HasWord t (beginning InCondition t)
has_word t = by (same_text t (codes "and")) (same_text t (codes "=")) (same_text t (codes "not")) (is_one_of unsupported_heads t) refl refl refl
  where
    by : (a e n u : Bool) → same_text t (codes "and") ≡ a → same_text t (codes "=") ≡ e → same_text t (codes "not") ≡ n
        → HasWord t (if a then Conjunction else (if e then Equality else (if n then Negation else (if u then Unread else by_kind (word_kind t)))))
    by true e n u p q r = same_text-true t (codes "and") p
    by false true n u p q r = same_text-true t (codes "=") q
    by false false true u p q r = same_text-true t (codes "not") r
    by false false false true p q r = tt
    by false false false false p q r = word_by_kind t (word_kind t)

conjunction_is : (t : List ℕ) → t ≡ codes "and" → beginning InCondition t ≡ Conjunction
conjunction_is t e = ap (beginning InCondition) e

equality_is : (t : List ℕ) → t ≡ codes "=" → beginning InCondition t ≡ Equality
equality_is t e = ap (beginning InCondition) e

negation_is : (t : List ℕ) → t ≡ codes "not" → beginning InCondition t ≡ Negation
negation_is t e = ap (beginning InCondition) e

-- ---- two terms

more_none : (f : Forms) → more_faults f ≡ [] → f ≡ none
more_none none h = refl
more_none (word s e t f) h = absurd cc
more_none (group s e i f) h = absurd cc

two_clear : (scope : Scope) (home : ℕ) (f : Forms) → two_terms_faults scope home f ≡ [] → (x : Term) × (y : Term) × (terms scope f ≡ Some (x ∷ y ∷ []))
two_clear scope home none h = absurd cc
two_clear scope home (group s e i f) h = absurd cc
two_clear scope home (word s e t none) h = let parts = parts_empty (term_faults scope s t) (fault Shape home ∷ []) h in let p = parts.1 in absurd cc
two_clear scope home (word s e t (group s2 e2 i f)) h =
    let parts = parts_empty (term_faults scope s t) (second_term_faults scope home (group s2 e2 i f)) h in let p = parts.1 in absurd cc
two_clear scope home (word s e t (word s2 e2 t2 f)) h =
    let parts = parts_empty (term_faults scope s t) (term_faults scope s2 t2 ++ more_faults f) h in
    let second = parts_empty (term_faults scope s2 t2) (more_faults f) parts.1 in
    let x = term_clear scope s t (word_kind t) parts.0 in
    let y = term_clear scope s2 t2 (word_kind t2) second.0 in (
      x.0,
      y.0,
      ap (λ (g : Forms). with_term (term_of scope t) (with_term (term_of scope t2) (terms scope g))) (more_none f second.1)
          ∙ ap (λ (o : Option Term). with_term o (with_term (term_of scope t2) (Some []))) x.1
          ∙ ap (λ (o : Option Term). with_term (Some x.0) (with_term o (Some []))) y.1,
    )

two_known : (scope : Scope) (home : ℕ) (f : Forms) (x y : Term) → terms scope f ≡ Some (x ∷ y ∷ []) → two_terms_faults scope home f ≡ []
two_known scope home none x y h = absurd cc
two_known scope home (group s e i f) x y h = absurd cc
two_known scope home (word s e t none) x y h = let long = (terms_known scope (word s e t none) (x ∷ y ∷ []) h).1 in absurd (omega (arith, long))
two_known scope home (word s e t (group s2 e2 i f)) x y h =
    let clear = (terms_known scope (word s e t (group s2 e2 i f)) (x ∷ y ∷ []) h).0 in
    let p = (parts_empty (term_faults scope s t) (terms_faults scope (group s2 e2 i f)) clear).1 in absurd cc
two_known scope home (word s e t (word s2 e2 t2 none)) x y h = (terms_known scope (word s e t (word s2 e2 t2 none)) (x ∷ y ∷ []) h).0
two_known scope home (word s e t (word s2 e2 t2 (word s3 e3 t3 f))) x y h =
    let long = (terms_known scope (word s e t (word s2 e2 t2 (word s3 e3 t3 f))) (x ∷ y ∷ []) h).1 in absurd (omega (arith, long))
two_known scope home (word s e t (word s2 e2 t2 (group s3 e3 i f))) x y h =
    let long = (terms_known scope (word s e t (word s2 e2 t2 (group s3 e3 i f))) (x ∷ y ∷ []) h).1 in absurd (omega (arith, long))

-- ---- what is without fault is spelled

module _ (scope : Scope) where
  atom_spelled : (positive : Bool) (home hs : ℕ) (t : List ℕ) (f : Forms) → beginning InCondition t ≡ Atom → lifted_faults scope.predicates scope home hs t f ≡ [] → (c : Condition) × IsPlain scope positive t f c
  atom_spelled positive home hs t f is h =
      let a = faultless_atom scope.predicates scope home hs t f h in (if positive then Positive a.0 else Negative a.0, inl (is, a.0, a.1, refl))

  equality_spelled : (positive : Bool) (home : ℕ) (t : List ℕ) (f : Forms) → t ≡ codes "=" → two_terms_faults scope home f ≡ [] → (c : Condition) × IsPlain scope positive t f c
  equality_spelled positive home t f is h =
      let two = two_clear scope home f h in (if positive then Equal two.0 two.1 else Different two.0 two.1, inr (is, two.0, two.1, two.2, refl))

  negation_spelled : (not_at home : ℕ) (i : Forms) → negated_inside_faults InCondition scope not_at home i ≡ [] → (c : Condition) × IsNegationOf scope i c
  negation_spelled not_at home none h = absurd cc
  negation_spelled not_at home (group s e i f) h = absurd cc
  negation_spelled not_at home (word s e t f) h = by (beginning InCondition t) refl (has_word t) h
    where
      by : (b : Beginning) → beginning InCondition t ≡ b → HasWord t b → negated_group_faults scope not_at home s t f b ≡ [] → (c : Condition) × IsPlain scope false t f c
      by Atom is w k = atom_spelled false home s t f is k
      by Equality is w k = equality_spelled false home t f w k
      by Conjunction is w k = absurd cc
      by Negation is w k = absurd cc
      by GoalEquality is w k = absurd cc
      by Increasing is w k = absurd cc
      by Unread is w k = absurd cc
      by NoName is w k = absurd cc

  negated_spelled : (home not_at : ℕ) (f : Forms) → negated_faults InCondition scope home not_at f ≡ [] → (c : Condition) × IsNegated scope f c
  negated_spelled home not_at none h = absurd cc
  negated_spelled home not_at (word s e t f) h = absurd cc
  negated_spelled home not_at (group s e i f) h =
      let parts = parts_empty (negated_inside_faults InCondition scope not_at s i) (more_faults f) h in
      let c = negation_spelled not_at s i parts.0 in (c.0, (more_none f parts.1, c.1))

  group_spelled : (s e hs he : ℕ) (t : List ℕ) (i f : Forms) (b : Beginning) → beginning InCondition t ≡ b → HasWord t b → group_faults InCondition scope s hs t i b (conditions_faults scope i) ≡ []
      → (conditions_faults scope i ≡ [] → (parts : Trees) × SpellTrees scope i parts) → (more : Trees) × SpellTrees scope f more
      → (trees : Trees) × SpellTrees scope (group s e (word hs he t i) f) trees
  group_spelled s e hs he t i f Conjunction is w h inner later =
      let parts = inner h in (all_of parts.0 later.0, inl (parts.0, later.0, w, refl, parts.1, later.1))
  group_spelled s e hs he t i f Negation is w h inner later =
      let c = negated_spelled s hs i h in (leaf c.0 later.0, inr (c.0, later.0, inr (w, c.1), refl, later.1))
  group_spelled s e hs he t i f Equality is w h inner later =
      let c = equality_spelled true s t i w h in (leaf c.0 later.0, inr (c.0, later.0, inl c.1, refl, later.1))
  group_spelled s e hs he t i f Atom is w h inner later =
      let c = atom_spelled true s hs t i is h in (leaf c.0 later.0, inr (c.0, later.0, inl c.1, refl, later.1))
  group_spelled s e hs he t i f GoalEquality is w h inner later = absurd cc
  group_spelled s e hs he t i f Increasing is w h inner later = absurd cc
  group_spelled s e hs he t i f Unread is w h inner later = absurd cc
  group_spelled s e hs he t i f NoName is w h inner later = absurd cc

  pub trees_spelled : (f : Forms) → conditions_faults scope f ≡ [] → (trees : Trees) × SpellTrees scope f trees
  trees_spelled none h = (nothing, refl)
  trees_spelled (word s e t f) h = absurd cc
  trees_spelled (group s e none f) h = let later = trees_spelled f h in (all_of nothing later.0, (later.0, refl, later.1))
  trees_spelled (group s e (group hs he j i) f) h = absurd cc
  trees_spelled (group s e (word hs he t i) f) h =
      let parts = parts_empty (group_faults InCondition scope s hs t i (beginning InCondition t) (conditions_faults scope i)) (conditions_faults scope f) h in
      group_spelled s e hs he t i f (beginning InCondition t) refl (has_word t) parts.0 (trees_spelled i) (trees_spelled f parts.1)

  -- ---- what is spelled is without fault, and read in order

  negation_known : (not_at home : ℕ) (i : Forms) (c : Condition) → IsNegationOf scope i c → (negated_inside_faults InCondition scope not_at home i ≡ []) × (negated_inside InCondition scope i ≡ c ∷ [])
  negation_known not_at home none c h = absurd h
  negation_known not_at home (group s e i f) c h = absurd h
  negation_known not_at home (word s e t f) c (inl h) = (
    ap (negated_group_faults scope not_at home s t f) h.0 ∙ atom_faultless scope.predicates scope home s t f h.1 h.2,
    ap (negated_condition scope t f) h.0 ∙ ap (λ (o : Option Lifted). option_to_list (option_map Negative o)) (atom_read scope.predicates scope t f h.1 h.2) ∙ ap (λ (d : Condition). d ∷ []) (sym h.3),
  )
  negation_known not_at home (word s e t f) c (inr h) = (
    ap (negated_group_faults scope not_at home s t f) (equality_is t h.0) ∙ two_known scope home f h.1 h.2 h.3,
    ap (negated_condition scope t f) (equality_is t h.0) ∙ ap (equality false) h.3 ∙ ap (λ (d : Condition). d ∷ []) (sym h.4),
  )

  negated_known : (home not_at : ℕ) (f : Forms) (c : Condition) → IsNegated scope f c → (negated_faults InCondition scope home not_at f ≡ []) × (negated_conditions InCondition scope f ≡ c ∷ [])
  negated_known home not_at none c h = absurd h
  negated_known home not_at (word s e t f) c h = absurd h
  negated_known home not_at (group s e i f) c h =
      let inner = negation_known not_at s i c h.1 in
      (none_in_both (negated_inside_faults InCondition scope not_at s i) (more_faults f) inner.0 (ap more_faults h.0), inner.1)

  literal_known : (s hs : ℕ) (t : List ℕ) (i : Forms) (c : Condition) (faults : List Fault) (parts : List Condition) → IsLiteral scope t i c
      → (group_faults InCondition scope s hs t i (beginning InCondition t) faults ≡ []) × (group_conditions InCondition scope t i (beginning InCondition t) parts ≡ c ∷ [])
  literal_known s hs t i c faults parts (inl (inl h)) = (
    ap (λ (b : Beginning). group_faults InCondition scope s hs t i b faults) h.0 ∙ atom_faultless scope.predicates scope s hs t i h.1 h.2,
    ap (λ (b : Beginning). group_conditions InCondition scope t i b parts) h.0 ∙ ap (λ (o : Option Lifted). option_to_list (option_map Positive o)) (atom_read scope.predicates scope t i h.1 h.2) ∙ ap (λ (d : Condition). d ∷ []) (sym h.3),
  )
  literal_known s hs t i c faults parts (inl (inr h)) = (
    ap (λ (b : Beginning). group_faults InCondition scope s hs t i b faults) (equality_is t h.0) ∙ two_known scope s i h.1 h.2 h.3,
    ap (λ (b : Beginning). group_conditions InCondition scope t i b parts) (equality_is t h.0) ∙ ap (equality true) h.3 ∙ ap (λ (d : Condition). d ∷ []) (sym h.4),
  )
  literal_known s hs t i c faults parts (inr h) =
      let inner = negated_known s hs i c h.1 in (
        ap (λ (b : Beginning). group_faults InCondition scope s hs t i b faults) (negation_is t h.0) ∙ inner.0,
        ap (λ (b : Beginning). group_conditions InCondition scope t i b parts) (negation_is t h.0) ∙ inner.1,
      )

  trees_known : (f : Forms) (trees : Trees) → SpellTrees scope f trees → (conditions_faults scope f ≡ []) × (conditions scope f ≡ in_order trees)
  trees_known none trees h = (refl, ap in_order (sym h))
  trees_known (word s e t f) trees h = absurd h
  trees_known (group s e none f) trees h = let later = trees_known f h.0 h.2 in (later.0, later.1 ∙ ap in_order (sym h.1))
  trees_known (group s e (group hs he j i) f) trees h = absurd h
  trees_known (group s e (word hs he t i) f) trees (inl h) =
      let inner = trees_known i h.0 h.4 in
      let later = trees_known f h.1 h.5 in (
        ap (λ (b : Beginning). group_faults InCondition scope s hs t i b (conditions_faults scope i) ++ conditions_faults scope f) (conjunction_is t h.2)
            ∙ none_in_both (conditions_faults scope i) (conditions_faults scope f) inner.0 later.0,
        ap (λ (b : Beginning). group_conditions InCondition scope t i b (conditions scope i) ++ conditions scope f) (conjunction_is t h.2)
            ∙ ap (λ (cs : List Condition). cs ++ conditions scope f) inner.1
            ∙ ap (λ (cs : List Condition). in_order h.0 ++ cs) later.1
            ∙ ap in_order (sym h.3),
      )
  trees_known (group s e (word hs he t i) f) trees (inr h) =
      let own = literal_known s hs t i h.0 (conditions_faults scope i) (conditions scope i) h.2 in
      let later = trees_known f h.1 h.4 in (
        none_in_both (group_faults InCondition scope s hs t i (beginning InCondition t) (conditions_faults scope i)) (conditions_faults scope f) own.0 later.0,
        ap (λ (cs : List Condition). cs ++ conditions scope f) own.1
            ∙ ap (λ (cs : List Condition). h.0 ∷ cs) later.1
            ∙ ap in_order (sym h.3),
      )

  pub trees_faultless : (f : Forms) (trees : Trees) → SpellTrees scope f trees → conditions_faults scope f ≡ []
  trees_faultless f trees h = (trees_known f trees h).0

  pub trees_in_order : (f : Forms) (trees : Trees) → SpellTrees scope f trees → conditions scope f ≡ in_order trees
  trees_in_order f trees h = (trees_known f trees h).1
