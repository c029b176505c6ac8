-- Conditions as trees: each is a literal, or a conjunction of conditions.
use Rattle.std.specs.Prelude.{◌≡◌, ℕ, ◌⊎◌, Bool, true, false, if◌then◌else◌, List, [], ◌∷◌, ◌++◌, Some, codes}
use Rattle.sexp.specs.Forms.{Forms, none, word, group}
use Rattle.pddl_task.specs.Lifted.{Lifted}
use Rattle.pddl_task.specs.declared.schema.Term.{Term}
use Rattle.pddl_task.specs.declared.schema.Condition.{Condition}
use Rattle.pddl_task.specs.declared.schema.Condition.TheVariants.{Positive, Negative, Equal, Different}
use Rattle.pddl_terms.specs.declared.beginning.Beginning.TheVariants.{Atom}
use Rattle.pddl_terms.specs.declared.beginning.Setting.TheVariants.{InCondition}
use Rattle.pddl_terms.specs.Beginnings.{beginning}
use Rattle.pddl_terms.specs.Terms.{Scope, terms}
use Rattle.pddl_grammar.specs.Atoms.{SpellsAtom}

-- A list of trees. A leaf has its literal, and a conjunction the trees that it joins; both have the trees that follow.
pub data Trees : Type 0 where
  nothing : Trees
  leaf : Condition → Trees → Trees
  all_of : Trees → Trees → Trees

-- the literals from left to right
abbrev pub in_order : Trees → List Condition
in_order nothing = []
in_order (leaf c more) = c ∷ in_order more
in_order (all_of parts more) = in_order parts ++ in_order more

-- ---- how literals are written

-- the head and the expressions after it are an atom of the declared predicates; the literal has this sign
abbrev pub IsAtom : Scope → Bool → List ℕ → Forms → Condition → Type 0
IsAtom scope positive t f c = (beginning InCondition t ≡ Atom) × (a : Lifted) × SpellsAtom scope.predicates scope t f a × (c ≡ (if positive then Positive a else Negative a))

-- the head is `=` and the expressions are two terms; the literal has this sign
abbrev pub IsEquality : Scope → Bool → List ℕ → Forms → Condition → Type 0
IsEquality scope positive t f c = (t ≡ codes "=") × (x : Term) × (y : Term) × (terms scope f ≡ Some (x ∷ y ∷ [])) × (c ≡ (if positive then Equal x y else Different x y))

-- an atom or an equality; the literal has this sign
abbrev pub IsPlain : Scope → Bool → List ℕ → Forms → Condition → Type 0
IsPlain scope positive t f c = IsAtom scope positive t f c ⊎ IsEquality scope positive t f c

-- the expressions in a list are an atom or an equality, and the literal is its negation
abbrev pub IsNegationOf : Scope → Forms → Condition → Type 0
IsNegationOf scope none c = ⊥
IsNegationOf scope (word s e t f) c = IsPlain scope false t f c
IsNegationOf scope (group s e i f) c = ⊥

-- one list of an atom or an equality, and the literal is its negation
abbrev pub IsNegated : Scope → Forms → Condition → Type 0
IsNegated scope none c = ⊥
IsNegated scope (word s e t f) c = ⊥
IsNegated scope (group s e i f) c = (f ≡ none) × IsNegationOf scope i c

-- the head and the expressions after it are this literal: an atom or an equality, or `not` and one of these
abbrev pub IsLiteral : Scope → List ℕ → Forms → Condition → Type 0
IsLiteral scope t f c = IsPlain scope true t f c ⊎ ((t ≡ codes "not") × IsNegated scope f c)

-- ---- how trees are written

-- The expressions are these trees: a literal, `and` with the trees that it joins, or an empty list, which joins none.
abbrev pub SpellTrees : Scope → Forms → Trees → Type 0
SpellTrees scope none trees = trees ≡ nothing
SpellTrees scope (word s e t f) trees = ⊥
SpellTrees scope (group s e none f) trees = (more : Trees) × (trees ≡ all_of nothing more) × SpellTrees scope f more
SpellTrees scope (group s e (group hs he h i) f) trees = ⊥
SpellTrees scope (group s e (word hs he t i) f) trees =
    ((parts : Trees) × (more : Trees) × (t ≡ codes "and") × (trees ≡ all_of parts more) × SpellTrees scope i parts × SpellTrees scope f more)
    ⊎ ((c : Condition) × (more : Trees) × IsLiteral scope t i c × (trees ≡ leaf c more) × SpellTrees scope f more)
