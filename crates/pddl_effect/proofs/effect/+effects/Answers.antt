use Rattle.std.proofs.Common.{◌≡◌, ◌⊎◌, inl, inr, ℕ, Bool, true, false, if◌then◌else◌, List, [], sym, ap, ◌∙◌, arith}
use Rattle.sexp.specs.Forms.{views}
use Rattle.sexp.proofs.Walking.{walking}
use Rattle.pddl_syntax.specs.declared.word.WordKind.{WordKind}
use Rattle.pddl_syntax.specs.declared.word.WordKind.TheVariants.{Dash, Name, Variable, Other}
use Rattle.pddl_terms.specs.declared.beginning.Beginning.{Beginning}
use Rattle.pddl_terms.specs.declared.beginning.Beginning.TheVariants.{Conjunction, Negation, Equality, GoalEquality, Increasing, Unread, NoName}
use Rattle.pddl_terms.specs.declared.beginning.Setting.TheVariants.{InEffect}
use Rattle.pddl_terms.specs.Beginnings.{by_kind, beginning}
use Rattle.pddl_effect.specs.Literals.{group_literals, literal_places}
use Rattle.pddl_effect.proofs.Steps.{appending, negations}
use Rattle.pddl_effect.proofs.effect.+effects.Goals as goal

neither : (b : Bool) (x y : Beginning) → (x ≡ Equality → ⊥) → (y ≡ Equality → ⊥) → (if b then x else y) ≡ Equality → ⊥
neither true x y h k = h
neither false x y h k = k

no_kind : (kind : WordKind) → by_kind kind ≡ Equality → ⊥
no_kind Name e = cc e
no_kind Dash e = cc e
no_kind Variable e = cc e
no_kind Other e = cc e

-- no effect begins with an equality
no_equality : (t : List ℕ) → beginning InEffect t ≡ Equality → ⊥
no_equality t =
    neither _ Conjunction _ (λ e. cc e) (neither _ Increasing _ (λ e. cc e) (neither _ Negation _ (λ e. cc e) (neither _ Unread _ (λ e. cc e) (no_kind _))))

-- so a list with one of these heads is no literal
no_literal : (s : ℕ) (t : List ℕ) (b : Beginning) (parts : List ℕ) → b ≡ beginning InEffect t → (b ≡ Equality) ⊎ ((b ≡ GoalEquality) ⊎ (b ≡ NoName))
    → group_literals s (beginning InEffect t) parts ≡ []
no_literal s t b parts is (inl e) = absurd (no_equality t (sym is ∙ e))
no_literal s t b parts is (inr (inl e)) = ap (λ (x : Beginning). group_literals s x parts) (sym is ∙ e)
no_literal s t b parts is (inr (inr e)) = ap (λ (x : Beginning). group_literals s x parts) (sym is ∙ e)

pub read_effect-returns-in_ok-add-in-Negation-clause-effects : goal.read_effect-returns-in_ok-add-in-Negation-clause-effects
read_effect-returns-in_ok-add-in-Negation-clause-effects t c = grind (arith, walking, appending, negations)

pub read_effect-returns-in-Equality-clause-literals : goal.read_effect-returns-in-Equality-clause-literals
read_effect-returns-in-Equality-clause-literals t c =
    let here = no_literal c.new-list.result.start c.list.inside.head.now c.beginning_of.result (literal_places InEffect (views c.new-list.result.rest)) c.beginning_of.ensures c.in-Equality.is in grind (arith, walking, appending, here)
