-- Schemas by their parts.
use Rattle.std.proofs.Common.{◌≡◌, ◌<◌, ◌≤◌, ℕ, zero, suc, arith, length, get_or, List, ◌∷◌, [], map, Option, slice_get, refl, sym, ap, ◌∙◌}
use Rattle.std.proofs.lemmas.Option.{slice_get-map, slice_get_past}
use Rattle.std.specs.Prelude.{Some, None}
use Rattle.std.specs.Option.{option_map}
use Rattle.sexp.specs.Forms.{Forms}
use Rattle.pddl_task.specs.declared.schema.Condition.{Condition}
use Rattle.pddl_task.specs.declared.schema.Increase.{Increase}
use Rattle.pddl_task.specs.Planning.{Effect}
use Rattle.pddl_syntax.specs.declared.sections.Section.{Section}
use Rattle.pddl_syntax.specs.Sections.{part_of}
use Rattle.pddl_syntax.specs.Parameters.{parameter_names, parameter_types}
use Rattle.pddl_action.specs.Domains.{Declarations}
use Rattle.pddl_action.specs.declared.keyword.Keyword.TheVariants.{Precondition}
use Rattle.pddl_action.specs.declared.keyword.Keyword.TheVariants as keyword
use Rattle.pddl_terms.specs.Terms.{Scope}
use Rattle.pddl_effect.specs.Conditions.{conditions}
use Rattle.pddl_effect.specs.Effects.{effects, increases}
use Rattle.pddl_action.specs.Keywords.{KeywordPart, parts, value_of}
use Rattle.pddl_action.specs.Actions.{scope_of, parameters_of, schema_in, schema_behind}

pub schema_same : (types : List ℕ) (s : Scope) (ps : List KeywordPart) (pre : List Condition) (eff : List Effect) (inc : List Increase)
    → pre ≡ conditions s (value_of Precondition ps) → eff ≡ effects s (value_of keyword.Effect ps) → inc ≡ increases s (value_of keyword.Effect ps)
    → (record { parameters = types; precondition = pre; effect = eff; increases = inc }) ≡ schema_in types s ps
schema_same types s ps pre eff inc p q r = cc

pub schema_read : (d : Declarations) (f : Forms) (ps : List KeywordPart) (names : List (List ℕ)) (types : List ℕ)
    → ps ≡ parts None f → names ≡ parameter_names (parameters_of ps) → types ≡ parameter_types d.types (parameters_of ps)
    → schema_in types (scope_of d names) ps ≡ schema_behind d f
unfolding schema_behind
schema_read d f ps names types p q r =
    ap (λ (x : List ℕ). schema_in x (scope_of d names) ps) r
    ∙ ap (λ (x : List (List ℕ)). schema_in (parameter_types d.types (parameters_of ps)) (scope_of d x) ps) q
    ∙ ap (λ (x : List KeywordPart). schema_in (parameter_types d.types (parameters_of x)) (scope_of d (parameter_names (parameters_of x))) x) p

-- ---- the sections past a limit

within : (ss : List Section) (k : ℕ) (s : Section) → k < length ss → s ≡ get_or ss k s → slice_get ss k ≡ Some s
within [] k s h e = absurd (omega arith)
within (x ∷ ss) zero s h e = ap (λ (y : Section). Some y) (sym e)
within (x ∷ ss) (suc k) s h e = within ss k s (omega arith) e

places : (ss : List Section) (k : ℕ) (o : Option Section) → slice_get ss k ≡ o → slice_get (map (λ a. a.at) (map part_of ss)) k ≡ option_map (λ s. s.at) o
places ss k o e =
    slice_get-map (λ a. a.at) (map part_of ss) k ∙ ap (option_map (λ a. a.at)) (slice_get-map part_of ss k)
    ∙ ap (λ (p : Option Section). option_map (λ a. a.at) (option_map part_of p)) e ∙ by o
  where
    by : (p : Option Section) → option_map (λ a. a.at) (option_map part_of p) ≡ option_map (λ s. s.at) p
    by None = refl
    by (Some s) = refl

pub place_within : (ss : List Section) (k : ℕ) (s : Section) → k < length ss → s ≡ get_or ss k s → slice_get (map (λ a. a.at) (map part_of ss)) k ≡ Some s.at
place_within ss k s h e = places ss k (Some s) (within ss k s h e)

pub place_past : (ss : List Section) (k : ℕ) → length ss ≤ k → slice_get (map (λ a. a.at) (map part_of ss)) k ≡ None
place_past ss k h = places ss k None (slice_get_past ss k h)
