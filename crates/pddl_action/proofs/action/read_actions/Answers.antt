use Rattle.std.proofs.Common.{◌≡◌, ◌≤◌, ◌+◌, ◌++◌, [], ℕ, List, length, drop, map, arith, refl, sym, ap, ◌∙◌}
use Rattle.std.proofs.Math.ListN.{drop_of_length-le}
use Rattle.std.proofs.lemmas.List.{append-nil}
use Rattle.std.specs.Prelude.{Option}
use Rattle.pddl_syntax.specs.declared.fault.Fault.{Fault}
use Rattle.pddl_syntax.specs.declared.fault.LimitedTable.TheVariants.{Schemas}
use Rattle.pddl_syntax.specs.declared.sections.Section.{Section}
use Rattle.pddl_syntax.specs.Faults.{first_of}
use Rattle.pddl_syntax.specs.Sections.{part_of}
use Rattle.pddl_action.specs.Actions.{schema_of, place_of, with_action_name, names_with, action_faults, each_faults, past_faults}
use Rattle.pddl_syntax.proofs.ParameterSteps.{listed_at}
use Rattle.pddl_action.proofs.Noted.{noted_step, grown_step}
use Rattle.pddl_syntax.proofs.Trees.{first_of_append}
use Rattle.pddl_action.proofs.action.read_actions.Goals as goal

-- a list that has grown to its end
at_end : {A : Type 0} (ss : List Section) (i : ℕ) (f : List Section → List A) (read all : List A) → f [] ≡ [] → length ss ≤ i → read ++ f (drop i ss) ≡ all → read ≡ all
at_end ss i f read all none le e =
    sym (append-nil read) ∙ sym (ap (λ ys. read ++ ys) (ap f (drop_of_length-le ss le) ∙ none)) ∙ e

pub loop-section-preserved : goal.loop-section-preserved
loop-section-preserved c =
    let d = c.args.declarations.now in let s = c.section-item.result in let old = c.loop-section.actions in
    let rest = map part_of (drop (c.loop-section.section-index + 1) c.args.sections.now) in
    let e = listed_at c.args.sections.now c.loop-section.section-index s (omega arith) c.section-item.is in
    record {
      schemas = grown_step old.schemas.items _ _ (map (schema_of d) rest) (schema_of d (part_of s)) c.in_ok-read.ensures.schemas
          (ap (λ (ss : List Section). old.schemas.items ++ map (schema_of d) (map part_of ss)) (sym e) ∙ c.loop-section.invariant.schemas);
      names = ap (λ (names : List (List ℕ)). names_with names rest) c.in_ok-read.ensures.names
          ∙ ap (λ (ss : List Section). names_with old.names (map part_of ss)) (sym e) ∙ c.loop-section.invariant.names;
      places = grown_step old.places.items _ _ (map place_of rest) (place_of (part_of s)) c.in_ok-read.ensures.places
          (ap (λ (ss : List Section). old.places.items ++ map place_of (map part_of ss)) (sym e) ∙ c.loop-section.invariant.places);
      faults = ap (λ (names : List (List ℕ)). first_of c.read.new.first (each_faults d names rest)) c.in_ok-read.ensures.names
          ∙ noted_step c.loop-section.first _ _ (action_faults d old.names (part_of s)) (each_faults d (with_action_name old.names (part_of s).inside) rest) c.in_ok-read.ensures.faults
          (ap (λ (ss : List Section). first_of c.loop-section.first (each_faults d old.names (map part_of ss))) (sym e) ∙ c.loop-section.invariant.faults);
    }

pub returns-clause-schemas : goal.returns-clause-schemas
returns-clause-schemas c =
    let f = λ (ss : List Section). map (schema_of c.args.declarations.now) (map part_of ss) in
    at_end c.args.sections.now c.loop-section.section-index f c.loop-section.actions.schemas.items (f c.args.sections.now) refl c.loop-section-test.false c.loop-section.invariant.schemas

pub returns-clause-names : goal.returns-clause-names
returns-clause-names c =
    sym (ap (λ (ss : List Section). names_with c.loop-section.actions.names (map part_of ss)) (drop_of_length-le c.args.sections.now c.loop-section-test.false))
    ∙ c.loop-section.invariant.names

pub returns-clause-places : goal.returns-clause-places
returns-clause-places c =
    let f = λ (ss : List Section). map place_of (map part_of ss) in
    at_end c.args.sections.now c.loop-section.section-index f c.loop-section.actions.places.items (f c.args.sections.now) refl c.loop-section-test.false c.loop-section.invariant.places

pub returns-clause-faults : goal.returns-clause-faults
unfolding first_of
returns-clause-faults c =
    let d = c.args.declarations.now in let ss = map part_of c.args.sections.now in let past = past_faults Schemas 512 (map (λ a. a.at) ss) in
    c.blame_sections.ensures
    ∙ ap (λ (k : Option Fault). first_of k past)
    (sym (ap (λ (xs : List Section). first_of c.loop-section.first (each_faults d c.loop-section.actions.names (map part_of xs))) (drop_of_length-le c.args.sections.now c.loop-section-test.false))
    ∙ c.loop-section.invariant.faults)
    ∙ sym (first_of_append c.args.first.now (each_faults d [] ss) past)
