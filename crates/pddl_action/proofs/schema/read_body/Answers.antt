use Rattle.std.proofs.Common.{◌≡◌, ◌+◌, ◌++◌, ℕ, List, [], drop, map, arith, refl, sym, ap, ◌∙◌}
use Rattle.std.proofs.lemmas.List.{append-nil}
use Rattle.std.specs.Prelude.{Option}
use Rattle.std.specs.Option.{option_map}
use Rattle.sexp.specs.Forms.{alone}
use Rattle.pddl_syntax.specs.declared.fault.Fault.{Fault}
use Rattle.pddl_syntax.specs.declared.fault.LimitedTable.TheVariants.{Literals, Increases}
use Rattle.pddl_syntax.specs.Faults.{first_of}
use Rattle.pddl_effect.specs.Conditions.{conditions}
use Rattle.pddl_effect.specs.Effects.{effects, increases}
use Rattle.pddl_action.specs.declared.keyword.Keyword.TheVariants.{Precondition, Effect}
use Rattle.pddl_action.specs.Keywords.{KeywordPart, part_of}
use Rattle.pddl_action.specs.Limits.{max_literals, max_increases}
use Rattle.pddl_action.specs.Actions.{value_literals, all_literals, value_increases, all_increases, past_faults, limit_faults}
use Rattle.pddl_action.specs.Readings.{value_or, body_faults, bodies_faults}
use Rattle.pddl_syntax.proofs.Trees.{first_of_append}
use Rattle.pddl_action.proofs.Noted.{noted_step}
use Rattle.pddl_action.proofs.Parts.{part_at, parts_end, grown_by, value_at_end}
use Rattle.pddl_action.proofs.schema.read_body.Goals as goal

pub loop-part-preserved : goal.loop-part-preserved
loop-part-preserved c =
    let scope = c.args.reader.now in let p = c.part-item.result in let value = alone p.value.now in let old = c.loop-part.body in
    let left = map part_of (drop (c.loop-part.part-index + 1) c.args.parts.now) in
    let e = sym (part_at c.args.parts.now c.loop-part.part-index p (omega arith) c.part-item.is) in
    record {
      precondition = sym (c.in_ok-read_part.ensures.precondition left)
          ∙ ap (λ (ps : List KeywordPart). value_or (option_map (λ v. v.items) old.precondition) (conditions scope) Precondition ps) e ∙ c.loop-part.invariant.precondition;
      effects = sym (c.in_ok-read_part.ensures.effects left)
          ∙ ap (λ (ps : List KeywordPart). value_or (option_map (λ e. e.effects.items) old.effect) (effects scope) Effect ps) e ∙ c.loop-part.invariant.effects;
      increasing = sym (c.in_ok-read_part.ensures.increasing left)
          ∙ ap (λ (ps : List KeywordPart). value_or (option_map (λ e. e.increases.items) old.effect) (increases scope) Effect ps) e ∙ c.loop-part.invariant.increasing;
      literals = grown_by old.literals.items _ (value_literals p.keyword value) _ _ c.in_ok-read_part.ensures.literals
          (ap (λ (ps : List KeywordPart). old.literals.items ++ all_literals ps) e ∙ c.loop-part.invariant.literals);
      increases = grown_by old.increases.items _ (value_increases p.keyword value) _ _ c.in_ok-read_part.ensures.increases
          (ap (λ (ps : List KeywordPart). old.increases.items ++ all_increases ps) e ∙ c.loop-part.invariant.increases);
      faults = noted_step c.loop-part.first _ _ (body_faults scope p.keyword value) (bodies_faults scope left) c.in_ok-read_part.ensures.faults
          (ap (λ (ps : List KeywordPart). first_of c.loop-part.first (bodies_faults scope ps)) e ∙ c.loop-part.invariant.faults);
    }

pub returns-clause-precondition : goal.returns-clause-precondition
returns-clause-precondition c =
    let l = c.loop-part in let o = l.body.precondition in let scope = c.args.reader.now in
    value_at_end o (λ v. v.items) (conditions scope) Precondition [] refl
    ∙ sym (ap (λ (ps : List KeywordPart). value_or (option_map (λ v. v.items) o) (conditions scope) Precondition ps) (parts_end c.args.parts.now l.part-index c.loop-part-test.false))
    ∙ l.invariant.precondition

pub returns-clause-effects : goal.returns-clause-effects
returns-clause-effects c =
    let l = c.loop-part in let o = l.body.effect in let scope = c.args.reader.now in
    value_at_end o (λ e. e.effects.items) (effects scope) Effect [] refl
    ∙ sym (ap (λ (ps : List KeywordPart). value_or (option_map (λ e. e.effects.items) o) (effects scope) Effect ps) (parts_end c.args.parts.now l.part-index c.loop-part-test.false))
    ∙ l.invariant.effects

pub returns-clause-increases : goal.returns-clause-increases
returns-clause-increases c =
    let l = c.loop-part in let o = l.body.effect in let scope = c.args.reader.now in
    value_at_end o (λ e. e.increases.items) (increases scope) Effect [] refl
    ∙ sym (ap (λ (ps : List KeywordPart). value_or (option_map (λ e. e.increases.items) o) (increases scope) Effect ps) (parts_end c.args.parts.now l.part-index c.loop-part-test.false))
    ∙ l.invariant.increasing

-- a list that has grown to its end
at_end : (old : List ℕ) (f : List KeywordPart → List ℕ) (left all : List KeywordPart) → f [] ≡ [] → left ≡ [] → old ++ f left ≡ f all → old ≡ f all
at_end old f left all none is e = sym (append-nil old) ∙ sym (ap (λ ys. old ++ ys) (ap f is ∙ none)) ∙ e

pub returns-clause-faults : goal.returns-clause-faults
unfolding first_of
returns-clause-faults c =
    let l = c.loop-part in let scope = c.args.reader.now in let all = map part_of c.args.parts.now in let old = c.args.first.now in
    let left = map part_of (drop l.part-index c.args.parts.now) in
    let done = parts_end c.args.parts.now l.part-index c.loop-part-test.false in
    let literals = at_end l.body.literals.items all_literals left all refl done l.invariant.literals in
    let increases = at_end l.body.increases.items all_increases left all refl done l.invariant.increases in
    let first = sym (ap (λ (ps : List KeywordPart). first_of l.first (bodies_faults scope ps)) done) ∙ l.invariant.faults in
    c.blame_limits.ensures
    ∙ ap (λ (xs : List ℕ). first_of l.first (past_faults Literals max_literals xs ++ past_faults Increases max_increases l.body.increases.items)) literals
    ∙ ap (λ (xs : List ℕ). first_of l.first (past_faults Literals max_literals (all_literals all) ++ past_faults Increases max_increases xs)) increases
    ∙ ap (λ (k : Option Fault). first_of k (limit_faults all)) first
    ∙ sym (first_of_append old (bodies_faults scope all) (limit_faults all))
