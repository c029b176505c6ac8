use Rattle.std.proofs.Common.{◌≡◌, ◌<◌, ◌≤◌, ◌^◌, Bool, true, false, List, ℕ, length, refl, sym, ap, subst, ◌∙◌}
use Rattle.std.specs.Prelude.{All}
use Rattle.std.proofs.lemmas.Result.{on_ok_weaker}
use Rattle.fdr.specs.Tasks.{ranges}
use Rattle.abstraction.specs.declared.digit.Digit.{Digit}
use Rattle.abstraction.specs.Digits.{IsDigitBelow, digits_from}
use Rattle.abstraction.specs.Projections.{Projection}
use Rattle.abstraction_groups.specs.declared.change.DigitChange.{DigitChange}
use Rattle.pdb_regression.specs.Rules.{unpacked}
use Rattle.pdb_regression.specs.Words.{size_from, rooms_of, word_from}
use Rattle.pdb_regression.specs.Tables.{rows_of, IsAlong, IsReadAt, positions_of, AreIndexed}
use Rattle.pdb_regression.proofs.RowLaws.{projection_digits}
use Rattle.pdb_regression.proofs.RuleLaws.{unpacked_whole}
use Rattle.pdb_regression.proofs.WordLaws.{projection_rooms, projection_size}
use Rattle.pdb_regression.proofs.TransitionLaws.{rows_along, read_none, read_at, rules_states, rules_words, entering_told}
use Rattle.pdb_regression.proofs.transitions.ProjectionTransitionsBackwardTransitions.entering.Goals as goal
use Rattle.pdb_regression.proofs.transitions.ProjectionTransitionsBackwardTransitions.entering.Goals.{After-digits}

abbrev digits_in : Projection → List Digit
digits_in p = digits_from (ranges p.task) 1 p.pattern

module _ (c : After-digits) where
  digits : c.digits.result.now ≡ digits_in c.args.self.now
  digits = c.digits.ensures ∙ ap digits_in c.projection.ensures

  rules : c.self.inside.rules.items ≡ rows_of c.args.self.now
  rules = c.self.invariant.0 ∙ ap rows_of c.self.view_is

  along : All (IsAlong (digits_in c.args.self.now)) c.self.inside.rules.items
  along = subst (λ (rs : List (List DigitChange)). All (IsAlong (digits_in c.args.self.now)) rs) (sym rules) (rows_along c.args.self.now)

pub word_of-requires-clause-digits : goal.word_of-requires-clause-digits
word_of-requires-clause-digits c =
    subst (λ (ds : List Digit). All (IsDigitBelow (2 ^ 24)) ds) (sym (digits (goal.at.word_of-requires-clause-digits c).After-digits)) (projection_digits c.args.self.now)

pub word_of-requires-clause-rooms : goal.word_of-requires-clause-rooms
word_of-requires-clause-rooms c =
    subst (λ (ds : List Digit). rooms_of ds ≤ 2 ^ 48) (sym (digits (goal.at.word_of-requires-clause-rooms c).After-digits)) (projection_rooms c.args.self.now)

pub word_of-requires-clause-state : goal.word_of-requires-clause-state
word_of-requires-clause-state c =
    subst (λ (ds : List Digit). c.args.abstract_state < size_from ds) (sym (digits (goal.at.word_of-requires-clause-state c).After-digits)) (projection_size c.args.self.now c.args.abstract_state c.requires)

pub add_entering-requires-clause-values : goal.add_entering-requires-clause-values
add_entering-requires-clause-values c =
    let inside = c.self.inside in
    let p : Projection = c.args.self.now in
    let j = c.args.abstract_state in
    let values : List ℕ = c.deref-4.result.now in
    let plainly = c.self.invariant.3 in
    let told = c.in_ok-word.ensures.values in
    let at = digits (goal.at.add_entering-requires-clause-values c).After-digits in
    let positions = rw c.self.view_is at c.self.invariant.2 in
    let go : (b : Bool) → inside.plain ≡ b → All (IsReadAt values j) (positions_of inside.places.items) =
    λ b. elim b as (λ b. inside.plain ≡ b → All (IsReadAt values j) (positions_of inside.places.items)) [
      | true ↦ λ e. read_none j values inside.places.items (plainly e).none
      | false ↦ λ e. read_at j (digits_in p) values inside.places.items positions (c.deref-4.ensures.value ∙ told e ∙ ap (unpacked j) at ∙ unpacked_whole p j)
    ]
    in
    rw c.deref-2.ensures.value (go inside.plain refl)

pub add_entering-requires-clause-state : goal.add_entering-requires-clause-state
add_entering-requires-clause-state c =
    rw c.deref-3.ensures.value
    (rules_states c.args.self.now c.self.inside.rules.items (along (goal.at.add_entering-requires-clause-state c).After-digits) c.args.abstract_state c.requires)

pub add_entering-requires-clause-word : goal.add_entering-requires-clause-word
add_entering-requires-clause-word c =
    let before = (goal.at.add_entering-requires-clause-word c).After-digits in
    rw c.deref-3.ensures.value
    (rules_words c.args.self.now c.self.inside.rules.items (along before) c.args.abstract_state c.in_ok-word.word (c.in_ok-word.ensures.word ∙ ap (word_from c.args.abstract_state) (digits before)))

pub returns : goal.returns
returns c =
    let before = (goal.at.returns c).After-digits in
    let p : Projection = c.args.self.now in
    let j = c.args.abstract_state in
    let known = rw (c.deref.ensures.value, c.deref-2.ensures.value, c.deref-3.ensures.value, rules before) at c.add_entering.ensures in
    let indexed = subst (λ (rs : List (List DigitChange)). AreIndexed c.self.inside.rest.items c.self.inside.places.items rs (length rs)) (rules before) c.self.invariant.1 in
    on_ok_weaker c.add_entering.result (entering_told p c.self.inside.rest.items c.self.inside.places.items j c.add_entering.new.transitions.items indexed c.requires) known
