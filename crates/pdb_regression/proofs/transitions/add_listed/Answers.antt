use Rattle.std.proofs.Common.{◌≡◌, ℕ, ◌<◌, List, get_or, refl, subst, arith}
use Rattle.std.specs.Prelude.{◌↔◌, ◌⊎◌, Contains}
use Rattle.std.proofs.lemmas.List.{take_all}
use Rattle.abstraction_groups.specs.declared.backward.Transition.{Transition}
use Rattle.abstraction_groups.specs.declared.change.DigitChange.{DigitChange}
use Rattle.abstraction_groups.specs.Changes.{size_by}
use Rattle.pdb_regression.specs.Words.{word_by}
use Rattle.pdb_regression.specs.Tables.{LeadsIn}
use Rattle.pdb_regression.proofs.TransitionLaws.{all_at}
use Rattle.pdb_regression.proofs.TableLaws.{listed_more, listed_rule, listed_none}
use Rattle.pdb_regression.proofs.transitions.add_listed.Goals as goal
use Rattle.pdb_regression.proofs.transitions.add_listed.Goals.{in-Some+in_ok-add_transitions, in_default}

pub add_transitions-requires-clause-state : goal.add_transitions-requires-clause-state
add_transitions-requires-clause-state c = all_at (λ (cs : List DigitChange). c.args.abstract_state < size_by cs) c.args.rules.now (get_or c.args.classes.now c.loop-class.class-index 0) c.in-Some.rule.now c.requires.state c.in-Some.ensures.rule

pub add_transitions-requires-clause-word : goal.add_transitions-requires-clause-word
add_transitions-requires-clause-word c = all_at (λ (cs : List DigitChange). c.args.word ≡ word_by c.args.abstract_state cs) c.args.rules.now (get_or c.args.classes.now c.loop-class.class-index 0) c.in-Some.rule.now c.requires.word c.in-Some.ensures.rule

pub loop-class-preserved : goal.loop-class-preserved
loop-class-preserved c =
    let rules = c.args.rules.now in
    let classes = c.args.classes.now in
    let k = c.loop-class.class-index in
    let j = c.args.abstract_state in
    let n = get_or classes k 0 in
    let old : List Transition = c.loop-class.transitions.items in
    let more = λ (new : List Transition) (added : (t : Transition) → Contains new t ↔ (Contains old t ⊎ ((t.class ≡ n) × LeadsIn rules t.class t.source j))).
    listed_more classes (λ (t : Transition). LeadsIn rules t.class t.source j) k n c.args.transitions.now.items old new c.loop-class-test.true refl c.loop-class.invariant added in
    elim c.match-rule_at.branch [
      | in-Some+in_ok-add_transitions w ↦ rw w.transitions-is (more w.add_transitions.new.transitions.items
          (listed_rule rules j n w.in-Some.rule.now old w.add_transitions.new.transitions.items w.in-Some.ensures.rule w.in_ok-add_transitions.ensures))
      | in_default w ↦ rw w.transitions-is (more old (listed_none rules j n old w.in_default.ensures.absent))
    ]

pub returns : goal.returns
returns c = subst (λ (xs : List ℕ). (t : Transition) → Contains c.loop-class.transitions.items t ↔ (Contains c.args.transitions.now.items t ⊎ (Contains xs t.class × LeadsIn c.args.rules.now t.class t.source c.args.abstract_state)))
    (take_all c.loop-class.class-index c.args.classes.now (omega (arith, c.loop-class-test.false))) c.loop-class.invariant
