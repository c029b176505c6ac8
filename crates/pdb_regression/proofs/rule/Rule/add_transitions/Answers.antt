use Rattle.std.proofs.Common.{◌≡◌, ◌+◌, ◌-◌, ◌^◌, List, true, ap, sym, subst, ◌∙◌, arith}
use Rattle.std.specs.Prelude.{All}
use Rattle.std.specs.List.{list_all}
use Rattle.abstraction.specs.declared.digit.Digit.{Digit}
use Rattle.abstraction.specs.Digits.{IsDigitBelow}
use Rattle.abstraction_groups.specs.declared.backward.Transition.{Transition}
use Rattle.pdb_regression.specs.Changes.{enters_digit}
use Rattle.pdb_regression.specs.Rules.{put_by, taken_by, free_in, IsWith}
use Rattle.abstraction_groups.specs.Pairs.{IsRow}
use Rattle.pdb_regression.proofs.Bounds.{put_small}
use Rattle.pdb_regression.proofs.RuleLaws.{sources_small, put_at_state, free_fit, rule_told, rule_out}
use Rattle.pdb_regression.proofs.WordLaws.{entered_told}
use Rattle.pdb_regression.proofs.rule.Rule.add_transitions.Goals as goal

pub overflow_add-source : goal.overflow_add-source
overflow_add-source c =
    let cs = c.args.self.now in
    let j = c.args.abstract_state in
    let row : IsRow cs = subst IsRow c.self.view_is c.self.invariant.row in
    let entered : list_all (enters_digit j) cs ≡ true = sym (entered_told cs j c.args.word row.fit c.requires.word) ∙ sym c.enters.ensures ∙ c.if-enters.true in
    let put : c.self.inside.put ≡ put_by cs = c.self.invariant.put_is ∙ ap put_by c.self.view_is in
    let taken : c.self.inside.taken ≡ taken_by cs = c.self.invariant.taken_is ∙ ap taken_by c.self.view_is in
    let both = put_small cs row.fit in
    let below = put_at_state j cs row c.requires.state entered in
    let small = row.small in
    omega (arith, both.1, c.requires.state)

pub overflow_sub-source : goal.overflow_sub-source
overflow_sub-source c =
    let cs = c.args.self.now in
    let j = c.args.abstract_state in
    let row : IsRow cs = subst IsRow c.self.view_is c.self.invariant.row in
    let entered : list_all (enters_digit j) cs ≡ true = sym (entered_told cs j c.args.word row.fit c.requires.word) ∙ sym c.enters.ensures ∙ c.if-enters.true in
    let put : c.self.inside.put ≡ put_by cs = c.self.invariant.put_is ∙ ap put_by c.self.view_is in
    let taken : c.self.inside.taken ≡ taken_by cs = c.self.invariant.taken_is ∙ ap taken_by c.self.view_is in
    let both = put_small cs row.fit in
    let below = put_at_state j cs row c.requires.state entered in
    let small = row.small in
    omega arith

pub add_sources-requires-clause-free : goal.add_sources-requires-clause-free
add_sources-requires-clause-free c =
    let cs = c.args.self.now in
    let j = c.args.abstract_state in
    let row : IsRow cs = subst IsRow c.self.view_is c.self.invariant.row in
    let entered : list_all (enters_digit j) cs ≡ true = sym (entered_told cs j c.args.word row.fit c.requires.word) ∙ sym c.enters.ensures ∙ c.if-enters.true in
    let put : c.self.inside.put ≡ put_by cs = c.self.invariant.put_is ∙ ap put_by c.self.view_is in
    let taken : c.self.inside.taken ≡ taken_by cs = c.self.invariant.taken_is ∙ ap taken_by c.self.view_is in
    let both = put_small cs row.fit in
    let below = put_at_state j cs row c.requires.state entered in
    let small = row.small in
    let free : c.deref.result.now ≡ free_in cs = c.deref.ensures.value ∙ c.self.invariant.free_are ∙ ap free_in c.self.view_is in
    subst (All (IsDigitBelow (2 ^ 24))) (sym free) (free_fit cs row.fit)

pub add_sources-requires-clause-small : goal.add_sources-requires-clause-small
add_sources-requires-clause-small c =
    let cs = c.args.self.now in
    let j = c.args.abstract_state in
    let row : IsRow cs = subst IsRow c.self.view_is c.self.invariant.row in
    let entered : list_all (enters_digit j) cs ≡ true = sym (entered_told cs j c.args.word row.fit c.requires.word) ∙ sym c.enters.ensures ∙ c.if-enters.true in
    let put : c.self.inside.put ≡ put_by cs = c.self.invariant.put_is ∙ ap put_by c.self.view_is in
    let taken : c.self.inside.taken ≡ taken_by cs = c.self.invariant.taken_is ∙ ap taken_by c.self.view_is in
    let both = put_small cs row.fit in
    let below = put_at_state j cs row c.requires.state entered in
    let small = row.small in
    let free : c.deref.result.now ≡ free_in cs = c.deref.ensures.value ∙ c.self.invariant.free_are ∙ ap free_in c.self.view_is in
    let n = j + c.self.inside.taken - c.self.inside.put in
    λ m h. sources_small j cs row c.requires.state entered n m (omega arith) (subst (λ (ds : List Digit). IsWith ds n m) free h)

pub returns-in_ok-add_sources : goal.returns-in_ok-add_sources
returns-in_ok-add_sources c =
    let cs = c.args.self.now in
    let j = c.args.abstract_state in
    let row : IsRow cs = subst IsRow c.self.view_is c.self.invariant.row in
    let entered : list_all (enters_digit j) cs ≡ true = sym (entered_told cs j c.args.word row.fit c.requires.word) ∙ sym c.enters.ensures ∙ c.if-enters.true in
    let put : c.self.inside.put ≡ put_by cs = c.self.invariant.put_is ∙ ap put_by c.self.view_is in
    let taken : c.self.inside.taken ≡ taken_by cs = c.self.invariant.taken_is ∙ ap taken_by c.self.view_is in
    let both = put_small cs row.fit in
    let below = put_at_state j cs row c.requires.state entered in
    let small = row.small in
    let free : c.deref.result.now ≡ free_in cs = c.deref.ensures.value ∙ c.self.invariant.free_are ∙ ap free_in c.self.view_is in
    let n = j + c.self.inside.taken - c.self.inside.put in
    rule_told (λ (t : Transition). t.class ≡ c.args.class) cs j n c.deref.result.now c.args.transitions.now.items c.add_sources.new.transitions.items row c.requires.state entered free (omega arith) c.in_ok-add_sources.ensures

pub returns-else-enters : goal.returns-else-enters
returns-else-enters c =
    let cs = c.args.self.now in
    let j = c.args.abstract_state in
    let row : IsRow cs = subst IsRow c.self.view_is c.self.invariant.row in
    rule_out (λ (t : Transition). t.class ≡ c.args.class) cs j c.args.transitions.now.items
    (sym (entered_told cs j c.args.word row.fit c.requires.word) ∙ sym c.enters.ensures ∙ c.if-enters.false)
