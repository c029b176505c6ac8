use Rattle.std.proofs.Common.{◌≡◌, List, length, ap, ◌∙◌, arith}
use Rattle.fdr.specs.declared.fact.Fact.{Fact}
use Rattle.fdr.specs.Tasks.{Operator}
use Rattle.abstraction.specs.declared.digit.Digit.{Digit}
use Rattle.abstraction_groups.specs.Changes.{change_of, plain_all}
use Rattle.abstraction_groups.specs.Factors.{class_operator, changes_by, digits_of}
use Rattle.abstraction_groups.proofs.ReadLaws.{cleared, length-changes, plain_whole, length-digits}
use Rattle.abstraction_groups.proofs.read.read_changes.Goals as goal

pub add_conditions-requires-clause-changes : goal.add_conditions-requires-clause-changes
add_conditions-requires-clause-changes g c =
    let f = g.A.FactoredAbstraction.factors c.args.abstraction.now in
    cleared f c.clear.new.changes (omega (arith, c.requires.room)) (λ k d l. c.clear.ensures k d (omega arith))

pub make_plain-requires : goal.make_plain-requires
make_plain-requires g c =
    let f = g.A.FactoredAbstraction.factors c.args.abstraction.now in
    let long = ap length c.add_effects.ensures ∙ length-changes f c.deref-conditions.result.now c.deref-effects.result.now in
    let digits = ap length c.digits.ensures ∙ length-digits f in
    omega arith

pub returns : goal.returns
returns g c =
    let f = g.A.FactoredAbstraction.factors c.args.abstraction.now in
    let condition = c.deref-conditions.ensures.value ∙ ap (λ (o : Operator). o.precondition) c.operator.view_is in
    let effect = c.deref-effects.ensures.value ∙ ap (λ (o : Operator). o.effect) c.operator.view_is in
    let read : c.add_effects.new.changes ≡ changes_by f c.args.operator.now.precondition c.args.operator.now.effect =
    c.add_effects.ensures ∙ ap (λ (xs : List Fact). changes_by f xs c.deref-effects.result.now) condition ∙ ap (changes_by f c.args.operator.now.precondition) effect in
    c.make_plain.ensures ∙ ap (λ (ds : List Digit). plain_all ds c.add_effects.new.changes) c.digits.ensures ∙ ap (plain_all (digits_of f)) read
    ∙ plain_whole f (change_of (class_operator f c.args.operator.now))
