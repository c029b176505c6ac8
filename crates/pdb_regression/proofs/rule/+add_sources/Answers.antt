use Rattle.std.proofs.Common.{rules, ◌≡◌, ◌∷◌, ℕ, ◌+◌, ◌*◌, ◌-◌, ◌^◌, ◌<◌, List, length, get_or, take, drop, subst, arith}
use Rattle.std.specs.Prelude.{All}
use Rattle.std.proofs.lemmas.List.Elements.{All-tail}
use Rattle.abstraction.specs.declared.digit.Digit.{Digit}
use Rattle.abstraction.specs.Digits.{IsDigitBelow}
use Rattle.abstraction_groups.specs.declared.backward.Transition.{Transition}
use Rattle.pdb_regression.specs.Rules.{IsWith}
use Rattle.pdb_regression.proofs.Elements.{first_and_rest}
use Rattle.pdb_regression.proofs.RuleLaws.{with_itself, weighted, value_more, value_all}
use Rattle.pdb_regression.proofs.rule.+add_sources.Goals as goal

pub overflow_cast-source : goal.overflow_cast-source
overflow_cast-source t c = omega (arith, c.requires.small c.args.source (with_itself c.args.free.now c.args.source c.requires.free))

pub overflow_add-source : goal.overflow_add-source
overflow_add-source t c =
    let free = c.args.free.now in
    let none : Digit = record { weight = 0; range = 0 } in
    let d : Digit = get_or free 0 none in
    let below = c.requires.free 0 none (omega (arith, c.in-len1-up.len_at_least)) in
    omega (arith, c.requires.small c.args.source (with_itself free c.args.source c.requires.free), weighted d c.loop-value.value below c.loop-value-test.true)

pub add_sources-requires : goal.add_sources-requires
add_sources-requires t c =
    let free = c.args.free.now in
    let none : Digit = record { weight = 0; range = 0 } in
    let d : Digit = get_or free 0 none in
    let rest : List Digit = take (length free - 1) (drop 1 free) in
    let whole : free ≡ d ∷ rest = first_and_rest free none c.in-len1-up.len_at_least in
    let fit : All (IsDigitBelow (2 ^ 24)) (d ∷ rest) = subst (All (IsDigitBelow (2 ^ 24))) whole c.requires.free in
    let small : (m : ℕ) → IsWith (d ∷ rest) c.args.source m → m < 2 ^ 32 = subst (λ (ds : List Digit). (m : ℕ) → IsWith ds c.args.source m → m < 2 ^ 32) whole c.requires.small in
    (search rules, (All-tail (IsDigitBelow (2 ^ 24)) d rest fit, λ m h. small m (c.loop-value.value, c.loop-value-test.true, h)))

pub loop-value-preserved : goal.loop-value-preserved
loop-value-preserved t c =
    let free = c.args.free.now in
    let none : Digit = record { weight = 0; range = 0 } in
    let d : Digit = get_or free 0 none in
    let rest : List Digit = take (length free - 1) (drop 1 free) in
    value_more (λ (u : Transition). u.class ≡ c.args.class) (λ (x : ℕ) (u : Transition). IsWith rest (c.args.source + x * d.weight) u.source) c.loop-value.value c.args.transitions.now.items
    c.loop-value.transitions.items c.add_sources.new.transitions.items c.loop-value.invariant c.in_ok-add_sources.ensures

pub returns : goal.returns
returns t c =
    let free = c.args.free.now in
    let none : Digit = record { weight = 0; range = 0 } in
    let d : Digit = get_or free 0 none in
    let rest : List Digit = take (length free - 1) (drop 1 free) in
    let whole : free ≡ d ∷ rest = first_and_rest free none c.in-len1-up.len_at_least in
    let end : c.loop-value.value ≡ d.range = omega (arith, c.loop-value-test.false, c.loop-value.auto.value-end) in
    value_all (λ (u : Transition). u.class ≡ c.args.class) d rest free c.args.source c.loop-value.value c.args.transitions.now.items c.loop-value.transitions.items whole end c.loop-value.invariant
