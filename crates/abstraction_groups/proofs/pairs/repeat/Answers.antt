use Rattle.std.proofs.Common.{◌≡◌, ◌-◌, List, length, take, drop, ◌∙◌, subst, arith}
use Rattle.std.specs.Prelude.{Contains}
use Rattle.keyed_lists.specs.declared.lists.Keyed.{Keyed}
use Rattle.abstraction_groups.specs.declared.backward.Transition.{Transition}
use Rattle.std.proofs.lemmas.List.{length-drop}
use Rattle.abstraction_groups.proofs.RowSums.{copies_front, copies_step, begin_copies}
use Rattle.abstraction_groups.proofs.pairs.repeat.Goals as goal

pub loop-value-init : goal.loop-value-init
loop-value-init c = begin_copies c.args.first c.args.source c.args.target c.args.entries.now.items

pub append_shifted-requires-clause-within : goal.append_shifted-requires-clause-within
append_shifted-requires-clause-within c =
    let old : List (Keyed Transition) = c.args.entries.now.items in
    let count = c.len.result - c.args.first in
    let long : count ≡ length (drop c.args.first old) = omega (arith, length-drop c.args.first old, c.len.ensures, c.args.entries.now.ok.0) in
    let front = copies_front c.args.first old c.loop-value.value c.args.source c.args.target count c.loop-value.entries.items c.requires.first (omega arith) long c.loop-value.invariant in
    front.1

pub append_shifted-requires-clause-small : goal.append_shifted-requires-clause-small
append_shifted-requires-clause-small c e h =
    let old : List (Keyed Transition) = c.args.entries.now.items in
    let count = c.len.result - c.args.first in
    let long : count ≡ length (drop c.args.first old) = omega (arith, length-drop c.args.first old, c.len.ensures, c.args.entries.now.ok.0) in
    let front = copies_front c.args.first old c.loop-value.value c.args.source c.args.target count c.loop-value.entries.items c.requires.first (omega arith) long c.loop-value.invariant in
    let small = c.requires.small e c.loop-value.value (subst (λ (xs : List (Keyed Transition)). Contains xs e) front.0 h) (omega arith) in
    let a = small.0 in
    let b = small.1 in
    (omega arith, omega arith)

pub loop-value-preserved : goal.loop-value-preserved
loop-value-preserved c =
    let old : List (Keyed Transition) = c.args.entries.now.items in
    let count = c.len.result - c.args.first in
    let long : count ≡ length (drop c.args.first old) = omega (arith, length-drop c.args.first old, c.len.ensures, c.args.entries.now.ok.0) in
    let front = copies_front c.args.first old c.loop-value.value c.args.source c.args.target count c.loop-value.entries.items c.requires.first (omega arith) long c.loop-value.invariant in
    c.in_ok-append_shifted.ensures
    ∙ copies_step c.args.first old c.loop-value.value c.args.source c.args.target c.loop-value.entries.items (take count (drop c.args.first c.loop-value.entries.items)) c.loop-value.invariant front.0
