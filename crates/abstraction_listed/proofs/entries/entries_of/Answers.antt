use Rattle.std.proofs.Common.{◌≡◌, ℕ, List, length, ap, subst, arith}
use Rattle.keyed_lists.specs.declared.lists.Keyed.{Keyed}
use Rattle.abstraction_groups.specs.declared.backward.Transition.{Transition}
use Rattle.abstraction_listed.proofs.OperatorLaws.{affecting_few}
use Rattle.abstraction_listed.proofs.EntryLaws.{AreMade, none_made, operator_made, all_made}
use Rattle.abstraction_listed.proofs.entries.entries_of.Goals as goal

pub overflow_cast-class : goal.overflow_cast-class
overflow_cast-class g c =
    let task = g.A.Abstraction.task c.args.abstraction.now in
    let a = g.A.Abstraction.abstraction c.args.abstraction.now in
    omega (arith, ap length c.requires.operators, affecting_few task a, c.requires.few, c.loop-class-test.true)

pub loop-class-init : goal.loop-class-init
loop-class-init g c = rw c.new-entries.ensures.items (none_made (g.A.Abstraction.abstraction c.args.abstraction.now) c.args.operators.now)

pub loop-class-preserved : goal.loop-class-preserved
loop-class-preserved g c =
    let a = g.A.Abstraction.abstraction c.args.abstraction.now in
    let old : List (Keyed Transition) = c.loop-class.entries.items in
    let new : List (Keyed Transition) = c.append_transitions.new.entries.items in
    operator_made a c.args.operators.now c.loop-class.class old new c.loop-class.invariant c.in_ok-append_transitions.ensures

pub returns : goal.returns
returns g c =
    let task = g.A.Abstraction.task c.args.abstraction.now in
    let a = g.A.Abstraction.abstraction c.args.abstraction.now in
    let entries : List (Keyed Transition) = c.loop-class.entries.items in
    let operators : List ℕ = c.args.operators.now in
    let end : c.loop-class.class ≡ length operators = omega (arith, c.loop-class-test.false, c.loop-class.auto.class-end) in
    all_made task a (g.met.A.Abstraction.abstracts c.args.abstraction.now) entries
    (subst (λ (os : List ℕ). AreMade a os (length os) entries) c.requires.operators (subst (λ (n : ℕ). AreMade a operators n entries) end c.loop-class.invariant))
