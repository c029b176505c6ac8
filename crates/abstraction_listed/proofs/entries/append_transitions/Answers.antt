use Rattle.std.proofs.Common.{◌≡◌, ℕ, List, sym, subst, arith}
use Rattle.keyed_lists.specs.declared.lists.Keyed.{Keyed}
use Rattle.abstraction_groups.specs.declared.backward.Transition.{Transition}
use Rattle.abstraction_listed.specs.Entries.{AreAppended}
use Rattle.abstraction_listed.proofs.EntryLaws.{none_appended, entry_appended, nothing_appended}
use Rattle.abstraction_listed.proofs.entries.append_transitions.Goals as goal
use Rattle.abstraction_listed.proofs.entries.append_transitions.Goals.{in-Some+in_ok-push, in_default}

pub loop-state-init : goal.loop-state-init
loop-state-init g c = none_appended (g.A.Abstraction.abstraction c.args.abstraction.now) c.args.operator c.args.class c.args.entries.now.items

pub loop-state-preserved : goal.loop-state-preserved
loop-state-preserved g c =
    let a = g.A.Abstraction.abstraction c.args.abstraction.now in
    let o = c.args.operator in
    let class = c.args.class in
    let n = c.loop-state.state in
    let old : List (Keyed Transition) = c.args.entries.now.items in
    let new : List (Keyed Transition) = c.loop-state.entries.items in
    elim c.match-transition.branch [
      | in-Some+in_ok-push w ↦ rw (w.entries-is, w.in_ok-push.ensures.items) (entry_appended a o class n old new c.loop-state.invariant w.in-Some.target (sym w.in-Some.ensures.value))
      | in_default w ↦ rw w.entries-is (nothing_appended a o class n old new c.loop-state.invariant (sym w.in_default.ensures.value))
    ]

pub returns : goal.returns
returns g c =
    let a = g.A.Abstraction.abstraction c.args.abstraction.now in
    let end : c.loop-state.state ≡ a.size = omega (arith, c.loop-state-test.false, c.loop-state.auto.state-end, c.size-state-end.ensures.value) in
    subst (λ (n : ℕ). AreAppended a c.args.operator c.args.class n c.args.entries.now.items c.loop-state.entries.items) end c.loop-state.invariant
