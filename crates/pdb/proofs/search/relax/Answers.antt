use Rattle.std.proofs.Common.{◌≡◌, ℕ, ◌+◌, ◌^◌, ◌<◌, ◌≤◌, slice_index, get_or, below_more, arith}
use Rattle.abstraction_groups.specs.declared.backward.Transition.{Transition}
use Rattle.pdb.specs.Classes.{share_by}
use Rattle.pdb.proofs.Lowering.{lowered_at_most, lowered_same, lowered_here, IsSearchBut-lowered}
use Rattle.pdb.proofs.Expansion.{no_transition, share_told, listed_leads, IsSearch-expanded}
use Rattle.pdb.proofs.search.relax.Goals as goal

pub bounds-least-transition : goal.bounds-least-transition
bounds-least-transition g c =
    let a = g.T.BackwardTransitions.abstraction c.args.transitions.now in
    let classes = g.T.BackwardTransitions.classes c.args.transitions.now in
    let items = c.args.entering.now in
    let k = c.loop-transition.transition-index in
    let are = c.requires.entering in
    let w = listed_leads a classes c.args.state items are k c.loop-transition-test.true in
    omega (arith, (g.met.T.BackwardTransitions.grouped c.args.transitions.now).below w.0 (get_or items k no_transition).class w.1, c.requires.classes)

pub lower-requires : goal.lower-requires
lower-requires g c =
    let a = g.T.BackwardTransitions.abstraction c.args.transitions.now in
    let classes = g.T.BackwardTransitions.classes c.args.transitions.now in
    let items = c.args.entering.now in
    let k = c.loop-transition.transition-index in
    let are = c.requires.entering in
    let w = listed_leads a classes c.args.state items are k c.loop-transition-test.true in
    omega (arith, w.2.0, c.loop-transition.invariant.search.sound.as_long)

pub loop-transition-preserved : goal.loop-transition-preserved
loop-transition-preserved g c =
    let a = g.T.BackwardTransitions.abstraction c.args.transitions.now in
    let classes = g.T.BackwardTransitions.classes c.args.transitions.now in
    let least = c.args.least.now in
    let share : ℕ → ℕ = share_by classes least in
    let items = c.args.entering.now in
    let b = c.args.state in
    let k = c.loop-transition.transition-index in
    let t : Transition = get_or items k no_transition in
    let are = c.requires.entering in
    let w = listed_leads a classes b items are k c.loop-transition-test.true in
    let o = w.0 in
    let leads = w.2 in
    let inv = c.loop-transition.invariant in
    let old = c.loop-transition.values in
    let before = c.loop-transition.queue in
    let new = c.lower.new.values in
    let after = c.lower.new.queue in
    let low = c.in_ok-lower.ensures in
    let told = share_told classes least o t.class w.1 in
    let small : share o < 2 ^ 31 = omega (arith, c.requires.small t.class) in
    let value = slice_index c.args.values.now b + c.from.result in
    let shown : value ≡ slice_index old b + share o = omega (arith, inv.shown, c.from.ensures) in
    record {
      shown = omega (arith, inv.shown, lowered_same a share old before new after b o t.source value inv.search leads small shown low);
      search = IsSearchBut-lowered a share old before new after b o t.source value inv.search leads small shown low;
      no_more = omega (arith, inv.no_more, low.no_more);
      lowered = below_more (λ m. slice_index new (get_or items m no_transition).source ≤ slice_index c.args.values.now b + slice_index least (get_or items m no_transition).class) k
          (λ m h. omega (arith, inv.lowered m h, lowered_at_most a share old before new after b o t.source value inv.search leads small shown low (get_or items m no_transition).source))
          (let here = lowered_here a share old before new after b o t.source value inv.search leads small shown low in omega (arith, c.from.ensures));
    }

pub returns-clause-search : goal.returns-clause-search
returns-clause-search g c =
    let a = g.T.BackwardTransitions.abstraction c.args.transitions.now in
    let classes = g.T.BackwardTransitions.classes c.args.transitions.now in
    let items = c.args.entering.now in
    let are = c.requires.entering in
    let inv = c.loop-transition.invariant in
    IsSearch-expanded a classes c.args.least.now c.loop-transition.values c.loop-transition.queue c.args.state items (g.met.T.BackwardTransitions.grouped c.args.transitions.now) are inv.search
    (λ k l. omega (arith, inv.shown, inv.lowered k (omega (arith, c.loop-transition-test.false))))
