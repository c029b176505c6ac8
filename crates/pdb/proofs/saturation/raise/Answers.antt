use Rattle.std.proofs.Common.{◌≡◌, ℕ, ◌<◌, ◌≤◌, length, max, slice_index, slice_set, get_or, inr, below_more, arith}
use Rattle.abstraction_groups.specs.declared.backward.Transition.{Transition}
use Rattle.pdb_walks.specs.Walks.{fall}
use Rattle.pdb.specs.Numbers.{distance_in}
use Rattle.pdb.specs.Saturations.{IsFallOf}
use Rattle.pdb.proofs.Expansion.{no_transition, listed_leads, of_each}
use Rattle.pdb.proofs.Falls.{falls_raised, kept_raised, covered_here}
use Rattle.pdb.proofs.saturation.raise.Goals as goal

pub bounds-greatest-class : goal.bounds-greatest-class
bounds-greatest-class g c =
    let a = g.T.BackwardTransitions.abstraction c.args.transitions.now in
    let classes = g.T.BackwardTransitions.classes c.args.transitions.now in
    let items = c.args.entering.now in
    let k = c.loop-transition.transition-index in
    let are = c.requires.entering in
    let w = listed_leads a classes c.args.state items are k c.loop-transition-test.true in
    omega (arith, (g.met.T.BackwardTransitions.grouped c.args.transitions.now).below w.0 (get_or items k no_transition).class w.1, c.requires.len, c.loop-transition.auto.greatest)

pub bounds-greatest-class-in-loop-transition : goal.bounds-greatest-class-in-loop-transition
bounds-greatest-class-in-loop-transition g c =
    let a = g.T.BackwardTransitions.abstraction c.args.transitions.now in
    let classes = g.T.BackwardTransitions.classes c.args.transitions.now in
    let items = c.args.entering.now in
    let k = c.loop-transition.transition-index in
    let are = c.requires.entering in
    let w = listed_leads a classes c.args.state items are k c.loop-transition-test.true in
    omega (arith, (g.met.T.BackwardTransitions.grouped c.args.transitions.now).below w.0 (get_or items k no_transition).class w.1, c.requires.len, c.loop-transition.auto.greatest)

pub fall_from-fall-requires-clause-state : goal.fall_from-fall-requires-clause-state
fall_from-fall-requires-clause-state g c =
    let a = g.T.BackwardTransitions.abstraction c.args.transitions.now in
    let classes = g.T.BackwardTransitions.classes c.args.transitions.now in
    let items = c.args.entering.now in
    let k = c.loop-transition.transition-index in
    let are = c.requires.entering in
    let w = listed_leads a classes c.args.state items are k c.loop-transition-test.true in
    omega (arith, w.2.0, c.requires.values)

pub fall_from-fall-requires-clause-small : goal.fall_from-fall-requires-clause-small
fall_from-fall-requires-clause-small g c =
    let a = g.T.BackwardTransitions.abstraction c.args.transitions.now in
    let classes = g.T.BackwardTransitions.classes c.args.transitions.now in
    let items = c.args.entering.now in
    let k = c.loop-transition.transition-index in
    let are = c.requires.entering in
    let w = listed_leads a classes c.args.state items are k c.loop-transition-test.true in
    let at = c.requires.value in
    rw at at (c.requires.falls w.0 (get_or items k no_transition).source (get_or items k no_transition).class w.1 w.2)

pub loop-transition-preserved : goal.loop-transition-preserved
loop-transition-preserved g c =
    let a = g.T.BackwardTransitions.abstraction c.args.transitions.now in
    let classes = g.T.BackwardTransitions.classes c.args.transitions.now in
    let values = c.args.values.now in
    let j = c.args.state in
    let items = c.args.entering.now in
    let k = c.loop-transition.transition-index in
    let t : Transition = get_or items k no_transition in
    let numbers = c.loop-transition.greatest in
    let n = c.fall_from-fall.result in
    let inv = c.loop-transition.invariant in
    let are = c.requires.entering in
    let w = listed_leads a classes j items are k c.loop-transition-test.true in
    let inside : t.class < length numbers = omega (arith, (g.met.T.BackwardTransitions.grouped c.args.transitions.now).below w.0 t.class w.1, c.requires.len, c.loop-transition.auto.greatest) in
    let at = c.requires.value in
    let fallen : fall (distance_in values t.source) (distance_in values j) ≡ n = rw at (omega (arith, c.fall_from-fall.ensures)) in
    let here : IsFallOf a classes (distance_in values) t.class n = inr (w.0, t.source, j, w.1, c.requires.state, w.2, fallen) in
    let m = c.max.result in
    let is : m ≡ max (slice_index numbers t.class) n = omega (arith, c.max.ensures) in
    let new = slice_set numbers t.class m in
    let kept = kept_raised a classes (distance_in values) numbers t.class n m inside is in
    record {
      reached = falls_raised a classes (distance_in values) numbers t.class n m inside is inv.reached here;
      kept = λ p. omega (arith, inv.kept p, kept p);
      covered = below_more (λ m. fall (distance_in values (get_or items m no_transition).source) (distance_in values j) ≤ slice_index new (get_or items m no_transition).class) k
          (λ m h. omega (arith, inv.covered m h, kept (get_or items m no_transition).class))
          (let covered = covered_here a classes (distance_in values) numbers t.class n m inside is in omega arith);
    }

pub returns-clause-covered : goal.returns-clause-covered
returns-clause-covered g c =
    let a = g.T.BackwardTransitions.abstraction c.args.transitions.now in
    let classes = g.T.BackwardTransitions.classes c.args.transitions.now in
    let values = c.args.values.now in
    let items = c.args.entering.now in
    let are = c.requires.entering in
    λ o i p e step.
    of_each a classes c.args.state items (λ (p i : ℕ). fall (distance_in values i) (distance_in values c.args.state) ≤ slice_index c.loop-transition.greatest p) are
    (λ k l. c.loop-transition.invariant.covered k (omega (arith, c.loop-transition-test.false))) o p i e step
