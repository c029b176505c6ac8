use Rattle.std.proofs.Common.{below_more, arith}
use Rattle.pdb.specs.Numbers.{distance_in}
use Rattle.pdb.specs.Saturations.{IsCoveredAt}
use Rattle.pdb.proofs.saturation.cover_all.Goals as goal

pub cover-requires-clause-falls : goal.cover-requires-clause-falls
cover-requires-clause-falls g c = λ o i p e step. omega (arith, c.requires.falls c.loop-state.state (omega arith) o i p e step, c.type_inv.least p)

pub loop-state-preserved : goal.loop-state-preserved
loop-state-preserved g c =
    let a = g.T.BackwardTransitions.abstraction c.args.transitions.now in
    let classes = g.T.BackwardTransitions.classes c.args.transitions.now in
    let value = distance_in c.args.values.now in
    let new = c.cover.new.greatest in
    let inv = c.loop-state.invariant in
    let now = c.in_ok-cover.ensures in
    record {
      within = omega (arith, c.first_below-first.ensures.within, c.cover.auto.greatest);
      full = λ p h. omega (arith, c.first_below-first.ensures.full p h, now.kept p);
      reached = now.reached;
      covered = below_more (λ j. IsCoveredAt a classes value j new) c.loop-state.state
          (λ j h o i p e step. omega (arith, inv.covered j h o i p e step, now.kept p))
          now.covered;
    }
