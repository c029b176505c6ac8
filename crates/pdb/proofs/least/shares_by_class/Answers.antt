use Rattle.std.proofs.Common.{◌≡◌, ◌∙◌, ℕ, List, length, slice_index, ap, arith}
use Rattle.std.proofs.lemmas.List.{with_items_is}
use Rattle.pdb.proofs.Shares.{below_all, shares_set}
use Rattle.pdb.proofs.least.shares_by_class.Goals as goal

pub loop-class-preserved : goal.loop-class-preserved
loop-class-preserved g c =
    let classes = g.T.BackwardTransitions.classes c.args.transitions.now in
    let numbers = c.args.numbers.now in
    let old = c.loop-class.shares.items in
    let new = c.set_shares.new.shares in
    let long : length new ≡ c.loop-class.shares.len = omega (arith, c.set_shares.auto.shares, c.deref_mut.ensures.len) in
    let full : length new ≡ c.args.count = omega (arith, c.set_shares.auto.shares, ap length c.deref_mut.ensures.value, c.loop-class.invariant.len) in
    rw (with_items_is c.loop-class.shares new long)
    (record {
      len = full;
      shares = shares_set classes numbers c.operators_of.result.now c.loop-class.class c.operators_of.ensures.operators old new c.args.count
          (λ o l has. c.set_shares.ensures.set o (omega (arith, full, c.set_shares.auto.shares)) has)
          (λ o away. c.set_shares.ensures.others o away ∙ ap (λ (xs : List ℕ). slice_index xs o) c.deref_mut.ensures.value)
          c.loop-class.invariant.shares;
    })

pub returns-clause-shares : goal.returns-clause-shares
returns-clause-shares g c =
    let classes = g.T.BackwardTransitions.classes c.args.transitions.now in
    let inside = (g.met.T.BackwardTransitions.grouped c.args.transitions.now).below in
    λ o l. c.loop-class.invariant.shares o l ∙ below_all classes c.args.numbers.now c.loop-class.class o (λ p e. omega (arith, inside o p e, c.requires, c.loop-class-test.false))
