use Rattle.std.proofs.Common.{◌≡◌, length, ap, sym, ◌∙◌}
use Rattle.std.proofs.lemmas.List.{take_all, with_items_is}
use Rattle.owner.specs.Owned.{space_of}
use Rattle.cert.specs.Expanded.{listed}
use Rattle.cert.proofs.ExpandedLists.{one_owner_more}
use Rattle.cert.proofs.Searches.{one_kept_more}
use Rattle.cert.proofs.states.expanded_states.Goals as goal

pub loop-owner-preserved : goal.loop-owner-preserved
loop-owner-preserved g c =
    let i = c.loop-owner.owner-index in
    let o = c.owner-item.result in
    let wide : length c.deref_mut.result.now ≡ c.args.width = ap length c.deref_mut.ensures.value ∙ c.loop-owner.invariant.wide in
    let as_long : length c.push_owner.new.state ≡ length c.loop-owner.state.items = c.push_owner.auto.state ∙ ap length c.deref_mut.ensures.value in
    record {
      states =
          one_owner_more c.args.owners.now i o c.loop-owner-test.true c.owner-item.is (listed c.args.width c.loop-owner.states) (listed c.args.width c.push_owner.new.self)
          c.loop-owner.invariant.states (rw wide at c.in_ok-push_owner.ensures.states);
      long = rw wide at c.in_ok-push_owner.ensures.long;
      wide = ap length (with_items_is c.loop-owner.state c.push_owner.new.state (as_long ∙ sym c.loop-owner.state.ok.0)) ∙ as_long ∙ c.loop-owner.invariant.wide;
      cheap =
          one_kept_more c.args.owners.now i o c.loop-owner-test.true c.owner-item.is (space_of g.S.Spread.owner c.owner-item.result) c.owner-item.result.worker c.recall.ensures.nodes
          c.loop-owner.invariant.cheap;
    }

pub returns-clause-cheap : goal.returns-clause-cheap
returns-clause-cheap g c = rw (take_all c.loop-owner.owner-index c.args.owners.now c.loop-owner-test.false) at c.loop-owner.invariant.cheap
