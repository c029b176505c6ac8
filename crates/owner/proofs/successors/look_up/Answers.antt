use Rattle.std.proofs.Common.{◌≡◌, ℕ, ◌+◌, Bool, List, length, map, get_or, Some, None, sym, ap, ◌∙◌, subst}
use Rattle.std.specs.Prelude.{slice_index}
use Rattle.std.proofs.lemmas.List.{length_push}
use Rattle.fdr.specs.Tasks.{ranges, cost_of, step}
use Rattle.owner_theory.specs.Owners.{message_to}
use Rattle.closed.specs.Tables.{fresh}
use Rattle.owner.specs.declared.successors.Successor.{Successor}
use Rattle.owner.specs.Owned.{space_of}
use Rattle.owner.specs.Successors.{IsSuccessor, ChangesNothing, AreKnown}
use Rattle.owner.proofs.Passing.{known_more, nothing_by, operator_at}
use Rattle.owner.proofs.successors.look_up.Goals as goal

pub loop-place-preserved : goal.loop-place-preserved
loop-place-preserved g c =
    let h = c.args.holdings.now in
    let ss = c.args.successors.now in
    let os : List ℕ = map (λ (x : Successor g.row.F.Denot). x.operator) ss in
    let s = c.index-successors-place.result in
    let s0 = c.args.state.now in
    let inv = c.loop-place.invariant in
    let space = space_of g.S.Spread.owner h in
    let made = subst (λ (x : Successor g.row.F.Denot). IsSuccessor g.F.StateForm.IsForm g.F.StateForm.values space s0 x)
    (sym c.index-successors-place.is) (c.requires.each c.loop-place.place s c.loop-place-test.true) in
    let at : slice_index os (length c.loop-place.known.items) ≡ s.operator =
    ap (λ k. get_or os k 0) inv.as_many ∙ operator_at ss c.loop-place.place s c.loop-place-test.true c.index-successors-place.is in
    record {
      as_many = ap length c.in_ok-push.ensures.items ∙ (length_push c.loop-place.known.items c.changes_nothing.result ∙ ap (λ n. n + 1) inv.as_many);
      known = subst (λ (l : List Bool). AreKnown space h.worker c.args.next.index (fresh s0 c.args.next.rank None) h.nodes os l) (sym c.in_ok-push.ensures.items)
          (known_more
          (λ k. (t : List ℕ) → step h.space.task s0 (slice_index os k) ≡ Some t
          → ChangesNothing space h.worker h.nodes (message_to h.space.task h.worker c.args.next.index (fresh s0 c.args.next.rank None) (slice_index os k) t))
          c.loop-place.known.items c.changes_nothing.result inv.known
          (λ e t leads.
          let w = c.changes_nothing.ensures e in
          nothing_by space h.worker c.args.next.index s0 c.args.next.rank h.nodes (g.F.StateForm.values (ranges h.space.task) s.state)
          (slice_index os (length c.loop-place.known.items)) t
          (ap (λ k. step h.space.task s0 k) at ∙ made.leads) leads (sym made.owner ∙ w.0) (sym made.goal ∙ w.1)
          (λ after parent cost steps. w.2 after parent (cost ∙ ap (λ k. c.args.next.rank.cost + cost_of h.space.task k) at) steps)));
    }
