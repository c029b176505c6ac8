use Rattle.std.proofs.Common.{◌≡◌, List, map, drop, None}
use Rattle.std.specs.Prelude.{filter_map}
use Rattle.owner_theory.specs.Owners.{Node, treat_all, successor_by}
use Rattle.closed.specs.Hints.{AreHintsFor}
use Rattle.closed.specs.Tables.{fresh}
use Rattle.owner.specs.Owned.{space_of}
use Rattle.owner.specs.Successors.{AreKnown}
use Rattle.owner.specs.Batches.{pending, IsBatch, ArePosted}
use Rattle.owner.proofs.batch.place_unknown.Given as goal

abbrev pub invariant-loop-at : goal.invariant-loop-at
invariant-loop-at g l =
    let values = g.F.StateForm.values in
    let space = space_of g.S.Spread.owner l.fn.holdings in
    let me = l.fn.holdings.worker in
    let n = fresh l.fn.places.state l.next.rank None in
    let by = successor_by l.fn.holdings.space.task me l.next.index n in
    let operators = map (λ s. s.operator) l.successors in
    record {
      treated : (nodes : List Node)
          → AreKnown space me l.next.index n (pending values l.bound nodes l.fn.holdings l.fn.batch).nodes operators l.known
          → (treat_all space me (pending values l.bound nodes l.holdings l.batch) (filter_map by (drop l.at operators))
          ≡ treat_all space me (pending values l.bound nodes l.fn.holdings l.fn.batch) (filter_map by operators))
          × AreKnown space me l.next.index n (pending values l.bound nodes l.holdings l.batch).nodes operators l.known;
      batch : IsBatch g.F.StateForm.IsForm values g.S.Spread.owner l.holdings l.batch;
      hints : AreHintsFor g.F.Hash.hash_input l.batch.own.items l.batch.hints.items;
      posted : ArePosted l.fn.holdings l.holdings l.fn.batch.receivers.items l.batch.receivers.items;
      places : l.places ≡ l.fn.places;
    }
