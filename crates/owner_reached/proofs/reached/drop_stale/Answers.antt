use Rattle.std.proofs.Common.{◌<◌, length, true≢false, sym, refl}
use Rattle.std.proofs.lemmas.List.Elements.{All-contains}
use Rattle.openlist.specs.declared.entry.OpenEntry.{OpenEntry}
use Rattle.owner_space.specs.Keyed.{IsKeyed, denoted}
use Rattle.owner_reached.proofs.Queues.{current_queue, empty_queue, popped_first, fewer, rest_all, stale_queued}
use Rattle.owner_reached.proofs.reached.drop_stale.Goals as goal

pub is_current-requires-clause-stored : goal.is_current-requires-clause-stored
is_current-requires-clause-stored g c =
    All-contains (IsKeyed c.args.ties) (g.L.OpenList.entries c.loop-entry.list) c.in-Some.entry c.loop-entry.invariant.stored c.in-Some.ensures.member

pub is_current-requires-clause-within : goal.is_current-requires-clause-within
is_current-requires-clause-within g c =
    All-contains (λ (e : OpenEntry). (denoted c.args.ties e).index < length c.args.table.now.nodes) (g.L.OpenList.entries c.loop-entry.list) c.in-Some.entry
    c.loop-entry.invariant.below c.in-Some.ensures.member

pub returns-then-is_current : goal.returns-then-is_current
returns-then-is_current g c = λ h q.
    current_queue c.args.ties h c.args.table.now.nodes c.args.table.now.ever (g.L.OpenList.entries c.loop-entry.list) c.in-Some.entry
    c.in-Some.ensures.member c.in-Some.ensures.first (c.if-is_current.ensures.current refl) c.loop-entry.invariant.stored (c.loop-entry.invariant.queued h q)

pub loop-entry-smaller : goal.loop-entry-smaller
loop-entry-smaller g c =
    fewer (g.L.OpenList.entries c.loop-entry.list) (g.L.OpenList.entries c.pop.new.self) c.in-Some.entry
    (popped_first (g.L.OpenList.entries c.loop-entry.list) (g.L.OpenList.entries c.pop.new.self) c.in-Some.entry c.pop.result c.in-Some.ensures.member c.in-Some.ensures.first
    c.pop.ensures.first c.pop.ensures.rest c.pop.ensures.none)

pub loop-entry-preserved : goal.loop-entry-preserved
loop-entry-preserved g c =
    let ties = c.args.ties in
    let nodes = c.args.table.now.nodes in
    let old = g.L.OpenList.entries c.loop-entry.list in
    let new = g.L.OpenList.entries c.pop.new.self in
    let x = c.in-Some.entry in
    let p = popped_first old new x c.pop.result c.in-Some.ensures.member c.in-Some.ensures.first c.pop.ensures.first c.pop.ensures.rest c.pop.ensures.none in
    record {
      stored = rest_all (IsKeyed ties) old new x p c.loop-entry.invariant.stored;
      below = rest_all (λ (e : OpenEntry). (denoted ties e).index < length nodes) old new x p c.loop-entry.invariant.below;
      queued = λ h queued. stale_queued ties h nodes c.args.table.now.ever old new x
          (λ is. true≢false (sym (c.if-is_current.ensures.stale is))) p (c.loop-entry.invariant.queued h queued);
    }

pub returns : goal.returns
returns g c = λ h q.
    empty_queue c.args.ties h c.args.table.now.nodes c.args.table.now.ever (g.L.OpenList.entries c.loop-entry.list) c.in_default.ensures.none
    c.loop-entry.invariant.stored (c.loop-entry.invariant.queued h q)
