use Rattle.std.proofs.Common.{◌≡◌, ◌<◌, ℕ, Bool, List, length, true, false, Some, sym, ap, ◌∙◌, subst}
use Rattle.std.specs.Prelude.{All, map, fold, slice_get, slice_set}
use Rattle.std.proofs.lemmas.List.{length-map}
use Rattle.cost.specs.Distances.{Finite, ◌+ᵈ◌}
use Rattle.fdr.specs.Tasks.{ranges}
use Rattle.owner_theory.specs.Owners.{At, Node, marked}
use Rattle.owner_theory.proofs.Lists.{at_below}
use Rattle.openlist.specs.declared.entry.OpenEntry.{OpenEntry}
use Rattle.openlist.specs.BucketLists.{all_entries}
use Rattle.closed.specs.Tables.{Table, padded, was_expanded, reached, outcomes_of, arrival}
use Rattle.closed.proofs.Ever.{expanded_padded, bit_back}
use Rattle.owner_space.specs.declared.ties.Ties.{Ties}
use Rattle.owner_space.specs.Keyed.{IsKeyed}
use Rattle.owner_reached.specs.Queues.{ReachedOf, h_of, AreQueued, IsQueue, IsLeast}
use Rattle.owner_reached.proofs.Queues.{SameBits, same_queued, queue_permuted, rest_queued, one_expanded, marks_least, marked_below, reopened, entries_below}
use Rattle.owner_reached.proofs.Adding.{length-outcomes_of}
use Rattle.owner_reached.proofs.reached.Reached.expand_least.Goals as goal

pub invariant_of-self : goal.invariant_of-self
invariant_of-self g c = (
  c.self.invariant.0,
  queue_permuted c.self.inside.space.now.ties (h_of c.self.inside.space.now) _ c.self.inside.table.ever _ _ c.reserve.ensures.entries c.self.invariant.1,
)

pub mark_expanded-requires : goal.mark_expanded-requires
mark_expanded-requires g c =
    let space = c.self.inside.space.now in
    let h = h_of space in
    let nodes = c.self.inside.table.nodes in
    let ever = c.self.inside.table.ever in
    let next = c.in-Some.next in
    let least = subst (λ (r : ReachedOf g.row.S.Denot). IsLeast r.space.ties (h_of r.space) r.nodes r.ever next) (sym c.self.view_is)
    c.in-Some.ensures.some in
    at_below nodes next.index least.node least.there

pub mark_open-requires : goal.mark_open-requires
mark_open-requires g c =
    let space = c.self.inside.space.now in
    let h = h_of space in
    let nodes = c.self.inside.table.nodes in
    let ever = c.self.inside.table.ever in
    let next = c.in-Some.next in
    let least = subst (λ (r : ReachedOf g.row.S.Denot). IsLeast r.space.ties (h_of r.space) r.nodes r.ever next) (sym c.self.view_is)
    c.in-Some.ensures.some in
    subst (λ (t : Table). next.index < length t.nodes) (sym c.in-Err.ensures.unchanged)
    (marked_below space.ties h nodes c.mark_expanded.new.self.nodes ever next least c.mark_expanded.ensures.nodes)

pub invariant_of-self-in-Err : goal.invariant_of-self-in-Err
invariant_of-self-in-Err g c =
    let space = c.self.inside.space.now in
    let h = h_of space in
    let nodes = c.self.inside.table.nodes in
    let ever = c.self.inside.table.ever in
    let next = c.in-Some.next in
    let least = subst (λ (r : ReachedOf g.row.S.Denot). IsLeast r.space.ties (h_of r.space) r.nodes r.ever next) (sym c.self.view_is)
    c.in-Some.ensures.some in
    let unchanged = c.in-Err.ensures.unchanged in
    let told = subst (λ (t : Table). (n : Node) → slice_get t.nodes next.index ≡ Some n
    → c.mark_open.new.self.nodes ≡ slice_set t.nodes next.index (record n { expanded = false })) unchanged c.mark_open.ensures.nodes in
    let same_nodes : c.mark_open.new.self.nodes ≡ nodes =
    reopened space.ties h nodes c.mark_expanded.new.self.nodes ever next least c.mark_expanded.ensures.nodes c.mark_open.new.self.nodes told in
    let bits : c.improve_all.new.self.ever ≡ slice_set ever next.index true = ap (λ (t : Table). t.ever) unchanged ∙ c.mark_expanded.ensures.ever in
    let same_ever : c.mark_open.new.self.ever ≡ ever =
    c.mark_open.ensures.ever ∙ ((λ j. slice_set (bits j) next.index (c.was_expanded-ever.ensures j)) ∙ bit_back ever next.index true) in (
      c.mark_open.ensures.ranges ∙ ap (λ (t : Table). t.ranges) unchanged ∙ c.mark_expanded.ensures.ranges ∙ c.self.invariant.0,
      subst (λ (l : List Node). IsQueue space.ties h l c.mark_open.new.self.ever (all_entries c.reserve.new.self)) (sym same_nodes)
          (subst (λ (bs : List Bool). IsQueue space.ties h nodes bs (all_entries c.reserve.new.self)) (sym same_ever)
          (queue_permuted space.ties h nodes ever _ _ c.reserve.ensures.entries c.self.invariant.1)),
    )

pub returns-in-Err-clause-unchanged : goal.returns-in-Err-clause-unchanged
returns-in-Err-clause-unchanged g c =
    let space = c.self.inside.space.now in
    let h = h_of space in
    let nodes = c.self.inside.table.nodes in
    let ever = c.self.inside.table.ever in
    let next = c.in-Some.next in
    let least = subst (λ (r : ReachedOf g.row.S.Denot). IsLeast r.space.ties (h_of r.space) r.nodes r.ever next) (sym c.self.view_is)
    c.in-Some.ensures.some in
    let unchanged = c.in-Err.ensures.unchanged in
    let told = subst (λ (t : Table). (n : Node) → slice_get t.nodes next.index ≡ Some n
    → c.mark_open.new.self.nodes ≡ slice_set t.nodes next.index (record n { expanded = false })) unchanged c.mark_open.ensures.nodes in
    let same_nodes : c.mark_open.new.self.nodes ≡ nodes =
    reopened space.ties h nodes c.mark_expanded.new.self.nodes ever next least c.mark_expanded.ensures.nodes c.mark_open.new.self.nodes told in
    let bits : c.improve_all.new.self.ever ≡ slice_set ever next.index true = ap (λ (t : Table). t.ever) unchanged ∙ c.mark_expanded.ensures.ever in
    let same_ever : c.mark_open.new.self.ever ≡ ever =
    c.mark_open.ensures.ever ∙ ((λ j. slice_set (bits j) next.index (c.was_expanded-ever.ensures j)) ∙ bit_back ever next.index true) in
    (λ j. record { space = space; nodes = same_nodes j; ever = same_ever j }) ∙ c.self.view_is

pub put_all_in-requires-clause-outcomes : goal.put_all_in-requires-clause-outcomes
put_all_in-requires-clause-outcomes g c =
    let node = arrival (g.F.StateForm.values c.mark_expanded.new.self.ranges) in
    ap length (c.deref.ensures.value ∙ c.in_default-improve_all.ensures.outcomes)
    ∙ length-outcomes_of c.mark_expanded.new.self.nodes (map node c.args.messages.now) ∙ length-map c.args.messages.now node

pub put_all_in-requires-clause-room : goal.put_all_in-requires-clause-room
put_all_in-requires-clause-room g c = c.pop.ensures.room c.args.fs.now c.in_ok-reserve.ensures.room

pub drop_stale-requires-clause-stored : goal.drop_stale-requires-clause-stored
drop_stale-requires-clause-stored g c =
    let space = c.self.inside.space.now in
    let h = h_of space in
    let nodes = c.self.inside.table.nodes in
    let ever = c.self.inside.table.ever in
    let next = c.in-Some.next in
    let least = subst (λ (r : ReachedOf g.row.S.Denot). IsLeast r.space.ties (h_of r.space) r.nodes r.ever next) (sym c.self.view_is)
    c.in-Some.ensures.some in
    let marked_nodes = c.mark_expanded.new.self.nodes in
    let q = queue_permuted space.ties h nodes ever _ _ c.reserve.ensures.entries c.self.invariant.1 in
    let (popped, rest) = rest_queued space.ties h nodes marked_nodes ever _ (all_entries c.pop.new.self) next q least
    c.mark_expanded.ensures.nodes c.pop.result c.pop.ensures.first c.pop.ensures.rest c.pop.ensures.none in
    c.put_all_in.ensures.stored (subst (λ (t : Ties). All (IsKeyed t) (all_entries c.pop.new.self)) (sym c.ties-ties.ensures) popped)

pub drop_stale-requires-clause-within : goal.drop_stale-requires-clause-within
drop_stale-requires-clause-within g c =
    let space = c.self.inside.space.now in
    let h = h_of space in
    let nodes = c.self.inside.table.nodes in
    let ever = c.self.inside.table.ever in
    let next = c.in-Some.next in
    let least = subst (λ (r : ReachedOf g.row.S.Denot). IsLeast r.space.ties (h_of r.space) r.nodes r.ever next) (sym c.self.view_is)
    c.in-Some.ensures.some in
    let marked_nodes = c.mark_expanded.new.self.nodes in
    let q = queue_permuted space.ties h nodes ever _ _ c.reserve.ensures.entries c.self.invariant.1 in
    let last = c.improve_all.new.self in
    let bits : last.ever ≡ padded (slice_set ever next.index true) (length last.nodes) =
    c.in_default-improve_all.ensures.ever ∙ ap (λ (bs : List Bool). padded bs (length last.nodes)) c.mark_expanded.ensures.ever in
    let ms = c.args.messages.now in
    let values = g.F.StateForm.values (ranges space.task) in
    let ranges_are = c.mark_expanded.ensures.ranges ∙ c.self.invariant.0 in
    let same : SameBits (slice_set ever next.index true) last.ever =
    λ i. ap (λ (bs : List Bool). was_expanded bs i) bits ∙ expanded_padded (slice_set ever next.index true) (length last.nodes) i in
    let (popped, rest) = rest_queued space.ties h nodes marked_nodes ever _ (all_entries c.pop.new.self) next q least
    c.mark_expanded.ensures.nodes c.pop.result c.pop.ensures.first c.pop.ensures.rest c.pop.ensures.none in
    let f_values = subst (λ (r : ReachedOf g.row.S.Denot). map (λ m. Finite m.rank.cost +ᵈ h_of r.space (g.F.StateForm.values (ranges r.space.task) m.state)) ms
    ≡ map Finite c.args.fs.now) (sym c.self.view_is) c.requires.fs in
    let outcomes = subst (λ (rs : List ℕ). c.deref.result.now ≡ outcomes_of marked_nodes (map (arrival (g.F.StateForm.values rs)) ms)) ranges_are
    (c.deref.ensures.value ∙ c.in_default-improve_all.ensures.outcomes) in
    let put = c.put_all_in.ensures.queued values h marked_nodes f_values c.requires.bound outcomes
    (subst (λ (t : Ties). AreQueued t h marked_nodes last.ever (all_entries c.pop.new.self)) (sym c.ties-ties.ensures)
    (same_queued space.ties h marked_nodes (slice_set ever next.index true) last.ever (all_entries c.pop.new.self) same rest)) in
    let stored = c.put_all_in.ensures.stored (subst (λ (t : Ties). All (IsKeyed t) (all_entries c.pop.new.self)) (sym c.ties-ties.ensures) popped) in
    let after : last.nodes ≡ fold reached marked_nodes (map (arrival values) ms) =
    subst (λ (rs : List ℕ). last.nodes ≡ fold reached marked_nodes (map (arrival (g.F.StateForm.values rs)) ms)) ranges_are
    c.in_default-improve_all.ensures.nodes in
    let queued = subst (λ (l : List Node). AreQueued c.ties-ties.result h l last.ever (all_entries c.put_all_in.new.list)) (sym after) put in
    entries_below c.ties-ties.result h last.nodes last.ever (all_entries c.put_all_in.new.list) queued

pub invariant_of-self-2 : goal.invariant_of-self-2
invariant_of-self-2 g c =
    let space = c.self.inside.space.now in
    let h = h_of space in
    let nodes = c.self.inside.table.nodes in
    let ever = c.self.inside.table.ever in
    let next = c.in-Some.next in
    let least = subst (λ (r : ReachedOf g.row.S.Denot). IsLeast r.space.ties (h_of r.space) r.nodes r.ever next) (sym c.self.view_is)
    c.in-Some.ensures.some in
    let marked_nodes = c.mark_expanded.new.self.nodes in
    let q = queue_permuted space.ties h nodes ever _ _ c.reserve.ensures.entries c.self.invariant.1 in
    let last = c.improve_all.new.self in
    let bits : last.ever ≡ padded (slice_set ever next.index true) (length last.nodes) =
    c.in_default-improve_all.ensures.ever ∙ ap (λ (bs : List Bool). padded bs (length last.nodes)) c.mark_expanded.ensures.ever in
    let ms = c.args.messages.now in
    let values = g.F.StateForm.values (ranges space.task) in
    let ranges_are = c.mark_expanded.ensures.ranges ∙ c.self.invariant.0 in
    let same : SameBits (slice_set ever next.index true) last.ever =
    λ i. ap (λ (bs : List Bool). was_expanded bs i) bits ∙ expanded_padded (slice_set ever next.index true) (length last.nodes) i in
    let (popped, rest) = rest_queued space.ties h nodes marked_nodes ever _ (all_entries c.pop.new.self) next q least
    c.mark_expanded.ensures.nodes c.pop.result c.pop.ensures.first c.pop.ensures.rest c.pop.ensures.none in
    let f_values = subst (λ (r : ReachedOf g.row.S.Denot). map (λ m. Finite m.rank.cost +ᵈ h_of r.space (g.F.StateForm.values (ranges r.space.task) m.state)) ms
    ≡ map Finite c.args.fs.now) (sym c.self.view_is) c.requires.fs in
    let outcomes = subst (λ (rs : List ℕ). c.deref.result.now ≡ outcomes_of marked_nodes (map (arrival (g.F.StateForm.values rs)) ms)) ranges_are
    (c.deref.ensures.value ∙ c.in_default-improve_all.ensures.outcomes) in
    let put = c.put_all_in.ensures.queued values h marked_nodes f_values c.requires.bound outcomes
    (subst (λ (t : Ties). AreQueued t h marked_nodes last.ever (all_entries c.pop.new.self)) (sym c.ties-ties.ensures)
    (same_queued space.ties h marked_nodes (slice_set ever next.index true) last.ever (all_entries c.pop.new.self) same rest)) in
    let stored = c.put_all_in.ensures.stored (subst (λ (t : Ties). All (IsKeyed t) (all_entries c.pop.new.self)) (sym c.ties-ties.ensures) popped) in
    let after : last.nodes ≡ fold reached marked_nodes (map (arrival values) ms) =
    subst (λ (rs : List ℕ). last.nodes ≡ fold reached marked_nodes (map (arrival (g.F.StateForm.values rs)) ms)) ranges_are
    c.in_default-improve_all.ensures.nodes in
    let queued = subst (λ (l : List Node). AreQueued c.ties-ties.result h l last.ever (all_entries c.put_all_in.new.list)) (sym after) put in (
      c.improve_all.ensures.ranges ∙ ranges_are,
      subst (λ (t : Ties). IsQueue t h last.nodes last.ever (all_entries c.drop_stale.new.list)) c.ties-ties.ensures (c.drop_stale.ensures h queued),
    )

pub returns-clause-nodes : goal.returns-clause-nodes
returns-clause-nodes g c =
    let space = c.self.inside.space.now in
    let h = h_of space in
    let nodes = c.self.inside.table.nodes in
    let ever = c.self.inside.table.ever in
    let next = c.in-Some.next in
    let least = subst (λ (r : ReachedOf g.row.S.Denot). IsLeast r.space.ties (h_of r.space) r.nodes r.ever next) (sym c.self.view_is)
    c.in-Some.ensures.some in
    let marked_nodes = c.mark_expanded.new.self.nodes in
    let q = queue_permuted space.ties h nodes ever _ _ c.reserve.ensures.entries c.self.invariant.1 in
    let ms = c.args.messages.now in
    let values = g.F.StateForm.values (ranges space.task) in
    let after : c.improve_all.new.self.nodes ≡ fold reached marked_nodes (map (arrival values) ms) =
    subst (λ (rs : List ℕ). c.improve_all.new.self.nodes ≡ fold reached marked_nodes (map (arrival (g.F.StateForm.values rs)) ms))
    (c.mark_expanded.ensures.ranges ∙ c.self.invariant.0) c.in_default-improve_all.ensures.nodes in
    subst (λ (r : ReachedOf g.row.S.Denot). (e : OpenEntry) (n : Node) → IsLeast r.space.ties (h_of r.space) r.nodes r.ever e → At r.nodes e.index n
    → c.improve_all.new.self.nodes ≡ fold reached (slice_set r.nodes e.index (marked n)) (map (arrival (g.F.StateForm.values (ranges r.space.task))) ms))
    c.self.view_is
    (λ e n first at. after ∙ ap (λ (l : List Node). fold reached l (map (arrival values) ms))
    (marks_least space.ties h nodes marked_nodes ever _ (all_entries c.pop.new.self) next q least c.mark_expanded.ensures.nodes
    c.pop.result c.pop.ensures.first c.pop.ensures.rest c.pop.ensures.none e n first at))

pub returns-clause-ever : goal.returns-clause-ever
returns-clause-ever g c =
    let space = c.self.inside.space.now in
    let h = h_of space in
    let nodes = c.self.inside.table.nodes in
    let ever = c.self.inside.table.ever in
    let next = c.in-Some.next in
    let least = subst (λ (r : ReachedOf g.row.S.Denot). IsLeast r.space.ties (h_of r.space) r.nodes r.ever next) (sym c.self.view_is)
    c.in-Some.ensures.some in
    let marked_nodes = c.mark_expanded.new.self.nodes in
    let q = queue_permuted space.ties h nodes ever _ _ c.reserve.ensures.entries c.self.invariant.1 in
    let last = c.improve_all.new.self in
    let bits : last.ever ≡ padded (slice_set ever next.index true) (length last.nodes) =
    c.in_default-improve_all.ensures.ever ∙ ap (λ (bs : List Bool). padded bs (length last.nodes)) c.mark_expanded.ensures.ever in
    subst (λ (r : ReachedOf g.row.S.Denot). (e : OpenEntry) → IsLeast r.space.ties (h_of r.space) r.nodes r.ever e
    → last.ever ≡ padded (slice_set r.ever e.index true) (length last.nodes))
    c.self.view_is
    (λ e first. bits ∙ ap (λ k. padded (slice_set ever k true) (length last.nodes))
    (one_expanded space.ties h nodes marked_nodes ever _ (all_entries c.pop.new.self) next q least c.mark_expanded.ensures.nodes
    c.pop.result c.pop.ensures.first c.pop.ensures.rest c.pop.ensures.none e first))
