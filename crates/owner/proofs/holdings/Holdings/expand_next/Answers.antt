use Rattle.std.proofs.Common.{◌≡◌, ◌+◌, ◌≤◌, ◌^◌, suc, true, false, ℕ, Some, List, All, map, add-one, sym, ap, ◌∙◌, subst, cond}
use Rattle.std.specs.Prelude.{is_some, slice_set, fold}
use Rattle.cost.specs.Distances.{Finite, ◌+ᵈ◌}
use Rattle.fdr.specs.Tasks.{ranges}
use Rattle.owner_theory.specs.Owners.{Node, At, marked, improve}
use Rattle.owner_space.specs.Spaces.{SpaceOf}
use Rattle.closed.specs.declared.message.Message.{Message}
use Rattle.closed.specs.declared.rows.Hint.{Hint}
use Rattle.closed.specs.Hints.{AreHintsFor}
use Rattle.closed.specs.Tables.{message_of, arrival, reached}
use Rattle.owner_reached.specs.Queues.{ReachedOf, IsLeast, h_of}
use Rattle.owner.specs.Owned.{OwnerOf, space_of, max_total, IsMessageTo}
use Rattle.owner.specs.Held.{IsOwner}
use Rattle.owner.specs.Batches.{IsBatch}
use Rattle.openlist.specs.declared.entry.OpenEntry.{OpenEntry}
use Rattle.owner.proofs.Owning.{boxes_in, with_expanded, IsExpandedAs, expanded_kept, expanded_as, counted_more, all_reached, all_mapped}
use Rattle.owner.proofs.holdings.Holdings.expand_next.Goals as goal

pub expand_least-requires-clause-some : goal.expand_least-requires-clause-some
expand_least-requires-clause-some g c =
    subst (λ (x : OwnerOf g.row.S.Denot). (y : OpenEntry) × IsLeast x.space.ties (h_of x.space) x.nodes x.ever y) (sym c.self.view_is) c.requires.some

pub expand_least-requires-clause-forms : goal.expand_least-requires-clause-forms
expand_least-requires-clause-forms g c =
    let b = subst (λ (x : OwnerOf g.row.S.Denot). IsBatch g.F.StateForm.IsForm g.F.StateForm.values g.S.Spread.owner x c.args.batch.now) (sym c.self.view_is) c.requires.batch in
    subst (λ (l : List (Message g.row.F.Denot)). All (λ m. g.F.StateForm.IsForm (ranges c.self.inside.reached.space.task) m.state) l)
    (sym c.deref.ensures.value) b.forms

pub expand_least-requires-clause-hints : goal.expand_least-requires-clause-hints
expand_least-requires-clause-hints g c =
    subst (λ (l : List (Message g.row.F.Denot)). AreHintsFor g.F.Hash.hash_input l c.deref-2.result.now) (sym c.deref.ensures.value)
    (subst (λ (l : List Hint). AreHintsFor g.F.Hash.hash_input c.args.batch.now.own.items l) (sym c.deref-2.ensures.value) c.requires.hints)

pub expand_least-requires-clause-fs : goal.expand_least-requires-clause-fs
expand_least-requires-clause-fs g c =
    let b = subst (λ (x : OwnerOf g.row.S.Denot). IsBatch g.F.StateForm.IsForm g.F.StateForm.values g.S.Spread.owner x c.args.batch.now) (sym c.self.view_is) c.requires.batch in
    ap (λ (l : List (Message g.row.F.Denot)). map (λ m. Finite m.rank.cost +ᵈ h_of c.self.inside.reached.space
    (g.F.StateForm.values (ranges c.self.inside.reached.space.task) m.state)) l) c.deref.ensures.value
    ∙ (b.fs ∙ ap (map Finite) (sym c.deref-3.ensures.value))

pub expand_least-requires-clause-bound : goal.expand_least-requires-clause-bound
expand_least-requires-clause-bound g c =
    let b = subst (λ (x : OwnerOf g.row.S.Denot). IsBatch g.F.StateForm.IsForm g.F.StateForm.values g.S.Spread.owner x c.args.batch.now) (sym c.self.view_is) c.requires.batch in
    subst (λ (l : List ℕ). All (λ f. f ≤ 2 ^ 63) l) (sym c.deref-3.ensures.value) b.bounded

pub invariant_of-self : goal.invariant_of-self
invariant_of-self g c =
    subst (λ (r : ReachedOf g.row.S.Denot). IsOwner g.S.Spread.owner (record {
      space = r.space;
      worker = c.self.inside.worker;
      nodes = r.nodes;
      ever = r.ever;
      outboxes = boxes_in g.F.StateForm.values c.self.inside.outboxes r.space;
      best = c.self.inside.best;
      expansions = c.self.inside.expansions;
    }))
    (sym c.in_err-expand_least.ensures.unchanged) c.self.invariant

pub invariant_of-self-then-is_some : goal.invariant_of-self-then-is_some
invariant_of-self-then-is_some g c =
    let o : OwnerOf g.row.S.Denot = record {
      space = c.self.inside.reached.space;
      worker = c.self.inside.worker;
      nodes = c.self.inside.reached.nodes;
      ever = c.self.inside.reached.ever;
      outboxes = boxes_in g.F.StateForm.values c.self.inside.outboxes c.self.inside.reached.space;
      best = c.self.inside.best;
      expansions = c.self.inside.expansions;
    } in
    let b = subst (λ (x : OwnerOf g.row.S.Denot). IsBatch g.F.StateForm.IsForm g.F.StateForm.values g.S.Spread.owner x c.args.batch.now) (sym c.self.view_is) c.requires.batch in
    let values = g.F.StateForm.values (ranges o.space.task) in
    let ms = c.args.batch.now.own.items in
    let boxes = boxes_in g.F.StateForm.values c.self.inside.outboxes c.expand_least.new.self.space in
    let boxes_same = ap (boxes_in g.F.StateForm.values c.self.inside.outboxes) c.expand_least.ensures.space in
    let nodes : (e : OpenEntry) (n : Node) → IsLeast o.space.ties (h_of o.space) o.nodes o.ever e → At o.nodes e.index n
    → c.expand_least.new.self.nodes ≡ fold improve (slice_set o.nodes e.index (marked n)) (map (message_of values) ms) =
    λ e n least at. c.in_ok-expand_least.ensures.nodes e n least at
    ∙ (ap (λ (l : List (Message g.row.F.Denot)). fold reached (slice_set o.nodes e.index (marked n)) (map (arrival values) l)) c.deref.ensures.value
    ∙ all_reached values (slice_set o.nodes e.index (marked n)) ms) in
    let (e, l) = subst (λ (x : OwnerOf g.row.S.Denot). (y : OpenEntry) × IsLeast x.space.ties (h_of x.space) x.nodes x.ever y) (sym c.self.view_is) c.requires.some in
    expanded_kept g.S.Spread.owner o c.expand_least.new.self.space c.expand_least.new.self.nodes c.expand_least.new.self.ever boxes c.args.batch.now.best (c.self.inside.expansions + 1) e.index l.node
    (map (message_of values) ms) c.self.invariant c.expand_least.ensures.space boxes_same l.there (nodes e l.node l l.there)
    (all_mapped (message_of values) (IsMessageTo (space_of g.S.Spread.owner o) o.worker) ms b.messages)
    (counted_more o.space.limit o.expansions
    (subst (λ (x : OwnerOf g.row.S.Denot). x.space.limit ≡ Some x.expansions → ⊥) (sym c.self.view_is) c.requires.allowed) c.self.invariant.counted)

pub invariant_of-self-else-is_some : goal.invariant_of-self-else-is_some
invariant_of-self-else-is_some g c =
    let o : OwnerOf g.row.S.Denot = record {
      space = c.self.inside.reached.space;
      worker = c.self.inside.worker;
      nodes = c.self.inside.reached.nodes;
      ever = c.self.inside.reached.ever;
      outboxes = boxes_in g.F.StateForm.values c.self.inside.outboxes c.self.inside.reached.space;
      best = c.self.inside.best;
      expansions = c.self.inside.expansions;
    } in
    let b = subst (λ (x : OwnerOf g.row.S.Denot). IsBatch g.F.StateForm.IsForm g.F.StateForm.values g.S.Spread.owner x c.args.batch.now) (sym c.self.view_is) c.requires.batch in
    let values = g.F.StateForm.values (ranges o.space.task) in
    let ms = c.args.batch.now.own.items in
    let boxes = boxes_in g.F.StateForm.values c.self.inside.outboxes c.expand_least.new.self.space in
    let boxes_same = ap (boxes_in g.F.StateForm.values c.self.inside.outboxes) c.expand_least.ensures.space in
    let nodes : (e : OpenEntry) (n : Node) → IsLeast o.space.ties (h_of o.space) o.nodes o.ever e → At o.nodes e.index n
    → c.expand_least.new.self.nodes ≡ fold improve (slice_set o.nodes e.index (marked n)) (map (message_of values) ms) =
    λ e n least at. c.in_ok-expand_least.ensures.nodes e n least at
    ∙ (ap (λ (l : List (Message g.row.F.Denot)). fold reached (slice_set o.nodes e.index (marked n)) (map (arrival values) l)) c.deref.ensures.value
    ∙ all_reached values (slice_set o.nodes e.index (marked n)) ms) in
    let (e, l) = subst (λ (x : OwnerOf g.row.S.Denot). (y : OpenEntry) × IsLeast x.space.ties (h_of x.space) x.nodes x.ever y) (sym c.self.view_is) c.requires.some in
    expanded_kept g.S.Spread.owner o c.expand_least.new.self.space c.expand_least.new.self.nodes c.expand_least.new.self.ever boxes c.args.batch.now.best c.self.inside.expansions e.index l.node
    (map (message_of values) ms) c.self.invariant c.expand_least.ensures.space boxes_same l.there (nodes e l.node l l.there)
    (all_mapped (message_of values) (IsMessageTo (space_of g.S.Spread.owner o) o.worker) ms b.messages)
    c.self.invariant.counted

pub returns-then-is_some-clause-expanded : goal.returns-then-is_some-clause-expanded
returns-then-is_some-clause-expanded g c =
    let o : OwnerOf g.row.S.Denot = record {
      space = c.self.inside.reached.space;
      worker = c.self.inside.worker;
      nodes = c.self.inside.reached.nodes;
      ever = c.self.inside.reached.ever;
      outboxes = boxes_in g.F.StateForm.values c.self.inside.outboxes c.self.inside.reached.space;
      best = c.self.inside.best;
      expansions = c.self.inside.expansions;
    } in
    let values = g.F.StateForm.values (ranges o.space.task) in
    let ms = c.args.batch.now.own.items in
    let boxes = boxes_in g.F.StateForm.values c.self.inside.outboxes c.expand_least.new.self.space in
    let boxes_same = ap (boxes_in g.F.StateForm.values c.self.inside.outboxes) c.expand_least.ensures.space in
    let nodes : (e : OpenEntry) (n : Node) → IsLeast o.space.ties (h_of o.space) o.nodes o.ever e → At o.nodes e.index n
    → c.expand_least.new.self.nodes ≡ fold improve (slice_set o.nodes e.index (marked n)) (map (message_of values) ms) =
    λ e n least at. c.in_ok-expand_least.ensures.nodes e n least at
    ∙ (ap (λ (l : List (Message g.row.F.Denot)). fold reached (slice_set o.nodes e.index (marked n)) (map (arrival values) l)) c.deref.ensures.value
    ∙ all_reached values (slice_set o.nodes e.index (marked n)) ms) in
    let is : true ≡ is_some o.space.limit = c.if-is_some.ensures ∙ ap is_some (c.limit.ensures
    ∙ ap (λ (s : SpaceOf g.row.S.Denot). s.limit) (c.space.ensures ∙ c.expand_least.ensures.space)) in
    subst (λ (x : OwnerOf g.row.S.Denot). IsExpandedAs x (map (message_of (g.F.StateForm.values (ranges x.space.task))) ms) c.args.batch.now.best
    (with_expanded g.S.Spread.owner o c.expand_least.new.self.space c.expand_least.new.self.nodes c.expand_least.new.self.ever boxes c.args.batch.now.best (c.self.inside.expansions + 1))) c.self.view_is
    (expanded_as g.S.Spread.owner o c.expand_least.new.self.space c.expand_least.new.self.nodes c.expand_least.new.self.ever boxes c.args.batch.now.best (c.self.inside.expansions + 1)
    (map (message_of values) ms) c.expand_least.ensures.space boxes_same nodes c.in_ok-expand_least.ensures.ever
    (add-one o.expansions ∙ ap (λ b. cond b (suc o.expansions) o.expansions) is))

pub returns-else-is_some-clause-expanded : goal.returns-else-is_some-clause-expanded
returns-else-is_some-clause-expanded g c =
    let o : OwnerOf g.row.S.Denot = record {
      space = c.self.inside.reached.space;
      worker = c.self.inside.worker;
      nodes = c.self.inside.reached.nodes;
      ever = c.self.inside.reached.ever;
      outboxes = boxes_in g.F.StateForm.values c.self.inside.outboxes c.self.inside.reached.space;
      best = c.self.inside.best;
      expansions = c.self.inside.expansions;
    } in
    let values = g.F.StateForm.values (ranges o.space.task) in
    let ms = c.args.batch.now.own.items in
    let boxes = boxes_in g.F.StateForm.values c.self.inside.outboxes c.expand_least.new.self.space in
    let boxes_same = ap (boxes_in g.F.StateForm.values c.self.inside.outboxes) c.expand_least.ensures.space in
    let nodes : (e : OpenEntry) (n : Node) → IsLeast o.space.ties (h_of o.space) o.nodes o.ever e → At o.nodes e.index n
    → c.expand_least.new.self.nodes ≡ fold improve (slice_set o.nodes e.index (marked n)) (map (message_of values) ms) =
    λ e n least at. c.in_ok-expand_least.ensures.nodes e n least at
    ∙ (ap (λ (l : List (Message g.row.F.Denot)). fold reached (slice_set o.nodes e.index (marked n)) (map (arrival values) l)) c.deref.ensures.value
    ∙ all_reached values (slice_set o.nodes e.index (marked n)) ms) in
    let is : false ≡ is_some o.space.limit = c.if-is_some.ensures ∙ ap is_some (c.limit.ensures
    ∙ ap (λ (s : SpaceOf g.row.S.Denot). s.limit) (c.space.ensures ∙ c.expand_least.ensures.space)) in
    subst (λ (x : OwnerOf g.row.S.Denot). IsExpandedAs x (map (message_of (g.F.StateForm.values (ranges x.space.task))) ms) c.args.batch.now.best
    (with_expanded g.S.Spread.owner o c.expand_least.new.self.space c.expand_least.new.self.nodes c.expand_least.new.self.ever boxes c.args.batch.now.best c.self.inside.expansions)) c.self.view_is
    (expanded_as g.S.Spread.owner o c.expand_least.new.self.space c.expand_least.new.self.nodes c.expand_least.new.self.ever boxes c.args.batch.now.best c.self.inside.expansions
    (map (message_of values) ms) c.expand_least.ensures.space boxes_same nodes c.in_ok-expand_least.ensures.ever
    (ap (λ b. cond b (suc o.expansions) o.expansions) is))

pub expand_least-requires-clause-small : goal.expand_least-requires-clause-small
expand_least-requires-clause-small g c =
    let b = subst (λ (x : OwnerOf g.row.S.Denot). IsBatch g.F.StateForm.IsForm g.F.StateForm.values g.S.Spread.owner x c.args.batch.now) (sym c.self.view_is) c.requires.batch in
    subst (λ (l : List (Message g.row.F.Denot)). All (λ m. (m.rank.cost ≤ max_total) × (m.rank.steps ≤ max_total)) l) (sym c.deref.ensures.value)
    (λ k d lt. let m = b.messages k d lt in (m.cost, m.steps))
