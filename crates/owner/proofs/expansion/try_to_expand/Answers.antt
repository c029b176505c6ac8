use Rattle.std.proofs.Common.{◌≡◌, ◌+◌, ℕ, suc, Bool, true, List, length, map, All, None, sym, ap, ◌∙◌, subst, arith, cond}
use Rattle.std.specs.Prelude.{filter_map, fold, is_some, slice_set}
use Rattle.fdr.specs.Tasks.{ranges}
use Rattle.owner_theory.specs.Owners.{At, Node, improve, marked, mark_node, treat_all, successor_by}
use Rattle.owner_theory.specs.Worlds.{waiting}
use Rattle.owner_theory.proofs.Lists.{get_at}
use Rattle.closed.specs.declared.message.Message.{Message}
use Rattle.closed.specs.declared.rows.Hint.{Hint}
use Rattle.closed.specs.Rows.{tag_of}
use Rattle.closed.specs.Tables.{padded, fresh, message_of}
use Rattle.owner.specs.declared.successors.Successor.{Successor}
use Rattle.owner.specs.Owned.{OwnerOf, space_of, under}
use Rattle.owner_reached.specs.Queues.{IsLeast, h_of}
use Rattle.owner_space.specs.Steps.{IsSmallStep}
use Rattle.owner.specs.Successors.{AreKnown, AreOwnHints}
use Rattle.owner.proofs.Passing.{all_by_operator}
use Rattle.owner.proofs.Batching.{known_marked, taken_pending, empty_pending}
use Rattle.owner.proofs.expansion.try_to_expand.Goals as goal
use Rattle.owner.proofs.expansion.try_to_expand.Goals.{In_ok-expand_next}

pub make_successors-requires-clause-node : goal.make_successors-requires-clause-node
make_successors-requires-clause-node g c =
    let l = c.requires.least in (
      l.node,
      get_at c.args.holdings.now.nodes c.args.next.index l.node l.there,
      c.state.ensures ∙ c.requires.of_next l.node l.there,
    )

pub look_up-requires-clause-small : goal.look_up-requires-clause-small
look_up-requires-clause-small g c =
    let P = λ (o : ℕ). IsSmallStep c.args.holdings.now.space.task c.args.next.rank o in
    subst (λ (l : List (Successor g.row.F.Denot)). All (λ s. P s.operator) l) (sym c.deref.ensures.value)
    (all_by_operator P c.make_successors.new.successors.items c.args.operators.now c.in_ok-make_successors.ensures.operators c.requires.small)

pub place_unknown-requires-clause-small : goal.place_unknown-requires-clause-small
place_unknown-requires-clause-small g c =
    let P = λ (o : ℕ). IsSmallStep c.args.holdings.now.space.task c.args.next.rank o in
    subst (λ (l : List (Successor g.row.F.Denot)). All (λ s. P s.operator) l) (sym c.deref-2.ensures.value)
    (all_by_operator P c.make_successors.new.successors.items c.args.operators.now c.in_ok-make_successors.ensures.operators c.requires.small)

pub place_unknown-requires-clause-own_hints : goal.place_unknown-requires-clause-own_hints
place_unknown-requires-clause-own_hints g c =
    let writes = g.F.Hash.hash_input in
    let me = c.args.holdings.now.worker in
    subst (λ (l : List Hint). AreOwnHints writes me c.deref-2.result.now l) (sym c.deref-3.ensures.value)
    (subst (λ (l : List (Successor g.row.F.Denot)). AreOwnHints writes me l c.look_up.new.hints.items)
    (c.deref.ensures.value ∙ sym c.deref-2.ensures.value) c.in_ok-look_up.ensures.hints)

pub place_unknown-requires-clause-as_many_hints : goal.place_unknown-requires-clause-as_many_hints
place_unknown-requires-clause-as_many_hints g c =
    ap length c.deref-3.ensures.value ∙ c.in_ok-look_up.ensures.as_many_hints
    ∙ ap length (c.deref.ensures.value ∙ sym c.deref-2.ensures.value)

pub place_unknown-requires-clause-hints : goal.place_unknown-requires-clause-hints
place_unknown-requires-clause-hints g c =
    ap (map (λ h. h.tag)) c.clear.ensures.hints
    ∙ ap (λ (l : List (Message g.row.F.Denot)). map (λ m. tag_of (g.F.Hash.hash_input m.state)) l) (sym c.clear.ensures.own)

pub expand_next-requires-clause-some : goal.expand_next-requires-clause-some
expand_next-requires-clause-some g c = (
  c.args.next,
  subst (λ (o : OwnerOf g.row.S.Denot). IsLeast o.space.ties (h_of o.space) o.nodes o.ever c.args.next) (sym c.place_unknown.ensures.posted.others)
      c.requires.least,
)

-- the owner after its next node, which this is, is expanded
module _ (g : _) (c : In_ok-expand_next g) where
  new_is : (n : Node) → At c.args.holdings.now.nodes c.args.next.index n → c.expand_next.new.self ≡ record c.place_unknown.new.holdings {
    nodes = fold improve (slice_set c.place_unknown.new.holdings.nodes c.args.next.index (marked n))
        (map (message_of (g.F.StateForm.values (ranges c.place_unknown.new.holdings.space.task))) c.place_unknown.new.batch.own.items);
    ever = padded (slice_set c.place_unknown.new.holdings.ever c.args.next.index true) (length c.expand_next.new.self.nodes);
    best = c.place_unknown.new.batch.best;
    expansions = cond (is_some c.place_unknown.new.holdings.space.limit) (suc c.place_unknown.new.holdings.expansions) c.place_unknown.new.holdings.expansions;
  }
  new_is n at =
      c.in_ok-expand_next.ensures.expanded c.args.next n
      (subst (λ (o : OwnerOf g.row.S.Denot). IsLeast o.space.ties (h_of o.space) o.nodes o.ever c.args.next) (sym c.place_unknown.ensures.posted.others) c.requires.least)
      (subst (λ (o : OwnerOf g.row.S.Denot). At o.nodes c.args.next.index n) (sym c.place_unknown.ensures.posted.others) at)

  is : c.expand_next.new.self ≡ record c.place_unknown.new.holdings {
    nodes = fold improve (slice_set c.place_unknown.new.holdings.nodes c.args.next.index (marked c.requires.least.node))
        (map (message_of (g.F.StateForm.values (ranges c.place_unknown.new.holdings.space.task))) c.place_unknown.new.batch.own.items);
    ever = padded (slice_set c.place_unknown.new.holdings.ever c.args.next.index true) (length c.expand_next.new.self.nodes);
    best = c.place_unknown.new.batch.best;
    expansions = cond (is_some c.place_unknown.new.holdings.space.limit) (suc c.place_unknown.new.holdings.expansions) c.place_unknown.new.holdings.expansions;
  }
  is = new_is c.requires.least.node c.requires.least.there

pub returns-clause-owners : goal.returns-clause-owners
returns-clause-owners g c = ap (λ (o : OwnerOf g.row.S.Denot). length o.outboxes) (is g c) ∙ c.place_unknown.ensures.posted.owners

pub returns-clause-space : goal.returns-clause-space
returns-clause-space g c =
    ap (λ (o : OwnerOf g.row.S.Denot). o.space) (is g c) ∙ ap (λ (o : OwnerOf g.row.S.Denot). o.space) c.place_unknown.ensures.posted.others

pub returns-clause-worker : goal.returns-clause-worker
returns-clause-worker g c =
    ap (λ (o : OwnerOf g.row.S.Denot). o.worker) (is g c) ∙ ap (λ (o : OwnerOf g.row.S.Denot). o.worker) c.place_unknown.ensures.posted.others

pub returns-clause-counted : goal.returns-clause-counted
returns-clause-counted g c =
    ap (λ (o : OwnerOf g.row.S.Denot). o.expansions) (is g c)
    ∙ ap (λ (o : OwnerOf g.row.S.Denot). cond (is_some o.space.limit) (suc o.expansions) o.expansions) c.place_unknown.ensures.posted.others

pub returns-clause-ever : goal.returns-clause-ever
returns-clause-ever g c =
    ap (λ (o : OwnerOf g.row.S.Denot). o.ever) (is g c)
    ∙ ap (λ (o : OwnerOf g.row.S.Denot). padded (slice_set o.ever c.args.next.index true) (length c.expand_next.new.self.nodes))
    c.place_unknown.ensures.posted.others

pub returns-clause-put_out : goal.returns-clause-put_out
returns-clause-put_out g c =
    let same = ap (λ (o : OwnerOf g.row.S.Denot). waiting o.outboxes) (is g c) in
    let none = ap length c.clear.ensures.receivers in
    let kept : length c.expand_next.new.batch.receivers.items ≡ length c.place_unknown.new.batch.receivers.items =
    λ j. length ((c.in_ok-expand_next.ensures.receivers j).items) in
    same ∙ (omega (arith, c.place_unknown.ensures.posted.put_out, none) ∙ ap (λ k. waiting c.args.holdings.now.outboxes + k) (sym kept))

pub returns-clause-treated : goal.returns-clause-treated
returns-clause-treated g c = λ n at.
    let h0 = c.args.holdings.now in
    let values = g.F.StateForm.values in
    let i = c.args.next.index in
    let bound = c.args.bound in
    let space = space_of g.S.Spread.owner h0 in
    let me = h0.worker in
    let x = fresh c.args.places.now.state c.args.next.rank None in
    let by = successor_by h0.space.task me i x in
    let nodes = slice_set h0.nodes i (marked n) in
    let ss = c.deref-2.result.now in
    let os : List ℕ = map (λ (s : Successor g.row.F.Denot). s.operator) ss in
    let found = subst (λ (l : List Bool). AreKnown space me i x h0.nodes os l) (sym c.deref-4.ensures.value)
    (subst (λ (l : List (Successor g.row.F.Denot)). AreKnown space me i x h0.nodes (map (λ s. s.operator) l) c.look_up.new.known.items)
    (c.deref.ensures.value ∙ sym c.deref-2.ensures.value)
    (subst (λ (s : List ℕ). AreKnown space me i (fresh s c.args.next.rank None) h0.nodes (map (λ y. y.operator) c.deref.result.now) c.look_up.new.known.items)
    c.state-2.ensures c.in_ok-look_up.ensures.known)) in
    let known = subst (λ (l : List (Message g.row.F.Denot)).
    AreKnown space me i x (fold improve nodes (map (message_of (values (ranges h0.space.task))) l)) os c.deref-4.result.now) (sym c.clear.ensures.own)
    (known_marked space me i x n h0.nodes i os c.deref-4.result.now at found) in
    taken_pending values h0 c.place_unknown.new.holdings c.expand_next.new.self c.place_unknown.new.batch _ _ c.place_unknown.ensures.posted bound i n _ _ (new_is g c n at)
    ∙ (c.in_ok-place_unknown.ensures.treated nodes known
    ∙ (ap (λ o. treat_all space me o (filter_map by os))
    (empty_pending values h0 c.clear.new.self bound i n c.clear.ensures.own (c.clear.ensures.best ∙ ap (λ h. h.best) c.holdings.view_is))
    ∙ ap (λ (l : List ℕ). treat_all space me (mark_node (under h0 bound) i n) (filter_map by l))
    (ap (λ (l : List (Successor g.row.F.Denot)). map (λ s. s.operator) l) c.deref-2.ensures.value ∙ c.in_ok-make_successors.ensures.operators)))
