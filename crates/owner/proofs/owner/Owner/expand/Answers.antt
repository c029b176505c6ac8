use Rattle.std.proofs.Common.{◌≡◌, ℕ, List, true, false, Some, All, sym, ap, ◌∙◌, subst, refl, true≢false}
use Rattle.std.specs.Prelude.{not, filter}
use Rattle.std.specs.List.{list_any}
use Rattle.std.proofs.lemmas.List.Elements.{All-filter}
use Rattle.fdr.specs.Tasks.{FiniteDomainTask, ranges, IsState, applies_at}
use Rattle.fdr_successors.specs.Applicable.{applicable_operators}
use Rattle.owner_theory.specs.Worlds.{no_open}
use Rattle.owner_theory.proofs.Lists.{get_at}
use Rattle.owner.specs.declared.fault.OwnerFault.TheVariants.{OutOfMemory, TotalTooLarge}
use Rattle.owner_space.specs.Spaces.{SpaceOf}
use Rattle.owner.specs.Owned.{OwnerOf, space_of, under, IsRefusal, Expands}
use Rattle.scp.specs.Places.{PlacesOf}
use Rattle.owner_space.specs.Steps.{IsSmallStep}
use Rattle.owner_space.specs.Late.{is_late, all_are_late}
use Rattle.owner.specs.Held.{places_in}
use Rattle.owner.proofs.Choosing.{is_next, no_open_some}
use Rattle.owner.proofs.Expanding.{is_large, expands_alone, least_index, least_cost, least_steps, least_state, all_apply, all_small, large_successor, expands, refused_memory}
use Rattle.owner.proofs.owner.Owner.expand.Goals as goal

pub returns-in_default-clause-expanded : goal.returns-in_default-clause-expanded
returns-in_default-clause-expanded g c = (
  subst (λ (x : OwnerOf g.row.S.Denot). no_open (space_of g.S.Spread.owner x) (under x c.args.bound) ≡ true) c.self.view_is
      (c.next.ensures.none c.in_default.is),
  refl,
)

pub returns-then-is_at_limit-clause-refused : goal.returns-then-is_at_limit-clause-refused
returns-then-is_at_limit-clause-refused g c =
    let h = c.self.inside.holdings in (
      subst (λ (x : OwnerOf g.row.S.Denot). no_open (space_of g.S.Spread.owner x) (under x c.args.bound) ≡ false) c.self.view_is
          (no_open_some (space_of g.S.Spread.owner h) h.ever (under h c.args.bound) c.in-Some.next c.in-Some.ensures.some.0 c.in-Some.ensures.some.1),
      subst (λ (x : OwnerOf g.row.S.Denot). x.space.limit ≡ Some x.expansions) c.self.view_is (c.if-is_at_limit.ensures.0 refl),
      refl,
    )

pub read_state-requires-clause-index : goal.read_state-requires-clause-index
read_state-requires-clause-index g c =
    least_index g.S.Spread.owner c.self.inside.holdings c.in-Some.next c.in-Some.ensures.some.0

pub has_large_successor-requires-clause-cost : goal.has_large_successor-requires-clause-cost
has_large_successor-requires-clause-cost g c =
    least_cost g.S.Spread.owner c.self.inside.holdings c.in-Some.next c.in-Some.ensures.some.0 c.recall.ensures.owner

pub has_large_successor-requires-clause-steps : goal.has_large_successor-requires-clause-steps
has_large_successor-requires-clause-steps g c =
    least_steps g.S.Spread.owner c.self.inside.holdings c.in-Some.next c.in-Some.ensures.some.0 c.recall.ensures.owner

pub returns-then-has_large_successor-clause-refused : goal.returns-then-has_large_successor-clause-refused
returns-then-has_large_successor-clause-refused g c =
    let h = c.self.inside.holdings in
    let e = c.in-Some.next in
    let l = c.in-Some.ensures.some.0 in
    let s = c.deref.ensures.value ∙ c.read_state.ensures.state l.node (get_at h.nodes e.index l.node l.there) in
    let task = c.task.ensures ∙ ap (λ (x : SpaceOf g.row.S.Denot). x.task) c.space-space.ensures in
    let found = c.deref-2.ensures.value ∙ (c.in_ok-applicable.ensures.found
    ∙ ap (λ (x : SpaceOf g.row.S.Denot). applicable_operators x.task c.deref.result.now) c.space-space.ensures) in
    let large = sym (c.if-has_large_successor.ensures
    ∙ ap (λ (t : FiniteDomainTask). list_any (is_large t e.rank) c.deref-2.result.now) task) in
    subst (λ (x : OwnerOf g.row.S.Denot). IsRefusal g.S.Spread.owner c.args.bound x h TotalTooLarge) c.self.view_is (
      e.index,
      l.node,
      is_next (space_of g.S.Spread.owner h) h.ever h.nodes c.args.bound e l c.in-Some.ensures.some.1,
      (λ p. true≢false (sym (c.if-is_at_limit.ensures.1 p))),
      large_successor h.space.task c.deref.result.now c.deref-2.result.now e.rank l.node found s l.cost l.steps large,
      refl,
    )

pub enter-requires : goal.enter-requires
enter-requires g c =
    let h = c.self.inside.holdings in
    let e = c.in-Some.next in
    let l = c.in-Some.ensures.some.0 in
    let s = c.deref-3.ensures.value ∙ c.read_state.ensures.state l.node (get_at h.nodes e.index l.node l.there) in
    subst (λ (p : PlacesOf). IsState (ranges p.task) c.deref-3.result.now) (sym c.self.invariant.1)
    (least_state g.S.Spread.owner h e l c.deref-3.result.now c.recall.ensures.owner s)

pub expand_node-requires-clause-allowed : goal.expand_node-requires-clause-allowed
expand_node-requires-clause-allowed g c = λ p. true≢false (sym (c.if-is_at_limit.ensures.1 p))

pub expand_node-requires-clause-least : goal.expand_node-requires-clause-least
expand_node-requires-clause-least g c = c.in-Some.ensures.some.0

pub expand_node-requires-clause-state : goal.expand_node-requires-clause-state
expand_node-requires-clause-state g c =
    let h = c.self.inside.holdings in
    let e = c.in-Some.next in
    let l = c.in-Some.ensures.some.0 in
    let s = c.deref-3.ensures.value ∙ c.read_state.ensures.state l.node (get_at h.nodes e.index l.node l.there) in
    subst (λ (p : PlacesOf). IsState (ranges h.space.task) p.state) (sym c.enter.ensures)
    (least_state g.S.Spread.owner h e l c.deref-3.result.now c.recall.ensures.owner s)

pub expand_node-requires-clause-of_next : goal.expand_node-requires-clause-of_next
expand_node-requires-clause-of_next g c = λ n at.
    let h = c.self.inside.holdings in
    ap (λ (p : PlacesOf). p.state) c.enter.ensures
    ∙ (c.deref-3.ensures.value ∙ c.read_state.ensures.state n (get_at h.nodes c.in-Some.next.index n at))

pub expand_node-requires-clause-places : goal.expand_node-requires-clause-places
expand_node-requires-clause-places g c =
    c.enter.ensures ∙ (ap (λ (p : PlacesOf). record p { state = c.deref-3.result.now }) c.self.invariant.1
    ∙ (λ j. places_in c.self.inside.holdings.space (((sym c.enter.ensures) j).state)))

pub expand_node-requires-clause-apply : goal.expand_node-requires-clause-apply
expand_node-requires-clause-apply g c =
    let h = c.self.inside.holdings in
    let found = c.in_ok-applicable.ensures.found
    ∙ (λ j. applicable_operators ((c.space-space.ensures j).task) ((c.deref.ensures.value ∙ sym c.deref-3.ensures.value) j)) in
    let kept = c.deref-4.ensures.value ∙ c.drop_late.ensures in
    subst (λ (p : PlacesOf). All (λ o. applies_at h.space.task o p.state ≡ true) c.deref-4.result.now) (sym c.enter.ensures)
    (subst (λ (os : List ℕ). All (λ o. applies_at h.space.task o c.deref-3.result.now ≡ true) os) (sym kept)
    (All-filter (λ o. not (is_late c.task-2.result.now c.args.bound c.in-Some.next.rank o))
    (λ o. applies_at h.space.task o c.deref-3.result.now ≡ true) c.applicable.new.found.items
    (all_apply h.space.task c.deref-3.result.now c.applicable.new.found.items found)))

pub drop_late-requires : goal.drop_late-requires
drop_late-requires g c =
    least_cost g.S.Spread.owner c.self.inside.holdings c.in-Some.next c.in-Some.ensures.some.0 c.recall.ensures.owner

pub expand_node-requires-clause-small : goal.expand_node-requires-clause-small
expand_node-requires-clause-small g c =
    let h = c.self.inside.holdings in
    let e = c.in-Some.next in
    let task = c.task.ensures ∙ ap (λ (x : SpaceOf g.row.S.Denot). x.task) c.space-space.ensures in
    let none = sym (c.if-has_large_successor.ensures
    ∙ (λ j. list_any (is_large (task j) e.rank) (c.deref-2.ensures.value j))) in
    let kept = c.deref-4.ensures.value ∙ c.drop_late.ensures in
    subst (λ (os : List ℕ). All (IsSmallStep h.space.task e.rank) os) (sym kept)
    (All-filter (λ o. not (is_late c.task-2.result.now c.args.bound e.rank o)) (IsSmallStep h.space.task e.rank) c.applicable.new.found.items
    (all_small h.space.task e.rank c.applicable.new.found.items none))

pub returns-clause-expanded : goal.returns-clause-expanded
returns-clause-expanded g c =
    let h = c.self.inside.holdings in
    let e = c.in-Some.next in
    let l = c.in-Some.ensures.some.0 in
    let entered = ap (λ (p : PlacesOf). p.state) c.enter.ensures in
    let s = entered ∙ (c.deref-3.ensures.value ∙ c.read_state.ensures.state l.node (get_at h.nodes e.index l.node l.there)) in
    let task = c.task.ensures ∙ ap (λ (x : SpaceOf g.row.S.Denot). x.task) c.space-space.ensures in
    let found = c.in_ok-applicable.ensures.found
    ∙ (λ j. applicable_operators ((c.space-space.ensures j).task) ((c.deref.ensures.value ∙ sym (entered ∙ c.deref-3.ensures.value)) j)) in
    let none = sym (c.if-has_large_successor.ensures
    ∙ (λ j. list_any (is_large (task j) e.rank) (c.deref-2.ensures.value j))) in
    let task_again = c.task-2.ensures ∙ ap (λ (x : SpaceOf g.row.S.Denot). x.task) c.space-space.ensures in
    let kept = c.deref-4.ensures.value ∙ (c.drop_late.ensures
    ∙ (λ j. filter (λ o. not (is_late (task_again j) c.args.bound e.rank o)) c.applicable.new.found.items)) in
    subst (λ (x : OwnerOf g.row.S.Denot). Expands g.S.Spread.owner c.args.bound x c.in_ok-posted.posted c.expand_node.new.holdings) c.self.view_is
    (expands g.S.Spread.owner h e l c.args.bound c.enter.new.self.state c.applicable.new.found.items c.deref-4.result.now c.in_ok-posted.posted
    c.expand_node.new.holdings c.in-Some.ensures.some.1 (λ p. true≢false (sym (c.if-is_at_limit.ensures.1 p))) s found none kept
    (c.in_ok-posted.ensures.treated l.node l.there) c.in_ok-posted.ensures.ever c.in_ok-posted.ensures.posted
    c.expand_node.ensures.space c.expand_node.ensures.worker c.in_ok-posted.ensures.counted)

pub returns-in_err-applicable-clause-refused : goal.returns-in_err-applicable-clause-refused
returns-in_err-applicable-clause-refused g c =
    let h = c.self.inside.holdings in
    refused_memory g.S.Spread.owner c.args.bound c.args.self.now h c.from_residual-in_err-applicable.result c.from_residual-in_err-applicable.ensures.1
    (subst (λ (x : OwnerOf g.row.S.Denot). IsRefusal g.S.Spread.owner c.args.bound x h OutOfMemory) c.self.view_is (
      no_open_some (space_of g.S.Spread.owner h) h.ever (under h c.args.bound) c.in-Some.next c.in-Some.ensures.some.0 c.in-Some.ensures.some.1,
      (λ p. true≢false (sym (c.if-is_at_limit.ensures.1 p))),
      refl,
    ))

pub returns-in_err-posted-clause-refused : goal.returns-in_err-posted-clause-refused
returns-in_err-posted-clause-refused g c =
    let h = c.self.inside.holdings in
    refused_memory g.S.Spread.owner c.args.bound c.args.self.now c.expand_node.new.holdings c.from_residual-in_err-posted.result
    c.from_residual-in_err-posted.ensures.1
    (subst (λ (x : OwnerOf g.row.S.Denot). IsRefusal g.S.Spread.owner c.args.bound x c.expand_node.new.holdings OutOfMemory) c.self.view_is (
      no_open_some (space_of g.S.Spread.owner h) h.ever (under h c.args.bound) c.in-Some.next c.in-Some.ensures.some.0 c.in-Some.ensures.some.1,
      (λ p. true≢false (sym (c.if-is_at_limit.ensures.1 p))),
      c.in_err-posted.ensures.unchanged,
    ))

pub all_are_late-requires-clause-cost : goal.all_are_late-requires-clause-cost
all_are_late-requires-clause-cost g c =
    least_cost g.S.Spread.owner c.self.inside.holdings c.in-Some.next c.in-Some.ensures.some.0 c.recall.ensures.owner

pub all_are_late-requires-clause-steps : goal.all_are_late-requires-clause-steps
all_are_late-requires-clause-steps g c =
    least_steps g.S.Spread.owner c.self.inside.holdings c.in-Some.next c.in-Some.ensures.some.0 c.recall.ensures.owner

pub expand_alone-requires-clause-allowed : goal.expand_alone-requires-clause-allowed
expand_alone-requires-clause-allowed g c = λ p. true≢false (sym (c.if-is_at_limit.ensures.1 p))

pub returns-then-all_are_late-clause-expanded : goal.returns-then-all_are_late-clause-expanded
returns-then-all_are_late-clause-expanded g c =
    let h = c.self.inside.holdings in
    let e = c.in-Some.next in
    let l = c.in-Some.ensures.some.0 in
    let late = sym (c.if-all_are_late.ensures
    ∙ ap (λ (x : SpaceOf g.row.S.Denot). all_are_late x.task c.args.bound e.rank) c.space-space.ensures) in
    subst (λ (x : OwnerOf g.row.S.Denot). Expands g.S.Spread.owner c.args.bound x 0 c.expand_alone.new.holdings) c.self.view_is
    (expands_alone g.S.Spread.owner h e l c.args.bound c.expand_alone.new.holdings c.in-Some.ensures.some.1
    (λ p. true≢false (sym (c.if-is_at_limit.ensures.1 p))) late (c.in_ok-expand_alone.ensures.expanded e l.node l l.there))

pub returns-in_err-expand_alone-clause-refused : goal.returns-in_err-expand_alone-clause-refused
returns-in_err-expand_alone-clause-refused g c =
    let h = c.self.inside.holdings in
    refused_memory g.S.Spread.owner c.args.bound c.args.self.now c.expand_alone.new.holdings c.from_residual.result c.from_residual.ensures.1
    (subst (λ (x : OwnerOf g.row.S.Denot). IsRefusal g.S.Spread.owner c.args.bound x c.expand_alone.new.holdings OutOfMemory) c.self.view_is (
      no_open_some (space_of g.S.Spread.owner h) h.ever (under h c.args.bound) c.in-Some.next c.in-Some.ensures.some.0 c.in-Some.ensures.some.1,
      (λ p. true≢false (sym (c.if-is_at_limit.ensures.1 p))),
      c.in_err-expand_alone.ensures.unchanged,
    ))
