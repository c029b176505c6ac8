use Rattle.std.proofs.Common.{ap, subst, ◌∙◌}
use Rattle.openlist.specs.Groups.{HasKeyAt}
use Rattle.openlist.proofs.GroupLists.{AreGroups-set, entries-pushed, entries-same, filled_after_push, filled_at, grouped-push, grouped-same}
use Rattle.openlist.proofs.groups.Groups.push.Goals as goal

pub invariant_of-self : goal.invariant_of-self
invariant_of-self c =
    let found : HasKeyAt c.key-key.result c.self.inside.groups.items c.in-Ok.place =
    subst (λ v. HasKeyAt c.key-key.result v c.in-Ok.place) c.deref.ensures.value c.in-Ok.ensures.found in (
      AreGroups-set c.self.inside.groups.items c.in-Ok.place c.index_mut.result.now c.push.new.self found.0
          c.index_mut.ensures.value c.push.ensures.key
          (filled_after_push c.push.result c.lower_half-lower.result _ _
          (filled_at c.self.inside.groups.items c.in-Ok.place c.index_mut.result.now found.0
          c.index_mut.ensures.value c.self.invariant.0)
          c.push.ensures.pushed c.push.ensures.unchanged)
          c.self.invariant.0,
      c.self.invariant.1,
      c.self.invariant.2,
    )

pub returns-in-Ok-clause-pushed : goal.returns-in-Ok-clause-pushed
returns-in-Ok-clause-pushed c = λ yes.
    let found : HasKeyAt c.key-key.result c.self.inside.groups.items c.in-Ok.place =
    subst (λ v. HasKeyAt c.key-key.result v c.in-Ok.place) c.deref.ensures.value c.in-Ok.ensures.found in
    rw (← c.self.view_is)
    (grouped-push c.args.entry.now c.self.inside.groups.items c.in-Ok.place c.index_mut.result.now c.push.new.self
    found.0 c.index_mut.ensures.value
    (entries-pushed c.args.entry.now c.lower_half-lower.result c.index_mut.result.now c.push.new.self
    (ap (λ g. g.key) c.index_mut.ensures.value ∙ found.1 c.index_mut.result.now ∙ c.key-key.ensures)
    c.lower_half-lower.ensures c.push.ensures.key (c.push.ensures.pushed yes)))

pub returns-in-Ok-clause-unchanged : goal.returns-in-Ok-clause-unchanged
returns-in-Ok-clause-unchanged c = λ no.
    rw (← c.self.view_is)
    (grouped-same c.self.inside.groups.items c.in-Ok.place c.index_mut.result.now c.push.new.self c.index_mut.ensures.value
    (entries-same c.index_mut.result.now c.push.new.self c.push.ensures.key (c.push.ensures.unchanged no)))
