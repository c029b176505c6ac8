use Rattle.std.proofs.Common.{◌-◌, ◌∙◌, length, sym, ap, inl, inr, arith}
use Rattle.slots.specs.Slots.{home_of, probed}
use Rattle.slots.proofs.Probes.{link_there}
use Rattle.checker_states.proofs.Indexing.{lists_there, misses, search_end, search_found}
use Rattle.checker_states.proofs.index.is_found.Goals as goal

pub returns-then-slot-eq0 : goal.returns-then-slot-eq0
returns-then-slot-eq0 c =
    let slots = c.args.slots.now in
    let home = c.home_of-home.result in
    let home_is = c.home_of-home.ensures.value ∙ ap (λ n. home_of n (length slots)) c.number_of.ensures in
    sym (search_end c.args.closed.now c.args.state.now c.args.cost c.args.parts c.args.hash home c.args.multipliers.now slots c.requires.part c.requires.hash home_is c.loop-steps.steps c.loop-steps.invariant
    (inl (link_there slots home c.loop-steps.steps c.slot_after-slot.result c.slot_after-slot.ensures ∙ c.if-slot-eq0.true)))

pub returns-then-lists_at : goal.returns-then-lists_at
returns-then-lists_at c =
    let slot = c.slot_after-slot.result in
    let noted = c.requires.part.holds.noted (probed (length c.args.slots.now) c.home_of-home.result c.loop-steps.steps) slot c.slot_after-slot.ensures c.if-slot-eq0.false in
    sym (search_found c.args.closed.now c.args.state.now c.args.cost (slot.link - 1) (omega (arith, noted.1, c.if-slot-eq0.false)) (sym c.lists_at.ensures ∙ c.if-lists_at.true))

pub loop-steps-preserved : goal.loop-steps-preserved
loop-steps-preserved c =
    let slots = c.args.slots.now in
    let home = c.home_of-home.result in
    let slot = c.slot_after-slot.result in
    let link = link_there slots home c.loop-steps.steps slot c.slot_after-slot.ensures in
    misses c.args.closed.now slots home c.args.state.now c.args.cost c.loop-steps.steps c.loop-steps.invariant
    (record {
      taken = λ z. c.if-slot-eq0.false (sym link ∙ z);
      other = ap (λ l. lists_there c.args.closed.now c.args.state.now c.args.cost (l - 1)) link ∙ sym c.lists_at.ensures ∙ c.if-lists_at.false;
    })

pub returns : goal.returns
returns c =
    let slots = c.args.slots.now in
    let home_is = c.home_of-home.ensures.value ∙ ap (λ n. home_of n (length slots)) c.number_of.ensures in
    sym (search_end c.args.closed.now c.args.state.now c.args.cost c.args.parts c.args.hash c.home_of-home.result c.args.multipliers.now slots c.requires.part c.requires.hash home_is c.loop-steps.steps
    c.loop-steps.invariant (inr (omega (arith, c.loop-steps-test.false))))
