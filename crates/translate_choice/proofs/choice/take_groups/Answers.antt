use Rattle.std.proofs.Common.{◌≡◌, ◌∙◌, ℕ, Bool, List, true, ap, subst, arith, length}
use Rattle.index_rows.specs.Numbers.{has, IsTranspose}
use Rattle.translate_theory.specs.Variables.{PlacedVariable}
use Rattle.translate_choice.specs.Choices.{IsNext}
use Rattle.translate_choice.specs.Greedy.{left_of, NoneFits, IsFound, IsQueuedIfFit, HasEach}
use Rattle.translate_choice.proofs.ChoiceLaws.{one_more, flags_after}
use Rattle.translate_choice.proofs.GreedyLaws.{queued_again, one_taken, one_turn, none_by, none_after}
use Rattle.translate_choice.proofs.choice.take_groups.Goals as goal

pub loop-turn-preserved : goal.loop-turn-preserved
loop-turn-preserved c =
    let index = c.args.offers.now.index.now in
    let groups = c.args.offers.now.groups.now in
    let old = c.loop-turn.choice in
    let new = c.add.new.self in
    let v = c.in-Some.variable in
    let flags_now = c.deref-in-loop-turn.ensures.value in
    let fit : IsNext index c.deref-in-loop-turn.result.now v = rw c.in-Some.is at c.in_ok-variable.ensures.fit in
    let next : IsNext index old.taken.items v = rw flags_now at fit in
    let was_found : IsFound index groups c.deref-in-loop-turn.result.now c.next_variable.new.queue v = rw c.in-Some.is at c.in_ok-variable.ensures.found in
    let found : IsFound index groups old.taken.items c.next_variable.new.queue v = rw flags_now at was_found in
    let adds = c.in_ok-add-in-Some.ensures in
    let size = c.loop-turn.invariant.choice.size in
    let flags = flags_after (length index.atoms) old new v size next.placed.within adds in
    let was = c.requires.choice.size in
    let counted = c.len.ensures in
    let count : c.len.result ≡ length index.atoms = cc (counted, was) in
    let across : IsTranspose (length index.atoms) groups c.in_ok-groups_at.groups_at =
    subst (λ (n : ℕ). IsTranspose n groups c.in_ok-groups_at.groups_at) count
    (subst (λ (gs : List (List ℕ)). IsTranspose c.len.result gs c.in_ok-groups_at.groups_at) c.groups.ensures c.in_ok-groups_at.ensures) in
    let each : HasEach c.in_ok-groups_at.groups_at v.places c.in_ok-groups-in-Some.groups.items =
    subst (λ (ps : List ℕ). HasEach c.in_ok-groups_at.groups_at ps c.in_ok-groups-in-Some.groups.items)
    (c.deref-in-Some.ensures.value ∙ ap (λ (u : PlacedVariable). u.places) c.variable.view_is) c.in_ok-groups-in-Some.ensures in
    let again : (g : ℕ) → has c.in_ok-groups-in-Some.groups.items g ≡ true → IsQueuedIfFit index groups new.taken.items c.queue_each.new.queue g =
    (λ g h. subst (λ (flags : List Bool). IsQueuedIfFit index groups flags c.queue_each.new.queue g) c.deref-in-Some-3.ensures.value
    (c.in_ok-queue_each-in-Some.ensures.queued g (ap (λ (gs : List ℕ). has gs g) c.deref-in-Some-2.ensures.value ∙ h))) in
    record {
      choice = one_more index old new v c.loop-turn.invariant.choice next adds;
      in_turn = one_taken index groups old new c.next_variable.new.queue v c.loop-turn.invariant.choice c.loop-turn.invariant.in_turn found adds;
      queued = queued_again index groups c.in_ok-groups_at.groups_at (length index.atoms) across old.taken.items new.taken.items c.next_variable.new.queue c.queue_each.new.queue
          v c.in_ok-groups-in-Some.groups.items flags next.placed.within found each c.in_ok-queue_each-in-Some.ensures.keeps again;
      turns = one_turn (length index.atoms) old new v c.loop-turn._turn size next.placed.some next.placed.within next.free adds c.loop-turn.invariant.turns;
    }

pub returns-in-None-clause-none_left : goal.returns-in-None-clause-none_left
returns-in-None-clause-none_left c =
    let index = c.args.offers.now.index.now in
    let groups = c.args.offers.now.groups.now in
    let none : NoneFits index groups (left_of c.deref-in-loop-turn.result.now) = rw c.in-None.is at c.in_ok-variable.ensures.none in
    none_by index groups c.loop-turn.choice c.loop-turn.invariant.choice (rw c.deref-in-loop-turn.ensures.value at none)

pub returns-clause-none_left : goal.returns-clause-none_left
returns-clause-none_left c =
    let index = c.args.offers.now.index.now in
    let groups = c.args.offers.now.groups.now in
    let now = c.loop-turn.choice in
    let size = c.loop-turn.invariant.choice.size in
    let turns = c.loop-turn.invariant.turns in
    let was = c.requires.choice.size in
    let end = c.len-turn-end.ensures in
    let done = c.loop-turn-test.false in
    none_by index groups now c.loop-turn.invariant.choice
    (none_after index groups now.taken.items c.args.offers.now.proposed size (omega (arith, size, turns, was, end, done)))
