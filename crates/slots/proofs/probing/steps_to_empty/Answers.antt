use Rattle.std.proofs.Common.{arith}
use Rattle.std.proofs.lemmas.List.{length-map}
use Rattle.slots.specs.declared.probing.Slot.{Slot}
use Rattle.slots.specs.Slots.{links_of}
use Rattle.slots.proofs.Probes.{all_taken}
use Rattle.slots.proofs.probing.steps_to_empty.Goals as goal

pub unreachable-requires : goal.unreachable-requires
unreachable-requires g c =
    let slots = c.args.slots.now in
    let long = length-map slots (λ (s : Slot g.row.N.Denot). s.link) in
    let none = all_taken (links_of slots) c.args.home (omega (arith, long, c.requires.home))
    (λ j l. c.loop-steps.invariant j (omega (arith, l, long, c.loop-steps-test.false))) in
    absurd (omega (arith, none, c.requires.some))
