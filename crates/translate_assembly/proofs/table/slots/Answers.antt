use Rattle.std.proofs.Common.{◌≡◌, ◌∙◌, ap, rules, ◌++◌, drop, take, length, None, List, ℕ, Option, get_or, arith, eqb}
use Rattle.std.specs.Option.{option_or}
use Rattle.std.proofs.lemmas.Grind.{common_steps}
use Rattle.translate_assembly.specs.declared.slot.Slot.{Slot}
use Rattle.translate_assembly.specs.Slots.{first_slot}
use Rattle.translate_assembly.proofs.SlotLaws.{slots_more}
use Rattle.translate_assembly.proofs.table.slots.Goals as goal

pub loop-number-preserved : goal.loop-number-preserved
loop-number-preserved c =
    let i = c.loop-number.number in
    let v = c.index-variables-number.result in
    let whole : take c.loop-number.slots.len (c.mark.new.slots ++ drop (length c.mark.new.slots) c.loop-number.slots.items) ≡ c.mark.new.slots =
    grind (arith, common_steps) in
    let long : length c.mark.new.slots ≡ c.args.count = grind (arith, common_steps) in
    let places : c.deref.result.now ≡ v.places = search rules in
    record {
      count = ap length whole ∙ long;
      entries = λ q.
          ap (λ (l : List (Option Slot)). get_or l q None) whole
          ∙ slots_more c.args.variables.now v i q (get_or c.loop-number.slots.items q None) (get_or c.mark.new.slots q None) c.loop-number-test.true
          c.index-variables-number.is (c.loop-number.invariant.entries q)
          (c.mark.ensures q
          ∙ ap (λ (l : List (Option Slot)). option_or (get_or l q None) (first_slot (λ p. eqb p q) i (length c.deref.result.now) 0 c.deref.result.now)) c.deref_mut.ensures.value
          ∙ ap (λ (l : List ℕ). option_or (get_or c.loop-number.slots.items q None) (first_slot (λ p. eqb p q) i (length l) 0 l)) places);
    }
