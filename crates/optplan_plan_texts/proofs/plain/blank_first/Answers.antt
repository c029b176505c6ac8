use Rattle.std.proofs.Common.{◌≡◌, ◌∙◌, ap, length, take, arith, length-take}
use Rattle.std.proofs.lemmas.List.{length-take-le}
use Rattle.optplan_plan_texts.proofs.TextLines.{first_blanked_step, first_same_step}
use Rattle.optplan_plan_texts.proofs.Lengths.{stamp_length}
use Rattle.optplan_plan_texts.proofs.plain.blank_first.Goals as goal

pub returns-then-blanked-clause-text : goal.returns-then-blanked-clause-text
returns-then-blanked-clause-text c =
    let h = c.line_length-end.ensures in
    let text = c.args.text.now in
    let n = c.line_length-end.result in
    first_blanked_step c.args.ascending text n c.decide-blanked.result.0 c.decide-blanked.result.1 c.blank_stamp.new.line (record { within = h.within; before = h.before; found = h.found })
    c.decide-blanked.ensures.line c.if-blanked.true c.blank_stamp.ensures c.decide-blanked.ensures.next
    (ap length c.blank_stamp.ensures ∙ stamp_length (take n text) ∙ length-take-le n text h.within)

pub returns-else-blanked-clause-text : goal.returns-else-blanked-clause-text
returns-else-blanked-clause-text c =
    let h = c.line_length-end.ensures in
    first_same_step c.args.ascending c.args.text.now c.line_length-end.result c.decide-blanked.result.0 c.decide-blanked.result.1 (record { within = h.within; before = h.before; found = h.found })
    c.decide-blanked.ensures.line c.if-blanked.false c.decide-blanked.ensures.next
