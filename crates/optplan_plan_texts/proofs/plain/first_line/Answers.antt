use Rattle.optplan_plan_texts.proofs.TextLines.{only_line, line_and_others}
use Rattle.optplan_plan_texts.proofs.plain.first_line.Goals as goal

pub returns-in-empty-clause-first : goal.returns-in-empty-clause-first
returns-in-empty-clause-first c =
    let h = c.line_length.ensures in
    only_line c.args.text.now c.line_length.result c.split_at.result.0.now c.split_at.result.1.now (record { within = h.within; before = h.before; found = h.found })
    c.split_at.ensures.front c.split_at.ensures.back c.in-empty.len_below

pub returns-in-len1-up-clause-first : goal.returns-in-len1-up-clause-first
returns-in-len1-up-clause-first c =
    let h = c.line_length.ensures in
    line_and_others c.args.text.now c.line_length.result c.split_at.result.0.now c.split_at.result.1.now (record { within = h.within; before = h.before; found = h.found })
    c.split_at.ensures.front c.split_at.ensures.back c.in-len1-up.len_at_least
