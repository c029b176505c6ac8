use Rattle.std.proofs.Common.{◌≡◌, ◌∙◌, ◌++◌, List, ℕ, Bool, cond, sym, ap, take, drop}
use Rattle.std.proofs.lemmas.List.{take-append-drop}
use Rattle.optplan_plan_texts.specs.Bytes.{blanked}
use Rattle.optplan_plan_texts.proofs.TextLines.{limit_is}
use Rattle.optplan_plan_texts.proofs.plain.blank_limit.Goals as goal

pub returns-then-is_limit : goal.returns-then-is_limit
returns-then-is_limit c =
    let h = c.line_length-end.ensures in
    let text = c.args.text.now in
    let n = c.line_length-end.result in
    let line = take n text in
    ap (λ (l : List ℕ). l ++ drop n text) c.blank.ensures
    ∙ ap (λ (t : Bool). cond t (blanked line) line ++ drop n text) (sym (sym c.is_limit.ensures ∙ c.if-is_limit.true))
    ∙ sym (limit_is text n (record { within = h.within; before = h.before; found = h.found }))

pub returns-else-is_limit : goal.returns-else-is_limit
returns-else-is_limit c =
    let h = c.line_length-end.ensures in
    let text = c.args.text.now in
    let n = c.line_length-end.result in
    let line = take n text in
    sym (take-append-drop n text)
    ∙ ap (λ (t : Bool). cond t (blanked line) line ++ drop n text) (sym (sym c.is_limit.ensures ∙ c.if-is_limit.false))
    ∙ sym (limit_is text n (record { within = h.within; before = h.before; found = h.found }))
