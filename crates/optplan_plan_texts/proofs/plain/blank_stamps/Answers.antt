use Rattle.std.proofs.Common.{ℕ, List, length, sym, ap, ◌∙◌}
use Rattle.std.proofs.lemmas.List.{length-drop, take_rest}
use Rattle.optplan_plan_texts.specs.Passes.{text_if}
use Rattle.optplan_plan_texts.proofs.TextLines.{loop_step, loop_done}
use Rattle.optplan_plan_texts.proofs.plain.blank_stamps.Goals as goal

pub loop-at-preserved : goal.loop-at-preserved
loop-at-preserved c =
    let text = c.loop-at.text in
    let at = c.loop-at.at in
    let first = c.blank_first-length in
    loop_step at first.result.0 c.loop-at.ascending first.result.1 text first.new.text _ c.loop-at-test.true
    (first.ensures.same ∙ ap (λ (t : List ℕ). length t) (take_rest text at) ∙ length-drop at text)
    (sym (ap (λ (t : List ℕ). text_if c.loop-at.ascending t) (take_rest text at)) ∙ first.ensures.text) c.loop-at.invariant

pub returns : goal.returns
returns c = loop_done c.loop-at.at c.loop-at.ascending c.loop-at.text c.args.text.now c.loop-at-test.false c.loop-at.invariant
