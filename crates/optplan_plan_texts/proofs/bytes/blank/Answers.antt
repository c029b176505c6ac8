use Rattle.std.proofs.Common.{ℕ, ◌<◌, ◌∙◌, length, slice_set, get_or, ap, arith}
use Rattle.std.proofs.lemmas.List.{get_or_default}
use Rattle.std.proofs.lemmas.List.Edits.{map_over_more}
use Rattle.optplan_plan_texts.specs.Bytes.{blanked_byte}
use Rattle.optplan_plan_texts.proofs.bytes.blank.Goals as goal

pub loop-byte-preserved : goal.loop-byte-preserved
loop-byte-preserved c =
    let now = c.loop-byte.bytes in let i = c.loop-byte.byte-index in let byte = get_or now i 0 in
    let within : i < length now = omega (arith, c.loop-byte-test.true, c.loop-byte.auto.bytes) in
    ap (λ (b : ℕ). slice_set now i b) c.blanked_byte.ensures
    ∙ map_over_more blanked_byte c.args.bytes.now now i byte c.loop-byte-test.true c.loop-byte.invariant (get_or_default now i 0 byte within)
