use Rattle.std.proofs.Common.{[], ◌∷◌, ◌++◌, None, get_or, refl, sym, ap, ◌∙◌, arith}
use Rattle.mutex.specs.declared.parts.Part.{Part}
use Rattle.mutex.specs.Candidates.{Candidate}
use Rattle.mutex.proofs.CandidateLaws.{extend_pushed, extend_other, extend_full}
use Rattle.mutex.proofs.candidates.extend_one.Goals as goal
use Rattle.mutex.proofs.candidates.extend_one.Goals.{then-len-room+then-is_below+in_ok-with+in_ok-push, else-len-room, else-len-room-via-then-len-room+else-is_below, else-len-room-via-else-len-room}

abbrev none : Part
none = record { predicate = 0; position = None }

pub loop-part-preserved : goal.loop-part-preserved
loop-part-preserved c =
    let parts = c.args.parts.now in
    let i = c.loop-part.part-index in
    let part = get_or parts i none in
    let old = c.args.longer.now.items in
    let now = c.loop-part.longer.items in
    let after = c.if-len-room.longer.items in
    elim c.if-len-room.branch [
      | then-len-room+then-is_below+in_ok-with+in_ok-push w ↦ extend_pushed parts c.args.candidate.now i part none (omega arith) refl c.args.room old now after c.loop-part.invariant
          (omega arith) (sym w.is_below.ensures ∙ w.if-is_below.true) (ap (λ v. v.items) w.longer-is ∙ w.in_ok-push.ensures.items ∙ ap (λ (longer : Candidate). now ++ longer ∷ []) w.in_ok-with.ensures)
      | else-len-room w ↦ elim w.else-len-room.branch [
        | else-len-room-via-then-len-room+else-is_below v ↦ extend_other parts c.args.candidate.now i part none (omega arith) refl c.args.room old now after c.loop-part.invariant
            (sym v.is_below.ensures ∙ v.if-is_below.false) (ap (λ v. v.items) w.longer-is)
        | else-len-room-via-else-len-room v ↦ extend_full parts c.args.candidate.now i part none (omega arith) refl c.args.room old now after c.loop-part.invariant
            (omega arith) (ap (λ v. v.items) w.longer-is)
      ]
    ]
