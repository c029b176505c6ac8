use Rattle.std.proofs.Common.{[], ◌∷◌, ◌++◌, List, take, ap, ◌∙◌, arith}
use Rattle.std.specs.List.{flat_map}
use Rattle.mutex.specs.Candidates.{Candidate}
use Rattle.mutex.specs.Steps.{extensions}
use Rattle.mutex.proofs.CandidateLaws.{levels}
use Rattle.mutex.proofs.candidates.candidates_of.Goals as goal

pub returns : goal.returns
returns c =
    let parts = c.args.parts.now in
    let none = c.deref.ensures.value ∙ c.in_ok-none.ensures.items ∙ ap (λ (candidate : Candidate). candidate ∷ []) c.new.ensures in
    let one = c.in_ok-one.one.items in
    let two = c.in_ok-two.two.items in
    let three = c.in_ok-three.three.items in
    levels parts c.args.room c.saturating_sub-room.result c.saturating_sub-room-2.result one two three c.append-2.new.self.items
    (c.in_ok-one.ensures ∙ ap (λ (candidates : List Candidate). take c.args.room (flat_map (extensions parts) candidates)) none) (omega arith)
    (c.in_ok-two.ensures ∙ ap (λ (candidates : List Candidate). take c.saturating_sub-room.result (flat_map (extensions parts) candidates)) c.deref-2.ensures.value) (omega arith)
    (c.in_ok-three.ensures ∙ ap (λ (candidates : List Candidate). take c.saturating_sub-room-2.result (flat_map (extensions parts) candidates)) c.deref-3.ensures.value)
    (c.in_ok-append-2.ensures.items ∙ ap (λ (candidates : List Candidate). one ++ candidates) c.in_ok-append.ensures.items)
