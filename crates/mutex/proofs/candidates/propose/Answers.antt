use Rattle.std.proofs.Common.{List, take, ap, ◌∙◌, arith}
use Rattle.mutex.specs.declared.parts.Part.{Part}
use Rattle.mutex.specs.Candidates.{candidates_of, fluent_parts, bound_parts_of, free_parts_of}
use Rattle.mutex.proofs.CandidateLaws.{both_kinds}
use Rattle.mutex.proofs.candidates.propose.Goals as goal

pub returns : goal.returns
returns c =
    let left = c.saturating_sub-room.result in
    both_kinds (fluent_parts bound_parts_of c.args.task.now) (fluent_parts free_parts_of c.args.task.now) 4096 left c.in_ok-all.all.items c.in_ok-rest.rest.items c.append.new.self.items
    (c.in_ok-all.ensures ∙ ap (λ (parts : List Part). take 4096 (candidates_of parts)) (c.deref-2.ensures.value ∙ c.in_ok-bound.ensures)) (omega arith)
    (c.in_ok-rest.ensures ∙ ap (λ (parts : List Part). take left (candidates_of parts)) (c.deref-4.ensures.value ∙ c.in_ok-free.ensures)) c.in_ok-append.ensures.items
