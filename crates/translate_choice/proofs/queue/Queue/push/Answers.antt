use Rattle.std.specs.BinaryHeap.{heap_items}
use Rattle.translate_choice.specs.declared.queue.Candidate.{Candidate}
use Rattle.translate_choice.proofs.GreedyLaws.{keeps_pushed, queued_pushed}
use Rattle.translate_choice.proofs.queue.Queue.push.Goals as goal

pub returns-clause-keeps : goal.returns-clause-keeps
returns-clause-keeps c =
    let made : Candidate = record { size = c.args.size; group = record { 0 = c.args.group } } in
    rw (← c.self.view_is) (keeps_pushed made (heap_items c.self.inside.heap) (heap_items c.push.new.self) c.in_ok-push.ensures.permutation)

pub returns-clause-queued : goal.returns-clause-queued
returns-clause-queued c =
    let made : Candidate = record { size = c.args.size; group = record { 0 = c.args.group } } in
    queued_pushed made (heap_items c.self.inside.heap) (heap_items c.push.new.self) c.in_ok-push.ensures.permutation
