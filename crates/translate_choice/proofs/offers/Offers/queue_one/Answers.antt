use Rattle.std.proofs.Common.{◌≡◌, ◌∙◌, ℕ, ap, sym, arith, not, length, false}
use Rattle.std.specs.Prelude.{slice_index_or, count_by}
use Rattle.std.proofs.lemmas.List.Sums.{length-filter}
use Rattle.translate_choice.specs.Greedy.{group_at, left_of}
use Rattle.translate_choice.proofs.GreedyLaws.{queued_one}
use Rattle.translate_choice.proofs.offers.Offers.queue_one.Goals as goal

pub returns-in_ok-push-clause-queued : goal.returns-in_ok-push-clause-queued
returns-in_ok-push-clause-queued c =
    let taken = c.args.taken.now in
    let groups = c.args.self.now.groups.now in
    let free = (λ (p : ℕ). not (slice_index_or taken p false)) in
    let size : c.left_count-size.result ≡ length (left_of taken (group_at groups c.args.group)) =
    c.left_count-size.ensures ∙ ap (count_by free) c.places_of.ensures ∙ sym (length-filter free (group_at groups c.args.group)) in
    queued_one c.args.self.now.index.now groups taken c.args.group c.left_count-size.result c.push.new.self size (λ l. c.in_ok-push.ensures.queued)

pub returns-else-size-gt1-clause-queued : goal.returns-else-size-gt1-clause-queued
returns-else-size-gt1-clause-queued c =
    let taken = c.args.taken.now in
    let groups = c.args.self.now.groups.now in
    let free = (λ (p : ℕ). not (slice_index_or taken p false)) in
    let size : c.left_count-size.result ≡ length (left_of taken (group_at groups c.args.group)) =
    c.left_count-size.ensures ∙ ap (count_by free) c.places_of.ensures ∙ sym (length-filter free (group_at groups c.args.group)) in
    queued_one c.args.self.now.index.now groups taken c.args.group c.left_count-size.result c.args.queue.now size
    (λ l. let few = c.if-size-gt1.false in absurd (omega (arith, l, few)))
