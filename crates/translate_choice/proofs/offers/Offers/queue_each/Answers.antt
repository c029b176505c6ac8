use Rattle.std.proofs.Common.{◌≡◌, ◌∙◌, true, sym, ⊎_elim, eqb, take, subst, get_or}
use Rattle.std.proofs.lemmas.Bool.{or_cases, eqb-true}
use Rattle.std.proofs.lemmas.List.Folds.{list_any_more}
use Rattle.index_rows.specs.Numbers.{has}
use Rattle.translate_choice.specs.Greedy.{IsQueuedIfFit}
use Rattle.translate_choice.proofs.GreedyLaws.{keeps_both, queued_kept}
use Rattle.translate_choice.proofs.offers.Offers.queue_each.Goals as goal

pub loop-group-preserved : goal.loop-group-preserved
loop-group-preserved c =
    let index = c.args.self.now.index.now in
    let groups = c.args.self.now.groups.now in
    let taken = c.args.taken.now in
    let listed = c.args.groups.now in
    let i = c.loop-group.group-index in
    record {
      keeps = keeps_both c.args.queue.now c.loop-group.queue c.queue_one.new.queue c.loop-group.invariant.keeps c.in_ok-queue_one.ensures.keeps;
      queued = λ g h.
          ⊎_elim
          (λ (e : has (take i listed) g ≡ true).
          queued_kept index groups taken c.loop-group.queue c.queue_one.new.queue g c.in_ok-queue_one.ensures.keeps (c.loop-group.invariant.queued g e))
          (λ (e : eqb (get_or listed i 0) g ≡ true).
          subst (IsQueuedIfFit index groups taken c.queue_one.new.queue) (eqb-true (get_or listed i 0) g e) c.in_ok-queue_one.ensures.queued)
          (or_cases (has (take i listed) g) (eqb (get_or listed i 0) g) (sym (list_any_more (λ n. eqb n g) listed i 0 c.loop-group-test.true) ∙ h));
    }
