use Rattle.std.proofs.Common.{◌≡◌, ◌<◌, length, length-set, Some, All, sym, ap, ◌∙◌, subst, arith}
use Rattle.std.proofs.lemmas.List.Elements.{All-pop}
use Rattle.owner_outboxes.specs.Outboxes.{withdrawn}
use Rattle.owner_outboxes.proofs.Withdrawing.{withdrawn_last, withdrawn_none}
use Rattle.owner_outboxes.proofs.queues.Outboxes.withdraw.Goals as goal

pub remove_newest-requires : goal.remove_newest-requires
remove_newest-requires g c =
    (All-pop (λ t. t < length c.loop-to.self) c.loop-to.receivers.items c.pop.new.self.items (Some c.in-Some.to) c.in-Some.ensures.items
    c.loop-to.invariant.there).1

pub loop-to-preserved : goal.loop-to-preserved
loop-to-preserved g c =
    let old = c.loop-to.self in
    let rest = c.pop.new.self.items in
    record {
      left = ap (withdrawn rest) c.remove_newest.ensures
          ∙ (sym (withdrawn_last rest c.in-Some.to old)
          ∙ (ap (λ vs. withdrawn vs old) (sym c.in-Some.ensures.items) ∙ c.loop-to.invariant.left));
      there = subst (λ n. All (λ t. t < n) rest) (sym (ap length c.remove_newest.ensures ∙ length-set old c.in-Some.to _))
          (All-pop (λ t. t < length old) c.loop-to.receivers.items rest (Some c.in-Some.to) c.in-Some.ensures.items c.loop-to.invariant.there).0;
    }

pub returns : goal.returns
returns g c =
    let none : length c.loop-to.receivers.items ≡ 0 = omega (arith, c.in_default.ensures.cases.0, c.loop-to.receivers.ok.0) in
    sym (withdrawn_none c.loop-to.receivers.items c.loop-to.self none) ∙ c.loop-to.invariant.left
