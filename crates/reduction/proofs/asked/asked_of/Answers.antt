use Rattle.std.proofs.Common.{ℕ, false, replicate, ap, subst, ◌∙◌}
use Rattle.reduction.specs.Closing.{Asks}
use Rattle.reduction.proofs.ClosingLaws.{marks_exact}
use Rattle.reduction.proofs.ClosingSteps.{closing_goal, open_goal, goal_in_range, asked_at_end}
use Rattle.reduction.proofs.asked.asked_of.Goals as goal

pub ask_all-requires : goal.ask_all-requires
ask_all-requires c = goal_in_range c.args.task.now c.in_ok-asked.asked c.goal.result.now c.in_ok-asked.ensures c.goal.ensures.assignment

pub close-requires-clause-closing : goal.close-requires-clause-closing
close-requires-clause-closing c =
    let first = c.in_ok-asked.asked in
    let later = c.ask_all.new.self in
    let asks : Asks c.in_ok-asked.asked c.ask_all.new.self.asked c.new-pending.result.items c.ask_all.new.self.pending.items c.args.task.now.goal =
    subst (Asks c.in_ok-asked.asked c.ask_all.new.self.asked c.new-pending.result.items c.ask_all.new.self.pending.items) c.goal.ensures.value c.in_ok-ask_all.ensures.asks in
    closing_goal c.args.task.now first later.asked c.new-pending.result.items later.pending.items c.in_ok-asked.ensures asks later.changing.items
    (c.in_ok-ask_all.ensures.changing ∙ c.in_ok-changing.ensures.items_if_clones_equal (λ y e. e) ∙ ap (λ (n : ℕ). replicate n false) c.operator_count.ensures)

pub close-requires-clause-pending : goal.close-requires-clause-pending
close-requires-clause-pending c =
    let first = c.in_ok-asked.asked in
    let later = c.ask_all.new.self in
    let asks : Asks c.in_ok-asked.asked c.ask_all.new.self.asked c.new-pending.result.items c.ask_all.new.self.pending.items c.args.task.now.goal =
    subst (Asks c.in_ok-asked.asked c.ask_all.new.self.asked c.new-pending.result.items c.ask_all.new.self.pending.items) c.goal.ensures.value c.in_ok-ask_all.ensures.asks in
    open_goal c.args.task.now first later.asked c.new-pending.result.items later.pending.items c.in_ok-asked.ensures asks later.changing.items c.new-pending.ensures.items

pub returns-clause-asked : goal.returns-clause-asked
returns-clause-asked c =
    let asks : Asks c.in_ok-asked.asked c.ask_all.new.self.asked c.new-pending.result.items c.ask_all.new.self.pending.items c.args.task.now.goal =
    subst (Asks c.in_ok-asked.asked c.ask_all.new.self.asked c.new-pending.result.items c.ask_all.new.self.pending.items) c.goal.ensures.value c.in_ok-ask_all.ensures.asks in
    asked_at_end c.args.task.now c.ask_all.new.self.asked c.close.new.self.asked c.close.new.self.changing.items c.in_ok-close.ensures.closing asks.all c.in_ok-close.ensures.asked c.in_ok-close.ensures.served

pub returns-clause-changing : goal.returns-clause-changing
returns-clause-changing c = marks_exact c.args.task.now c.close.new.self.asked c.close.new.self.changing.items c.in_ok-close.ensures.closing c.in_ok-close.ensures.served
