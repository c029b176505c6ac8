use Rattle.std.proofs.Common.{sym, ◌∙◌}
use Rattle.reduction.proofs.ClosingSteps.{asks_pushed}
use Rattle.reduction.proofs.closing.Closing.ask.Goals as goal

pub returns-clause-asks : goal.returns-clause-asks
returns-clause-asks c =
    asks_pushed c.args.self.now.asked c.insert.new.self c.args.self.now.pending.items c.push.new.self.items c.args.fact c.requires (sym c.contains.ensures ∙ c.if-contains.false) c.insert.ensures c.in_ok-push.ensures.items
