use Rattle.std.proofs.Common.{◌≡◌, take}
use Rattle.reduction_classes.specs.Reduced.{reduced_facts}
use Rattle.reduction_classes.proofs.classes.Classes.facts.Given as goal

abbrev pub invariant-loop-fact : goal.invariant-loop-fact
invariant-loop-fact l = l.images.items ≡ reduced_facts l.self (take l.fact-index l.facts)
