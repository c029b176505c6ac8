use Rattle.std.proofs.Common.{take}
use Rattle.packed.specs.Masks as spec
use Rattle.packed.proofs.masks.tests_of.Given as goal

abbrev pub invariant-loop-fact : goal.invariant-loop-fact
invariant-loop-fact l = spec.AskFor l.layout (take l.fact-index l.facts) l.tests.items
