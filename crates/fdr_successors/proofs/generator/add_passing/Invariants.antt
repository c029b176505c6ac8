use Rattle.std.proofs.Common.{◌≡◌, ◌++◌, take}
use Rattle.std.specs.Prelude.{filter}
use Rattle.fdr_successors.specs.Listings.{passes, numbers_of}
use Rattle.fdr_successors.proofs.generator.add_passing.Given as goal

abbrev pub invariant-loop-candidate : goal.invariant-loop-candidate
invariant-loop-candidate l =
    l.found.items ≡ l.fn.found.items ++ numbers_of (filter (passes l.facts l.tested l.state) (take l.candidate-index l.candidates))
