use Rattle.fdr_successors.proofs.Walking.{HasFound}
use Rattle.fdr_successors.proofs.generator.SuccessorGenerator.gather.Given as goal

abbrev pub invariant-loop-at : goal.invariant-loop-at
invariant-loop-at l =
    let g = l.self-inside in HasFound g.facts.items g.candidates.items g.nodes.items l.state l.at l.found.items

abbrev pub decreases-loop-at : goal.decreases-loop-at
decreases-loop-at l = l.at
