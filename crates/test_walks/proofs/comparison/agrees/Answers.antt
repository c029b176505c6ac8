use Rattle.std.proofs.Common.{length, slice_index}
use Rattle.pdb.proofs.Falls.{distances_are_consistent}
use Rattle.test_walks.specs.Graphs.{graph_task, abstraction_by, graph_abstracts}
use Rattle.test_walks.proofs.comparison.agrees.Goals as goal

pub saturate-requires-clause-steps : goal.saturate-requires-clause-steps
saturate-requires-clause-steps g c =
    let graph = c.args.graph.now in
    distances_are_consistent (graph_task (length graph.kinds)) (abstraction_by graph) (λ o. slice_index c.args.costs.now o) c.in_ok-values.values
    (graph_abstracts graph.goals graph.count graph.kinds graph.targets graph.some) c.in_ok-values.ensures.distances
