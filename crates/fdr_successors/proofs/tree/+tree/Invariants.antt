use Rattle.std.proofs.Common.{◌≡◌, ◌+◌, ◌*◌, ◌-◌, ◌≤◌, length}
use Rattle.fdr_successors.specs.Trees.{IsTree, AreKept, Leads, Branches, tests_of_part}
use Rattle.fdr_successors.proofs.tree.+tree.Given as goal

abbrev pub decreases-add_children : goal.decreases-add_children
decreases-add_children l = 3 * l.part.levels

abbrev pub decreases-add_node : goal.decreases-add_node
decreases-add_node l = 3 * l.part.levels + 1

abbrev pub decreases-add_part : goal.decreases-add_part
decreases-add_part l = 3 * l.part.levels + 2

abbrev pub invariant-add_children-loop-value : goal.invariant-add_children-loop-value
invariant-add_children-loop-value l =
    record {
      tree : IsTree (length l.task.value_names) l.facts l.candidates l.tree.nodes.items l.tree.children.items;
      kept : AreKept l.fn.tree.nodes.items l.tree.nodes.items;
      long : length l.numbers.items ≡ l.group.range;
      low : l.group.first ≤ l.start;
      high : l.start ≤ l.part.end;
      branches : Branches l.facts l.candidates l.tree.nodes.items (tests_of_part l.facts l.candidates l.part) l.group.variable l.numbers.items l.part.next l.start;
    }

abbrev pub invariant-add_part-loop-end : goal.invariant-add_part-loop-end
invariant-add_part-loop-end l =
    record {
      tree : IsTree (length l.task.value_names) l.facts l.candidates l.tree.nodes.items l.tree.children.items;
      kept : AreKept l.fn.tree.nodes.items l.tree.nodes.items;
      low : l.part.first ≤ l.end;
      high : l.end ≤ l.part.end;
      leads : Leads l.facts l.candidates l.tree.nodes.items (tests_of_part l.facts l.candidates l.part) l.end l.next;
    }

abbrev pub decreases-add_part-loop-end : goal.decreases-add_part-loop-end
decreases-add_part-loop-end l = l.end - l.part.first
