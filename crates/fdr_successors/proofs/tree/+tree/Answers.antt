use Rattle.std.proofs.Common.{rules, ◌≡◌, ℕ, ◌+◌, ◌-◌, ◌<◌, ◌≤◌, List, [], ◌∷◌, ◌++◌, length, sym, ◌∙◌, ap, subst, arith, length-set}
use Rattle.std.specs.Prelude.{slice_index}
use Rattle.std.proofs.lemmas.Grind.{common_steps}
use Rattle.fdr.specs.declared.fact.Fact.{Fact}
use Rattle.fdr_successors.specs.declared.candidate.Part.{Part}
use Rattle.fdr_successors.specs.declared.node.Node.{Node}
use Rattle.fdr_successors.specs.declared.groups.Group.{Group}
use Rattle.fdr_successors.specs.Trees.{IsTree, AreKept, Leads, tests_at}
use Rattle.fdr_successors.proofs.Growing.{kept_then, kept_push, run_shares, child_leads, branches_more, branches_from, shares_part, tree_more, leads_here}
use Rattle.fdr_successors.proofs.tree.+tree.Goals as goal

pub add_children-add_part-requires : goal.add_children-add_part-requires
add_children-add_part-requires t c =
    let part = c.args.part in
    let facts = c.args.facts.now in
    let cs = c.args.candidates.now in
    let nodes = c.loop-value.tree.nodes.items in
    let numbers = c.loop-value.numbers.items in
    let k = c.loop-value.value - 1 in
    let first = c.run_start-first.result in
    let f : Fact = record { variable = c.args.group.variable; value = k } in
    let above : part.first ≤ first = omega (arith, c.run_start-first.ensures.within, c.requires.low) in
    let run = c.run_start-first.ensures.run in
    let below = c.loop-value.invariant.high in
    let inside : k < length numbers = omega (arith, c.loop-value.invariant.long) in
    let read : slice_index numbers k ≡ c.index.result.now = grind (arith, common_steps) in
    let shares = run_shares facts cs part.tested part.first part.end f first c.loop-value.start c.requires.part run above below in
    let leads = subst (λ (m : ℕ). Leads facts cs nodes (tests_at facts cs (part.tested + 1) first) c.loop-value.start m) read
    (child_leads facts cs nodes part.tested part.first part.end c.args.group.variable k numbers part.next first c.loop-value.start
    c.loop-value.invariant.branches inside c.requires.part run above c.if-first-start.true below) in
    (search rules, (c.requires.rows, (c.loop-value.invariant.tree, (shares, leads))))

pub add_children-loop-value-preserved-then-part-gt0 : goal.add_children-loop-value-preserved-then-part-gt0
add_children-loop-value-preserved-then-part-gt0 t c =
    let part = c.args.part in
    let old = c.loop-value.tree.nodes.items in
    let new = c.add_part.new.tree.nodes.items in
    let numbers = c.loop-value.numbers.items in
    let k = c.loop-value.value - 1 in
    let first = c.run_start-first.result in
    let child = c.in_ok-child.child in
    let above : part.first ≤ first = omega (arith, c.run_start-first.ensures.within, c.requires.low) in
    let inside : k < length numbers = omega (arith, c.loop-value.invariant.long) in
    record {
      tree = c.in_ok-child.ensures.tree;
      kept = kept_then c.args.tree.now.nodes.items old new c.loop-value.invariant.kept c.in_ok-child.ensures.kept;
      long = length-set numbers k child ∙ c.loop-value.invariant.long;
      low = c.run_start-first.ensures.within;
      high = let before = c.if-first-start.true in let high = c.loop-value.invariant.high in omega arith;
      branches =
          branches_more c.args.facts.now c.args.candidates.now old new part.tested part.first part.end c.args.group.variable k numbers part.next first c.loop-value.start child
          c.loop-value.invariant.branches inside c.requires.part c.run_start-first.ensures.run above c.if-first-start.true c.loop-value.invariant.high
          c.in_ok-child.ensures.kept c.in_ok-child.ensures.begins;
    }

-- the node of the last candidates of a part, with a table for their group
abbrev node_of : Part → Group → ℕ → ℕ → ℕ → Node
node_of part group first end table =
    record {
      first = first;
      end = end;
      tested = part.tested;
      variable = group.variable;
      table = table;
      range = group.range;
      next = part.next;
    }

pub add_node-returns-clause-tree : goal.add_node-returns-clause-tree
add_node-returns-clause-tree t c =
    let part = c.args.part in
    let facts = c.args.facts.now in
    let cs = c.args.candidates.now in
    let group = c.last_group-group.result in
    let nodes = c.add_children.new.tree.nodes.items in
    let kids = c.add_children.new.tree.children.items in
    let made = c.in_ok-start.field-0 in
    let more = made.numbers.items in
    let variables = length c.args.task.now.value_names in
    let w = node_of part group c.min-first.result made.start c.len.result in
    let above : part.first ≤ w.first = omega (arith, c.list_start.ensures.low, c.requires.some) in
    let rising : w.first ≤ w.end = omega (arith, c.list_start.ensures.high) in
    let some : w.first < part.end = omega (arith, c.requires.some) in
    let below = c.in_ok-start.ensures.place.1 in
    let range : w.range ≡ length more = sym c.in_ok-start.ensures.long in
    subst (λ (ns : List Node). IsTree variables facts cs ns c.push.new.self.children.items) (sym c.in_ok-push.ensures.nodes)
    (subst (λ (ms : List ℕ). IsTree variables facts cs (nodes ++ w ∷ []) ms) (sym (c.in_ok-push.ensures.children ∙ ap (λ (ms : List ℕ). kids ++ ms) c.deref.ensures.value))
    (tree_more variables facts cs nodes kids w more c.in_ok-start.ensures.tree (omega arith) range
    (shares_part facts cs part.tested part.first part.end w.first w.end c.requires.part above rising below some) c.last_group-group.ensures.variable
    (branches_from facts cs nodes (tests_at facts cs part.tested part.first) (tests_at facts cs part.tested w.first) group.variable more part.next w.end
    (sym (c.requires.part.shared w.first above some)) c.in_ok-start.ensures.branches)))

pub add_node-returns-clause-kept : goal.add_node-returns-clause-kept
add_node-returns-clause-kept t c =
    let old = c.args.tree.now.nodes.items in
    let nodes = c.add_children.new.tree.nodes.items in
    subst (λ (ns : List Node). AreKept old ns) (sym c.in_ok-push.ensures.nodes) (kept_then old nodes _ c.in_ok-start.ensures.kept (kept_push nodes _))

pub add_node-returns-clause-begins : goal.add_node-returns-clause-begins
add_node-returns-clause-begins t c =
    let part = c.args.part in
    let facts = c.args.facts.now in
    let cs = c.args.candidates.now in
    let group = c.last_group-group.result in
    let nodes = c.add_children.new.tree.nodes.items in
    let w = node_of part group c.min-first.result c.in_ok-start.field-0.start c.len.result in
    let tests = tests_at facts cs part.tested part.first in
    let above : part.first ≤ w.first = omega (arith, c.list_start.ensures.low, c.requires.some) in
    let some : w.first < part.end = omega (arith, c.requires.some) in
    let number : length nodes ≡ c.len-number.result = omega arith in
    subst (λ (ns : List Node). Leads facts cs ns tests w.first c.len-number.result) (sym c.in_ok-push.ensures.nodes)
    (subst (λ (n : ℕ). Leads facts cs (nodes ++ w ∷ []) tests w.first n) number
    (leads_here facts cs nodes w tests (c.requires.part.shared w.first above some)))
