-- Decision trees over candidates. A visit in a state goes from node to node, and passes candidates in the order of the
-- list: those of a node are tested, except for facts that hold because the visit has reached the node, and those
-- between two nodes are skipped, since a fact of each of them does not hold.
use Rattle.std.specs.Prelude.{◌≡◌, ℕ, ◌+◌, ◌<◌, ◌≤◌, true, false, if◌then◌else◌, nat_lt, List, [], length, take, slice_get, slice_index, Some}
use Rattle.std.specs.Option.{option_map_or}
use Rattle.fdr.specs.declared.fact.Fact.{Fact}
use Rattle.fdr.specs.Tasks.{FiniteDomainTask}
use Rattle.fdr_successors.specs.declared.candidate.Candidate.{Candidate}
use Rattle.fdr_successors.specs.declared.candidate.Part.{Part}
use Rattle.fdr_successors.specs.declared.node.Node.{Node}
use Rattle.fdr_successors.specs.Listings.{IsListing, all_hold, facts_at}

-- the first `tested` facts of the candidate at index `place`
abbrev pub tests_at : List Fact → List Candidate → ℕ → ℕ → List Fact
tests_at facts candidates tested place = take tested (facts_at facts candidates place)

-- the index of a node's first candidate
abbrev pub start_of : List Node → ℕ → ℕ
start_of nodes n = option_map_or (λ w. w.first) (slice_get nodes n) 0

-- the facts that hold when a visit reaches a node
abbrev pub tests_of : List Fact → List Candidate → List Node → ℕ → List Fact
tests_of facts candidates nodes n = option_map_or (λ w. tests_at facts candidates w.tested w.first) (slice_get nodes n) []

-- the child for `value`, or the node `next` if it has no child
abbrev pub child_for : List ℕ → ℕ → ℕ → ℕ
child_for children next value = if nat_lt value (length children) then slice_index children value else next

-- the node to which a visit goes from a node
abbrev pub following : List ℕ → List ℕ → Node → ℕ
following children state w =
    if nat_lt (slice_index state w.variable) w.range then slice_index children (w.table + slice_index state w.variable) else w.next

-- in the state a visit can go from index `place` to node `n`: the facts that are tested before the node hold, and no
-- candidate between them applies
pub record Continues (facts : List Fact) (candidates : List Candidate) (nodes : List Node) (state : List ℕ) (place n : ℕ) : Type 0 where
  pub rising : place ≤ start_of nodes n
  pub skipped : (i : ℕ) → place ≤ i → i < start_of nodes n → all_hold state (facts_at facts candidates i) ≡ false
  pub meets : all_hold state (tests_of facts candidates nodes n) ≡ true

-- the candidates from `first` to `end` have their first `tested` facts in common
pub record SharesTests (facts : List Fact) (candidates : List Candidate) (tested first end : ℕ) : Type 0 where
  pub rising : first ≤ end
  pub within : end ≤ length candidates
  pub long : (i : ℕ) → first ≤ i → i < end → tested ≤ length (facts_at facts candidates i)
  pub shared : (i : ℕ) → first ≤ i → i < end → tests_at facts candidates tested i ≡ tests_at facts candidates tested first

-- the node has candidates that share their tests, the nodes after it precede it in the list, and a visit can continue
-- from its last candidate
pub record IsNode (variables : ℕ) (facts : List Fact) (candidates : List Candidate) (nodes : List Node) (children : List ℕ) (n : ℕ) (w : Node) : Type 0 where
  pub shares : SharesTests facts candidates w.tested w.first w.end
  pub variable : 0 < w.range → w.variable < variables
  pub table : w.table + w.range ≤ length children
  pub later : w.next < n
  pub later_children : (k : ℕ) → k < w.range → slice_index children (w.table + k) < n
  pub continues : (state : List ℕ) → all_hold state (tests_at facts candidates w.tested w.first) ≡ true →
      Continues facts candidates nodes state w.end (following children state w)

-- the node at which a visit ends, after `count` candidates
abbrev pub end_after : ℕ → Node
end_after count = record { first = count; end = count; tested = 0; variable = 0; table = 0; range = 0; next = 0 }

-- visits end at node 0, after the last candidate
pub record IsTree (variables : ℕ) (facts : List Fact) (candidates : List Candidate) (nodes : List Node) (children : List ℕ) : Type 0 where
  pub end : slice_get nodes 0 ≡ Some (end_after (length candidates))
  pub each : (n : ℕ) (w : Node) → 0 < n → slice_get nodes n ≡ Some w → IsNode variables facts candidates nodes children n w

-- if `tests` hold, a visit can go from index `place` to node `n`
pub record Leads (facts : List Fact) (candidates : List Candidate) (nodes : List Node) (tests : List Fact) (place n : ℕ) : Type 0 where
  pub exists : n < length nodes
  pub continues : (state : List ℕ) → all_hold state tests ≡ true → Continues facts candidates nodes state place n

-- if `tests` hold, a visit can go from index `place` to the child for the value of the variable
pub record Branches (facts : List Fact) (candidates : List Candidate) (nodes : List Node) (tests : List Fact) (variable : ℕ) (children : List ℕ) (next place : ℕ) : Type 0 where
  pub exists : next < length nodes
  pub children_exist : (k : ℕ) → k < length children → slice_index children k < length nodes
  pub continues : (state : List ℕ) → all_hold state tests ≡ true →
      Continues facts candidates nodes state place (child_for children next (slice_index state variable))

-- the nodes are unchanged when others are appended
pub record AreKept (old new : List Node) : Type 0 where
  pub long : length old ≤ length new
  pub kept : (n : ℕ) → n < length old → slice_get new n ≡ slice_get old n

-- the candidates from `first` to `end` test `fact` after `tested` others
pub record IsRun (facts : List Fact) (candidates : List Candidate) (tested : ℕ) (fact : Fact) (first end : ℕ) : Type 0 where
  pub rising : first ≤ end
  pub tests : (i : ℕ) → first ≤ i → i < end → slice_get (facts_at facts candidates i) tested ≡ Some fact

-- the tests that the candidates of a part share
abbrev pub tests_of_part : List Fact → List Candidate → Part → List Fact
tests_of_part facts candidates p = tests_at facts candidates p.tested p.first

-- the candidates are listed, and a visit of the tree begins at the root, before the first of them
pub record IsGenerator (task : FiniteDomainTask) (facts : List Fact) (candidates : List Candidate) (nodes : List Node) (children : List ℕ) (root : ℕ) : Type 0 where
  pub listing : IsListing task facts candidates
  pub tree : IsTree (length task.value_names) facts candidates nodes children
  pub begins : Leads facts candidates nodes [] 0 root
