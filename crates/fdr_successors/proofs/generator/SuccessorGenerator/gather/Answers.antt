use Rattle.std.proofs.Common.{◌≡◌, ℕ, ◌++◌, ◌<◌, List, length, refl, sym, ◌∙◌, ap, subst, arith}
use Rattle.std.specs.Prelude.{filter, slice_range}
use Rattle.std.proofs.lemmas.Option.{slice_get_read}
use Rattle.fdr.specs.declared.fact.Fact.{Fact}
use Rattle.fdr.specs.Tasks.{FiniteDomainTask}
use Rattle.fdr_successors.specs.declared.candidate.Candidate.{Candidate}
use Rattle.fdr_successors.specs.Applicable.{applicable_operators}
use Rattle.fdr_successors.specs.Listings.{numbers_of, passes}
use Rattle.fdr_successors.specs.Numbers.{SameNumbers}
use Rattle.fdr_successors.specs.Trees.{following}
use Rattle.fdr_successors.proofs.Growing.{following_below}
use Rattle.fdr_successors.proofs.Walking.{HasFound, visit_begins, visit_goes_on, visit_ends}
use Rattle.fdr_successors.proofs.generator.SuccessorGenerator.gather.Goals as goal

pub loop-at-init : goal.loop-at-init
loop-at-init c =
    let g = c.self.inside in
    let state = c.args.state.now in
    subst (λ (os : List ℕ). HasFound g.facts.items g.candidates.items g.nodes.items state g.root os) (sym c.requires.none)
    (visit_begins (length g.task.now.value_names) g.facts.items g.candidates.items g.nodes.items g.children.items g.root state c.self.invariant.tree c.self.invariant.begins)

pub add_from_node-requires-clause-shares : goal.add_from_node-requires-clause-shares
add_from_node-requires-clause-shares c =
    let nodes = c.self.inside.nodes.items in
    let n = c.loop-at.at in
    let w = c.index-node.result.now in
    let is = c.self.invariant.tree.each n w c.loop-at-test.true (slice_get_read nodes (length nodes) n w refl c.loop-at.invariant.exists c.index-node.ensures) in
    rw (c.deref.ensures.value, c.deref-in-loop-at.ensures.value) is.shares

pub next_node-at-requires-clause-variable : goal.next_node-at-requires-clause-variable
next_node-at-requires-clause-variable c positive =
    let nodes = c.self.inside.nodes.items in
    let n = c.loop-at.at in
    let w = c.index-node.result.now in
    let is = c.self.invariant.tree.each n w c.loop-at-test.true (slice_get_read nodes (length nodes) n w refl c.loop-at.invariant.exists c.index-node.ensures) in
    let same = ap (λ (task : FiniteDomainTask). length task.value_names) c.self.view_is in
    omega (arith, is.variable positive)

pub next_node-at-requires-clause-table : goal.next_node-at-requires-clause-table
next_node-at-requires-clause-table c =
    let nodes = c.self.inside.nodes.items in
    let n = c.loop-at.at in
    let w = c.index-node.result.now in
    let is = c.self.invariant.tree.each n w c.loop-at-test.true (slice_get_read nodes (length nodes) n w refl c.loop-at.invariant.exists c.index-node.ensures) in
    let count = ap (λ (ms : List ℕ). length ms) c.deref-in-loop-at-2.ensures.value in
    omega (arith, is.table)

pub loop-at-smaller : goal.loop-at-smaller
loop-at-smaller c =
    let g = c.self.inside in
    let nodes = g.nodes.items in
    let n = c.loop-at.at in
    let w = c.index-node.result.now in
    let state = c.args.state.now in
    let is = c.self.invariant.tree.each n w c.loop-at-test.true (slice_get_read nodes (length nodes) n w refl c.loop-at.invariant.exists c.index-node.ensures) in
    let next : c.next_node-at.result ≡ following g.children.items state w = c.next_node-at.ensures ∙ ap (λ (ms : List ℕ). following ms state w) c.deref-in-loop-at-2.ensures.value in
    subst (λ (m : ℕ). m < n) (sym next) (following_below n g.children.items w state is.later is.later_children)

pub loop-at-preserved : goal.loop-at-preserved
loop-at-preserved c =
    let g = c.self.inside in
    let facts = g.facts.items in
    let cs = g.candidates.items in
    let nodes = g.nodes.items in
    let n = c.loop-at.at in
    let w = c.index-node.result.now in
    let state = c.args.state.now in
    let found = c.loop-at.found.items in
    let next : c.next_node-at.result ≡ following g.children.items state w = c.next_node-at.ensures ∙ ap (λ (ms : List ℕ). following ms state w) c.deref-in-loop-at-2.ensures.value in
    let items : c.add_from_node.new.found.items ≡ found ++ numbers_of (filter (passes facts w.tested state) (slice_range cs w.first w.end)) =
    c.in_ok-add_from_node.ensures
    ∙ ap (λ (fs : List Fact). found ++ numbers_of (filter (passes fs w.tested state) (slice_range c.deref-in-loop-at.result.now w.first w.end))) c.deref.ensures.value
    ∙ ap (λ (ds : List Candidate). found ++ numbers_of (filter (passes facts w.tested state) (slice_range ds w.first w.end))) c.deref-in-loop-at.ensures.value in
    subst (λ (os : List ℕ). HasFound facts cs nodes state c.next_node-at.result os) (sym items)
    (subst (λ (m : ℕ). HasFound facts cs nodes state m (found ++ numbers_of (filter (passes facts w.tested state) (slice_range cs w.first w.end)))) (sym next)
    (visit_goes_on (length g.task.now.value_names) facts cs nodes g.children.items state n w found c.self.invariant.tree c.loop-at-test.true
    (slice_get_read nodes (length nodes) n w refl c.loop-at.invariant.exists c.index-node.ensures) c.loop-at.invariant))

pub returns : goal.returns
returns c =
    let g = c.self.inside in
    let state = c.args.state.now in
    let found = c.loop-at.found.items in
    let end : c.loop-at.at ≡ 0 = omega arith in
    subst (λ (task : FiniteDomainTask). SameNumbers found (applicable_operators task state)) c.self.view_is
    (visit_ends g.task.now g.facts.items g.candidates.items g.nodes.items g.children.items g.root state found c.self.invariant
    (subst (λ (m : ℕ). HasFound g.facts.items g.candidates.items g.nodes.items state m found) end c.loop-at.invariant))
