use Rattle.std.proofs.Common.{◌≡◌, ◌∙◌, ℕ, length, sym, ap, subst, arith, true, false}
use Rattle.std.proofs.lemmas.Bool.{false≢true}
use Rattle.test_walks.specs.Graphs.{Listing, HasEntering}
use Rattle.test_walks.proofs.Entering.{source_added, source_left_out}
use Rattle.test_walks.proofs.graph.Graph.add_entering.Goals as goal
use Rattle.test_walks.proofs.graph.Graph.add_entering.Goals.{then-leads_to+in_ok-push, else-leads_to}

pub loop-source-preserved : goal.loop-source-preserved
loop-source-preserved c =
    let g = c.args.self.now in
    let n = c.loop-source.source in
    let j = c.args.abstract_state in
    let old = c.args.transitions.now.items in
    let new = c.loop-source.transitions.items in
    elim c.if-leads_to.branch [
      | then-leads_to+in_ok-push w ↦ rw (w.transitions-is, w.in_ok-push.ensures.items) (source_added g c.args.class n j old new (c.leads_to.ensures.0 w.if-leads_to.true) c.loop-source.invariant)
      | else-leads_to w ↦ rw w.transitions-is (source_left_out g c.args.class n j old new (λ e. false≢true (sym w.if-leads_to.false ∙ c.leads_to.ensures.1 e)) c.loop-source.invariant)
    ]

pub returns : goal.returns
returns c =
    let g = c.args.self.now in
    let size : length c.self.inside.goals.items ≡ length g.goals = ap (λ (x : Listing). length x.goals) c.self.view_is in
    let end : c.loop-source.source ≡ length g.goals = omega (arith, c.loop-source-test.false, c.loop-source.auto.source-end, c.len-source-end.ensures, c.self.inside.goals.ok) in
    subst (λ (n : ℕ). HasEntering g c.args.class n c.args.abstract_state c.args.transitions.now.items c.loop-source.transitions.items) end c.loop-source.invariant
