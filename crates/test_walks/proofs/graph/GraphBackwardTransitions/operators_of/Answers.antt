use Rattle.std.proofs.Common.{◌≡◌, ◌∙◌, ℕ, ◌<◌, List, [], length, get_or, ap, sym, subst, arith}
use Rattle.std.proofs.lemmas.List.{get_or_default}
use Rattle.test_walks.specs.Graphs.{Listing, AreMembers}
use Rattle.test_walks.proofs.graph.GraphBackwardTransitions.operators_of.Goals as goal

pub returns : goal.returns
returns c =
    let g = c.self.inside in
    let class = c.args.class in
    let count : g.count ≡ c.args.self.now.count = ap (λ (x : Listing). x.count) c.self.view_is in
    let below : class < g.count = omega (arith, c.requires) in
    let inside : class < length g.members.items = omega (arith, c.self.invariant.2.full) in
    let is : c.deref.result.now ≡ get_or g.members.items class [] =
    c.deref.ensures.value ∙ c.behind-self.view_is ∙ c.index.ensures ∙ get_or_default g.members.items class c.index.result.now [] inside in
    let each : AreMembers g.count g.kinds.items class c.deref.result.now =
    subst (λ (os : List ℕ). AreMembers g.count g.kinds.items class os) (sym is) (c.self.invariant.2.each class below) in
    let members : AreMembers c.args.self.now.count c.args.self.now.kinds class c.deref.result.now =
    subst (λ (x : Listing). AreMembers x.count x.kinds class c.deref.result.now) c.self.view_is each in
    record { increasing = members.increasing; operators = members.listed }
