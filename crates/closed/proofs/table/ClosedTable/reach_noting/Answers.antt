use Rattle.std.proofs.Common.{◌≡◌, ◌≤◌, ℕ, List, length, take, sym, ap, ◌∙◌, subst}
use Rattle.owner_theory.specs.Owners.{Node}
use Rattle.closed.specs.declared.table.Entry.{Entry}
use Rattle.closed.specs.Tables.{Table, node_with, reached, outcome_of, arrival}
use Rattle.closed.specs.Entries.{entry_in, nodes_of, taken_back, Notes}
use Rattle.closed.proofs.Reached.{length-reached}
use Rattle.closed.proofs.TakingBack.{taken_back-reached}
use Rattle.closed.proofs.table.ClosedTable.reach_noting.Goals as goal
use Rattle.closed.proofs.table.ClosedTable.reach_noting.Goals.{In_ok-outcome}

pub enter-requires-clause-form : goal.enter-requires-clause-form
enter-requires-clause-form g c = (c.args.self.now.ranges, c.requires.form)

-- the state was reached
module _ (g : _) (c : In_ok-outcome g) where
  abbrev values : g.row.F.Denot → List ℕ
  values = g.F.StateForm.values c.self.inside.layout

  form : g.F.StateForm.IsForm c.self.inside.layout c.args.message.now.state
  form = subst (λ (t : Table). g.F.StateForm.IsForm t.ranges c.args.message.now.state) (sym c.self.view_is) c.requires.form

  node : node_with (values c.args.message.now.state) (entry_in c.in-Some.entry) ≡ arrival values c.args.message.now
  node = ap (λ (e : Entry). node_with (values c.args.message.now.state) e) c.in-Some.ensures.held

  outcome : c.in_ok-outcome.outcome ≡ outcome_of c.args.self.now.nodes (arrival (g.F.StateForm.values c.args.self.now.ranges) c.args.message.now)
  outcome =
      c.in_ok-outcome.ensures.outcome c.self.inside.layout form c.self.invariant.keys
      ∙ ap (λ (m : Node). outcome_of (nodes_of values c.self.inside.rows) m) node
      ∙ ap (λ (t : Table). outcome_of t.nodes (arrival (g.F.StateForm.values t.ranges) c.args.message.now)) c.self.view_is

  nodes : nodes_of values c.enter.new.rows ≡ reached c.args.self.now.nodes (arrival (g.F.StateForm.values c.args.self.now.ranges) c.args.message.now)
  nodes =
      c.in_ok-outcome.ensures.nodes c.self.inside.layout form c.self.invariant.keys
      ∙ ap (λ (m : Node). reached (nodes_of values c.self.inside.rows) m) node
      ∙ ap (λ (t : Table). reached t.nodes (arrival (g.F.StateForm.values t.ranges) c.args.message.now)) c.self.view_is

  noted : Notes c.args.self.now.nodes c.in_ok-outcome.outcome c.args.replaced.now.items c.enter.new.replaced.items
  noted =
      subst (λ (t : Table). Notes t.nodes c.in_ok-outcome.outcome c.args.replaced.now.items c.enter.new.replaced.items) c.self.view_is
      (c.in_ok-outcome.ensures.noted c.self.inside.layout)

pub returns-clause-outcome : goal.returns-clause-outcome
returns-clause-outcome g c = outcome g c

pub returns-clause-nodes : goal.returns-clause-nodes
returns-clause-nodes g c = nodes g c

pub returns-clause-no_fewer : goal.returns-clause-no_fewer
returns-clause-no_fewer g c =
    let m = arrival (g.F.StateForm.values c.args.self.now.ranges) c.args.message.now in
    subst (λ (ns : List Node). length c.args.self.now.nodes ≤ length ns) (sym (nodes g c)) (length-reached c.args.self.now.nodes m)

pub returns-clause-taken_back : goal.returns-clause-taken_back
returns-clause-taken_back g c len within =
    let m = c.args.message.now in
    let new = c.enter.new.replaced.items in
    ap (λ (ns : List Node). taken_back new (take len ns)) (nodes g c)
    ∙ taken_back-reached c.args.self.now.nodes c.args.replaced.now.items len (arrival (g.F.StateForm.values c.args.self.now.ranges) m)
    c.in_ok-outcome.outcome new (outcome g c) within (noted g c)
