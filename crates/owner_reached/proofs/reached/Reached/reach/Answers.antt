use Rattle.std.proofs.Common.{◌≡◌, ℕ, List, length, sym, ap, ◌∙◌, subst, arith}
use Rattle.std.specs.Prelude.{OnOk}
use Rattle.cost.specs.Distances.{Finite, ◌+ᵈ◌}
use Rattle.fdr.specs.Tasks.{ranges, IsState}
use Rattle.closed.specs.Tables.{reached, outcome_of, fresh}
use Rattle.closed.proofs.Ever.{padded_same}
use Rattle.owner_reached.specs.Queues.{ReachedOf, h_of}
use Rattle.owner_reached.proofs.Outcomes.{kept_same}
use Rattle.owner_reached.proofs.reached.Reached.reach.Goals as goal

pub returns-in-Kept-clause-nodes : goal.returns-in-Kept-clause-nodes
returns-in-Kept-clause-nodes g c =
    sym (kept_same c.args.self.now.nodes (fresh c.args.state.now c.args.rank c.args.parent)
    (ap (λ (s : List ℕ). outcome_of c.args.self.now.nodes (fresh s c.args.rank c.args.parent)) (sym c.requires.values)
    ∙ sym (c.in-Kept.ensures c.args.parent)))

pub returns-in-Kept-clause-ever : goal.returns-in-Kept-clause-ever
returns-in-Kept-clause-ever g c =
    let old = c.args.self.now in
    sym (padded_same old.ever (length old.nodes) (omega (arith, c.recall.ensures.ever)))

pub f-f-requires-clause-state : goal.f-f-requires-clause-state
f-f-requires-clause-state g c =
    let rs = ranges c.args.self.now.space.task in
    subst (λ (r : ReachedOf g.row.S.Denot). IsState (ranges r.space.task) c.args.state.now) (sym c.self.view_is)
    (subst (IsState rs) c.requires.values (g.met.F.StateForm.state rs c.args.form.now c.requires.form))

pub reach_at-requires-clause-f : goal.reach_at-requires-clause-f
reach_at-requires-clause-f g c =
    c.f-f.ensures
    ∙ ap (λ (r : ReachedOf g.row.S.Denot). Finite c.args.rank.cost +ᵈ h_of r.space c.args.state.now) c.self.view_is
    ∙ ap (λ (s : List ℕ). Finite c.args.rank.cost +ᵈ h_of c.args.self.now.space s) (sym c.requires.values)

pub returns-in_default-clause-nodes : goal.returns-in_default-clause-nodes
returns-in_default-clause-nodes g c =
    subst (λ (s : List ℕ). OnOk c.reach_at.result (c.reach_at.new.self.nodes ≡ reached c.args.self.now.nodes (fresh s c.args.rank c.args.parent)))
    c.requires.values c.reach_at.ensures.nodes
