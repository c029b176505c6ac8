use Rattle.std.proofs.Common.{sym, ap, ◌∙◌}
use Rattle.cost.specs.Distances.{Distance, Finite, is_at_most, ◌+ᵈ◌}
use Rattle.checker_clauses.specs.Clauses.{is_covered, heuristic_of}
use Rattle.checker_states.specs.Coverings.{Covering}
use Rattle.checker_states.proofs.Saturation.{covered_paid, covered_listed, covered_reached}
use Rattle.checker_states.proofs.coverage.Coverage.is_covered.Goals as goal

pub returns-then-reaches : goal.returns-then-reaches
returns-then-reaches c = λ total kept.
    let inside = c.self.inside in
    sym (covered_paid inside.task.now inside.certificate.now c.args.state.now c.args.cost total kept c.self.invariant.costs inside.index c.self.invariant.index
    (ap (λ (b : Distance). is_at_most b (Finite c.args.cost)) (sym c.bound-bound.ensures) ∙ sym c.reaches.ensures ∙ c.if-reaches.true))
    ∙ ap (λ (v : Covering). is_covered v.task v.certificate c.args.state.now total) c.self.view_is

pub returns-then-is_listed : goal.returns-then-is_listed
returns-then-is_listed c = λ total kept.
    let inside = c.self.inside in
    c.if-is_listed.true
    ∙ sym (covered_listed inside.task.now inside.certificate.now c.args.state.now c.args.cost total kept c.self.invariant.costs inside.index c.self.invariant.index
    (sym c.is_listed.ensures ∙ c.if-is_listed.true))
    ∙ ap (λ (v : Covering). is_covered v.task v.certificate c.args.state.now total) c.self.view_is

pub returns-else-is_listed : goal.returns-else-is_listed
returns-else-is_listed c = λ total kept.
    let inside = c.self.inside in
    c.reaches-else-is_listed.ensures
    ∙ ap (λ (b : Distance). is_at_most b (Finite c.args.cost +ᵈ heuristic_of inside.heuristic.task inside.heuristic.columns c.args.state.now)) c.bound-bound.ensures
    ∙ covered_reached inside.task.now inside.certificate.now c.args.state.now c.args.cost total kept c.self.invariant.costs inside.index c.self.invariant.index
    c.self.invariant.bound inside.heuristic.task inside.heuristic.columns c.self.invariant.heuristic_task c.self.invariant.heuristic_columns
    (sym c.is_listed.ensures ∙ c.if-is_listed.false)
    ∙ ap (λ (v : Covering). is_covered v.task v.certificate c.args.state.now total) c.self.view_is
