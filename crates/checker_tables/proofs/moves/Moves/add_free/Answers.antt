use Rattle.std.proofs.Common.{◌+◌, ◌*◌, ◌++◌, ◌∷◌, [], None, Some, Option, ℕ, subst, sym}
use Rattle.checker_tables.specs.Moves.{Leads, IsExtended}
use Rattle.std.specs.Prelude.{◌↔◌}
use Rattle.checker_tables.proofs.MoveLaws.{assigned, kept, by_pushed}
use Rattle.checker_tables.proofs.moves.Moves.add_free.Goals as goal

pub returns-in_default-clause-leads : goal.returns-in_default-clause-leads
returns-in_default-clause-leads c = λ a b.
    let m = c.args.self.now in
    let d = c.args.digit in
    subst (λ (e : Option ℕ). Leads c.push.new.self a b ↔ IsExtended m d None e a b) (sym c.in_default.is)
    (by_pushed c.push.new.self (m.free.items ++ record { range = d.range; source = d.weight; target = d.weight } ∷ []) m.source m.target
    c.in_ok-push.ensures.source c.in_ok-push.ensures.target c.in_ok-push.ensures.reached a b (IsExtended m d None None a b) (kept m d a b))

pub returns-clause-leads : goal.returns-clause-leads
returns-clause-leads c = λ a b.
    let m = c.args.self.now in
    let d = c.args.digit in
    subst (λ (e : Option ℕ). Leads c.push-2.new.self a b ↔ IsExtended m d None e a b) (sym c.in-Some.is)
    (by_pushed c.push-2.new.self (m.free.items ++ record { range = d.range; source = d.weight; target = 0 } ∷ []) m.source (m.target + c.in-Some.after * d.weight)
    c.in_ok-push-2.ensures.source c.in_ok-push-2.ensures.target c.in_ok-push-2.ensures.reached a b (IsExtended m d None (Some c.in-Some.after) a b) (assigned m d c.in-Some.after a b))
