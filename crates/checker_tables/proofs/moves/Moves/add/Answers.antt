use Rattle.std.proofs.Common.{Option, ℕ, ◌<◌, sym, subst}
use Rattle.std.specs.Prelude.{◌↔◌}
use Rattle.checker_tables.specs.Moves.{Leads, IsExtended}
use Rattle.checker_tables.proofs.MoveLaws.{fixed}
use Rattle.checker_tables.proofs.moves.Moves.add.Goals as goal

pub returns-in_default-clause-leads : goal.returns-in_default-clause-leads
returns-in_default-clause-leads c = λ a b.
    subst (λ (e : Option ℕ). Leads c.add_free.new.self a b ↔ IsExtended c.args.self.now c.args.digit e c.args.effect a b) (sym c.in_default.is)
    (c.in_ok-add_free.ensures.leads a b)

pub returns-clause-leads : goal.returns-clause-leads
returns-clause-leads c = λ a b.
    let fits : c.in-Some.before < c.args.digit.range = rw c.in-Some.is at c.requires.condition in
    rw c.in-Some.is
    (fixed c.args.self.now c.args.digit c.args.effect c.in-Some.before c.unwrap_or-after.result fits (sym c.unwrap_or-after.ensures) a b)
