use Rattle.std.proofs.Common.{◌≡◌, ℕ, List, sym, subst}
use Rattle.std.specs.Prelude.{OnOk}
use Rattle.cost.specs.Distances.{Distance}
use Rattle.owner_theory.specs.Owners.{took}
use Rattle.owner.specs.Owned.{space_of, under}
use Rattle.owner.specs.Held.{message_at}
use Rattle.owner.proofs.owner.take_form.Goals as goal

pub returns-then-is_form-clause-taken : goal.returns-then-is_form-clause-taken
returns-then-is_form-clause-taken g c =
    let old = c.args.holdings.now in
    let m = c.args.message.now in
    subst (λ (s : List ℕ). OnOk c.take.result ((bound : Distance) → under c.take.new.self bound
    ≡ took (space_of g.S.Spread.owner old) (under old bound) (message_at s m.rank m.parent))) (sym c.requires.values) c.take.ensures.taken

pub returns-clause-taken : goal.returns-clause-taken
returns-clause-taken g c =
    let old = c.args.holdings.now in
    let m = c.args.message.now in
    subst (λ (s : List ℕ). OnOk c.take-2.result ((bound : Distance) → under c.take-2.new.self bound
    ≡ took (space_of g.S.Spread.owner old) (under old bound) (message_at s m.rank m.parent))) (sym c.requires.values) c.take-2.ensures.taken
