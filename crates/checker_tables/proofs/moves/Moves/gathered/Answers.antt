use Rattle.std.proofs.Common.{ap, ◌∙◌, refl, map, List}
use Rattle.checker_tables.specs.declared.moves.FreeDigit.{FreeDigit}
use Rattle.checker_tables.specs.Moves.{without_target}
use Rattle.checker_tables.proofs.ReachLaws.{are_gathered}
use Rattle.checker_tables.proofs.moves.Moves.gathered.Goals as goal

pub returns : goal.returns
returns c =
    are_gathered c.args.self.now (record { source = c.args.self.now.source; target = 0; free = c.in_ok-free.free })
    (c.in_ok-free.ensures ∙ ap (λ (ds : List FreeDigit). map without_target ds) c.deref.ensures.value) refl refl
