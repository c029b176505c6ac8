use Rattle.std.proofs.Common.{ap, ◌∙◌}
use Rattle.board.specs.declared.views.View.{View}
use Rattle.engine_round.proofs.finish.finish.Goals as goal

pub close-best-requires : goal.close-best-requires
close-best-requires g c =
    (c.in_ok-own.ensures.own.0, ap (λ (v : View). v.parts) c.in_ok-own.ensures.own.1 ∙ c.requires.parts c.in_ok-own.ensures.memory)
