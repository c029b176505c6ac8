use Rattle.std.proofs.Common.{◌∙◌}
use Rattle.board.proofs.Keeps.{closes}
use Rattle.board.proofs.words.Board.close.Goals as goal

pub returns-clause-bound : goal.returns-clause-bound
returns-clause-bound c =
    let e = c.close_with-closed.ensures.values in
    c.distance_at-bound.ensures ∙ (closes _ _ _ _ _ _ e.2 c.requires.1 c.word.ensures c.word-units.ensures).bound_is

pub returns-clause-seen : goal.returns-clause-seen
returns-clause-seen c = let e = c.close_with-closed.ensures.values in (closes _ _ _ _ _ _ e.2 c.requires.1 c.word.ensures c.word-units.ensures).seen

pub returns-clause-units : goal.returns-clause-units
returns-clause-units c = let e = c.close_with-closed.ensures.values in (closes _ _ _ _ _ _ e.2 c.requires.1 c.word.ensures c.word-units.ensures).counted
