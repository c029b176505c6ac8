use Rattle.std.proofs.Common.{rules, ap, sym, ◌∙◌}
use Rattle.board.specs.Rule.{word_of}
use Rattle.board.proofs.Keeps.{offer_keeps}
use Rattle.board.proofs.words.Board.offer.Goals as goal

pub fetch_min-requires : goal.fetch_min-requires
fetch_min-requires c = (search rules, search rules, offer_keeps _ _ _ _ (search rules) (ap word_of c.word_of.ensures.back ∙ sym c.word_of.ensures.word))
